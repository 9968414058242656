use native.Mathlib.Omega.{arith}
use Rattle.std.proofs.lemmas.List.{length-take-le}
use Rattle.analysis.proofs.Places.{begins_take, begins_back}
use Rattle.analysis.proofs.ReachPass.{marks_start, marks_back, marks_end}
use Rattle.analysis.proofs.reach.mark_reached.Goals as goal

pub loop-event-init : goal.loop-event-init
loop-event-init c =
    let room = c.requires.0.order_room in
    rw (c.into_iter-event-iterator.ensures.into_iter_gives, c.rev-event-items.ensures.source, c.iter.ensures.rest)
    (begins_take _ _ room, λ a. rw (length-take-le _ _ room) (marks_start _ _ _ _ _ _ a _ c.requires.1))

pub loop-event-preserved : goal.loop-event-preserved
loop-event-preserved c =
    let (front, marks) = rw c.in-Some.ensures.steps at c.loop-event.invariant in
    let (one, some, here, rest) = begins_back _ _ _ front in
    (rest, λ a. rw c.from-v.ensures (marks_back _ _ _ _ _ _ a _ _ _ front (marks a) _ (rw c.from-v.ensures at c.mark_of.ensures)))

pub returns : goal.returns
returns c = marks_end _ _ _ _ _ _ c.requires.0 _ _ (omega (arith, c.in-None.ensures.steps.0)) (c.loop-event.invariant.1 c.requires.0)
