use mathlib.Core.Path.{sym, ◌∙◌}
use native.Mathlib.Omega.{arith}
use Rattle.std.proofs.lemmas.List.{length-take-le}
use Rattle.analysis.proofs.Places.{begins_take, begins_back}
use Rattle.analysis.proofs.LatestPass.{pulled_start, pulled_arrivals, pulled_other, pulled_root, pulled_latest, pulled_depths}
use Rattle.analysis.proofs.latest.find_u.Goals as goal

pub loop-event-init : goal.loop-event-init
loop-event-init c =
    let (s, r) = c.requires in
    rw (c.into_iter-event-iterator.ensures.into_iter_gives, c.rev-event-items.ensures.source, c.iter.ensures.rest)
    (begins_take _ _ r.arranged.order_room, λ s r. rw (length-take-le _ _ r.arranged.order_room) (pulled_start _ _ _ _ _ _ _ _ s _ _ r))

pub settle-requires-clause-arrivals : goal.settle-requires-clause-arrivals
settle-requires-clause-arrivals c =
    let (s, r) = c.requires in
    let (front, pulled) = rw c.in-Some.ensures.steps at c.loop-event.invariant in
    let (one, some, here, rest) = begins_back _ _ _ front in
    let v = c.from-v.ensures ∙ sym here in
    rw v (pulled_arrivals _ _ _ _ _ _ _ _ s _ _ r _ _ _ some (pulled s r) (rw v at c.if-v-ne0.true))

pub loop-event-preserved-then-v-ne0 : goal.loop-event-preserved-then-v-ne0
loop-event-preserved-then-v-ne0 c =
    let (front, pulled) = rw c.in-Some.ensures.steps at c.loop-event.invariant in
    let (one, some, here, rest) = begins_back _ _ _ front in
    let v = c.from-v.ensures ∙ sym here in
    (rest, λ s r. rw one at (pulled_other _ _ _ _ _ _ _ _ s _ _ r _ _ _ some (pulled s r) (rw v at c.if-v-ne0.true) _ _ (rw v at c.settle.ensures)))

pub loop-event-preserved : goal.loop-event-preserved
loop-event-preserved c =
    let (front, pulled) = rw c.in-Some.ensures.steps at c.loop-event.invariant in
    let (one, some, here, rest) = begins_back _ _ _ front in
    let v = c.from-v.ensures ∙ sym here in
    (rest, λ s r. rw one at (pulled_root _ _ _ _ _ _ _ _ s _ _ r _ _ _ some (pulled s r) (rw v at c.if-v-ne0.false)))

pub returns : goal.returns
returns c =
    λ s r.
    let p = c.loop-event.invariant.1 s r in
    let none = c.in-None.ensures.steps.0 in
    (pulled_latest _ _ _ _ _ _ _ _ s _ _ r _ (omega (arith, none)) _ _ p, pulled_depths _ _ _ _ _ _ _ _ s _ _ r _ (omega (arith, none)) _ _ p)
