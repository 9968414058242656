use mathlib.Core.Path.{◌≡◌, refl, sym, ap, ◌∙◌}
use mathlib.Core.List.{List}
use Prim.Native.Nat.{ℕ, ◌<◌}
use native.Mathlib.Omega.{arith}
use lib.IntN.{ℤ, pos}
use lib.ListN.{get_or}
use Rattle.std.proofs.lemmas.List.{length-take-le, get_or-take}
use mir.Syntax.{w32}
use mir.Val.{to_z, of_z}
use mir.ValLaws.{to_z-of_z}
use Rattle.analysis.specs.Parts.Paths.{absent}
use Rattle.analysis.specs.Parts.InChains.{PassReadyIn, PushReadyIn}
use Rattle.analysis.proofs.MPass.{pass_held, pass_done, pass_over, pass_end, absent_dead}
use Rattle.analysis.proofs.paths.push_all.Goals as goal
use Rattle.analysis.proofs.paths.push_all.Goals.{In-loop-event, After-from-v, then-m-v-ne-ABSENT, else-m-v-ne-ABSENT}

place : (c : After-from-v) → (s : ℕ) (m₋ : List ℤ) → PassReadyIn c.args.chains.now c.args.order.now s m₋ c.args.m.now → c.loop-event.event-index < c.args.chains.now.lists.events
place c s m₋ r = omega (arith, c.loop-event-test.true, length-take-le c.args.chains.now.lists.events c.args.order.now r.ready.arranged.order_room)

-- the event at hand is the one at its place in the order
here : (c : After-from-v) → c.loop-event.event-index < c.args.chains.now.lists.events → c.from-v.result ≡ get_or c.args.order.now c.loop-event.event-index 0
here c l = c.from-v.ensures ∙ get_or-take _ _ _ _ l

abbrev ready : (c : In-loop-event) → (get_or c.loop-event.m (get_or c.args.order.now c.loop-event.event-index 0) (pos 0) ≡ absent → ⊥) → (s : ℕ) (m₋ : List ℤ) → PassReadyIn c.args.chains.now c.args.order.now s m₋ c.args.m.now →
    PushReadyIn c.args.chains.now c.args.order.now s c.loop-event.event-index (get_or c.args.order.now c.loop-event.event-index 0) m₋ c.loop-event.m
ready c some s m₋ r =
    record {
      ready = record { arranged = r.ready.arranged; sized = r.ready.sized; source_known = r.ready.source_known; room = omega (arith, r.ready.room, c.loop-event.auto.m) };
      place = omega (arith, c.loop-event-test.true, length-take-le _ _ r.ready.arranged.order_room);
      here = refl;
      some = some;
      pass = c.loop-event.invariant s m₋ r;
    }

pub push-requires : goal.push-requires
push-requires c =
    let (s, m₋, r) = c.requires in
    let at = (goal.at.push-requires c).After-from-v in
    let same = here at (place at s m₋ r) in
    (c.args.order.now, s, c.loop-event.event-index, m₋, rw same (ready (goal.at.push-requires c).In-loop-event (λ e. (rw same at c.if-m-v-ne-ABSENT.true) (ap (of_z w32) e)) s m₋ r))

pub loop-event-preserved : goal.loop-event-preserved
loop-event-preserved c =
    λ s m₋ r.
    let at = (goal.at.loop-event-preserved c).In-loop-event in
    let pass = c.loop-event.invariant s m₋ r in
    let l = place (goal.at.loop-event-preserved c).After-from-v s m₋ r in
    let same = here (goal.at.loop-event-preserved c).After-from-v l in
    elim c.if-m-v-ne-ABSENT.branch [
      | then-m-v-ne-ABSENT w ↦
          rw w.m-is
          (pass_done _ _ _ _ _ _ _ _ s r.ready.arranged r.ready.sized _ _ l refl m₋ _
          ((rw same at w.push.ensures) c.args.order.now s c.loop-event.event-index m₋ (ready at (λ e. (rw same at w.if-m-v-ne-ABSENT.true) (ap (of_z w32) e)) s m₋ r)))
      | else-m-v-ne-ABSENT w ↦
          let held = pass_held _ _ _ _ _ _ _ _ s r.ready.arranged r.ready.sized _ _ l refl m₋ _ pass in
          let x = get_or c.loop-event.m c.from-v.result (pos 0) in
          let none : x ≡ absent = sym (to_z-of_z w32 x (record { sfits = search })) ∙ ap (to_z w32) w.if-m-v-ne-ABSENT.false in
          let is-absent = rw same at none in
          rw w.m-is (pass_over _ _ _ _ _ _ _ _ s r.ready.arranged r.ready.sized _ _ l refl m₋ _ (absent_dead r.ready.sized r.ready.arranged.ordered is-absent held) pass)
    ]

pub returns : goal.returns
returns c = λ s m₋ r. pass_end _ _ _ _ _ _ _ _ s r.ready.arranged r.ready.sized m₋ _ c.loop-event.event-index (omega (arith, c.loop-event-test.false, length-take-le c.args.chains.now.lists.events c.args.order.now r.ready.arranged.order_room)) (c.loop-event.invariant s m₋ r)
