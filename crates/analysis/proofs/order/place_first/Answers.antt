use mathlib.Core.Path.{◌≡◌, sym, subst, ◌∙◌}
use mathlib.Core.List.{List}
use Prim.Native.Nat.{ℕ, ◌+◌, ◌<◌, ◌≤◌}
use native.Mathlib.Omega.{arith}
use Rattle.std.proofs.lemmas.List.{length-take-le, get_or-take}
use Rattle.analysis.specs.Parts.Placing.{Progress, Serving}
use Rattle.analysis.proofs.Placement.{Joins, room_left, progress_start, progress_place, progress_keep}
use Rattle.analysis.proofs.order.place_first.Goals as goal
use Rattle.analysis.proofs.order.place_first.Goals.{In-loop-v, Then-left-eq0, then-left-eq0, else-left-eq0}

-- the event at hand
known : (c : In-loop-v) → c.loop-v.v < c.args.chains.now.lists.events
known c = omega (arith, c.loop-v-test.true, length-take-le _ _ c.requires.waiting_room)

-- the next place exists
room : (c : Then-left-eq0) → (c.loop-v.tail < c.args.chains.now.lists.events) × (c.args.chains.now.lists.events ≤ 1024)
room c =
    let p = c.loop-v.invariant in
    (room_left p.placed c.loop-v.v (omega (arith, c.loop-v-test.true, length-take-le c.args.chains.now.lists.events _ c.requires.waiting_room)) (p.undue_left c.loop-v.v (λ l. omega arith)), c.requires.kept.few_events)

-- event v becomes due
joins : (v : ℕ) → Joins (λ (u : ℕ). u < v) (λ (u : ℕ). u < v + 1) v
joins v = record { not_before = λ l. omega arith; after = omega arith; others = λ u q l. omega arith; stays = λ u l. omega arith }

all_due : {n v tail : ℕ} {ss ts waiting order : List ℕ} → v ≡ n → Progress n ss ts waiting order tail 0 5000 (λ (u : ℕ). u < v) → Serving n ss ts waiting order tail 0
all_due {n} {v} {tail} {ss} {ts} {waiting} {order} e = subst (λ (k : ℕ). Progress n ss ts waiting order tail 0 5000 (λ (u : ℕ). u < k)) e

pub loop-v-init : goal.loop-v-init
loop-v-init c = progress_start _ _ _ c.requires.kept _ _ c.requires

pub offset_bounds-order-tail : goal.offset_bounds-order-tail
offset_bounds-order-tail c = omega (arith, room c)

pub bounds-order-tail : goal.bounds-order-tail
bounds-order-tail c = omega (arith, room (goal.at.bounds-order-tail c).Then-left-eq0, c.loop-v.auto.order, c.requires.order_room)

pub overflow_add-tail : goal.overflow_add-tail
overflow_add-tail c = omega (arith, room (goal.at.overflow_add-tail c).Then-left-eq0)

pub loop-v-preserved : goal.loop-v-preserved
loop-v-preserved c =
    let p = c.loop-v.invariant in
    let l = known (goal.at.loop-v-preserved c).In-loop-v in
    let same = get_or-take c.args.chains.now.lists.events c.args.waiting.now c.loop-v.v 0 l in
    elim c.if-left-eq0.branch [
      | then-left-eq0 w ↦ rw (w.order-is, w.tail-is) (progress_place _ _ _ c.requires.kept _ _ _ _ _ _ _ _ l (joins c.loop-v.v) (sym same ∙ w.if-left-eq0.true) p)
      | else-left-eq0 w ↦ rw (w.order-is, w.tail-is) (progress_keep _ _ _ c.requires.kept (joins c.loop-v.v) (let busy = rw same at w.if-left-eq0.false in omega arith) p)
    ]

pub returns : goal.returns
returns c = all_due (omega (arith, c.loop-v-test.false, c.loop-v.invariant.placed, length-take-le _ _ c.requires.waiting_room)) c.loop-v.invariant
