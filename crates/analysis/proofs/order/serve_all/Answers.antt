use mathlib.Core.Path.{◌≡◌, subst}
use mathlib.Core.List.{List}
use Prim.Native.Nat.{ℕ, ◌<◌, ◌≤◌}
use Rattle.analysis.specs.Parts.Placing.{Serving}
use native.Mathlib.Omega.{arith}
use Rattle.analysis.proofs.order.serve_all.Goals as goal
use Rattle.analysis.proofs.order.serve_all.Goals.{In-loop-head}

bounds : (c : In-loop-head) → (c.loop-head.head < c.loop-head.tail) × (c.loop-head.tail ≤ 1024)
bounds c = (c.loop-head-test.true, omega (arith, c.loop-head.invariant.placed.left_tail, c.args.chains.now.kept.few_events))

pub overflow_add-head : goal.overflow_add-head
overflow_add-head c = omega (arith, bounds (goal.at.overflow_add-head c).In-loop-head)

pub loop-head-smaller : goal.loop-head-smaller
loop-head-smaller c = omega (arith, bounds (goal.at.loop-head-smaller c).In-loop-head)

ended : {n tail head : ℕ} {ss ts waiting order : List ℕ} → head ≡ tail → Serving n ss ts waiting order tail head → Serving n ss ts waiting order tail tail
ended {n} {tail} {ss = ss} {ts = ts} {waiting = waiting} {order = order} all = subst (Serving n ss ts waiting order tail) all

pub returns : goal.returns
returns c = ended (omega (arith, c.loop-head-test.false, c.loop-head.invariant.clock)) c.loop-head.invariant
