-- `beyond_delay` meets its contract: a search from entry 0 upwards, in which a good entry has its delays inside. Assumes nothing.
use Prim.Native.Nat.{ℕ, ◌<◌}
use Rattle.refusals.specs.Faults.{DelaysBounded}
use Rattle.refusals.proofs.beyond_delay.Given as goal

abbrev pub invariant-loop-i : goal.invariant-loop-i
invariant-loop-i l = (j : ℕ) → j < l.i → DelaysBounded l.bound l.leasts l.mosts j
