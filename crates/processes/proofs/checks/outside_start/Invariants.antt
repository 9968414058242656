-- `outside_start` meets its contract: a search from template 0 upwards, in which a good template has another mark or its start interval inside.
-- Assumes nothing.
use Prim.Native.Nat.{ℕ, ◌<◌}
use Rattle.processes.specs.Parts.Checks.{StartKept}
use Rattle.processes.proofs.checks.outside_start.Given as goal

abbrev pub invariant-loop-j : goal.invariant-loop-j
invariant-loop-j l = (i : ℕ) → i < l.j → StartKept l.marks l.start_leasts l.start_mosts i
