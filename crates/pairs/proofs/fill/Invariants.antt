-- `pairs::fill` keeps its count within the list. Assumes nothing.
use Rattle.std.proofs.Common.{◌≤◌, length}
use Rattle.pairs.proofs.fill.Given as goal

abbrev pub invariant-loop : goal.invariant-loop
invariant-loop g l = l.done ≤ length l.buffer
