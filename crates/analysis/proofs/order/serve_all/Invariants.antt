-- `serve_all` serves every placed event. The invariant: the first `head` places have been served. Assumes nothing.
use Prim.Native.Nat.{◌-◌}
use Rattle.analysis.specs.Parts.InChains.{ServingIn}
use Rattle.analysis.proofs.order.serve_all.Given as goal

abbrev pub invariant-loop-head : goal.invariant-loop-head
invariant-loop-head l = ServingIn l.chains l.waiting l.order l.tail l.head

abbrev pub decreases-loop-head : goal.decreases-loop-head
decreases-loop-head l = 1024 - l.head
