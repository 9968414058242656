-- `find_u` meets its contract. The invariant: a front of the order is left, and the events after it have their U and their depth. Assumes nothing.
use Prim.Native.Nat.{ℕ}
use lib.ListN.{length}
use Rattle.analysis.specs.Parts.InChains.{LatestReadyIn}
use Rattle.analysis.proofs.Places.{Begins}
use Rattle.analysis.proofs.LatestPass.{Pulled}
use Rattle.analysis.proofs.latest.find_u.Given as goal

abbrev pub invariant-loop-event : goal.invariant-loop-event
invariant-loop-event l =
    Begins l.event-iterator.iter.rest.now l.order ×
    ((s : ℕ) (r : LatestReadyIn l.chains l.order s l.initial.us l.initial.depth) →
    Pulled l.chains.lists.events l.chains.lists.sources.now l.chains.lists.targets.now l.chains.lists.leasts.now l.chains.lists.mosts.now l.chains.heads.now l.chains.nexts.now l.order s l.initial.us l.initial.depth r
    (length l.event-iterator.iter.rest.now) l.us l.depth)
