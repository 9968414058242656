-- `mark_reached` meets its contract. The invariant: a front of the order is left, and the events after it are marked as they should be. Assumes nothing.
use lib.ListN.{length}
use Rattle.analysis.specs.Parts.InChains.{ArrangedIn}
use Rattle.analysis.proofs.Places.{Begins}
use Rattle.analysis.proofs.ReachPass.{MarksFrom}
use Rattle.analysis.proofs.reach.mark_reached.Given as goal

abbrev pub invariant-loop-event : goal.invariant-loop-event
invariant-loop-event l =
    Begins l.event-iterator.iter.rest.now l.order ×
    ((a : ArrangedIn l.chains l.order) →
    MarksFrom l.chains.lists.events l.chains.lists.sources.now l.chains.lists.targets.now l.chains.heads.now l.chains.nexts.now l.order a l.marks (length l.event-iterator.iter.rest.now))
