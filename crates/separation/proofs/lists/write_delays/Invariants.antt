-- `write_delays` meets its contract: a loop that fills one place for each rule. Assumes nothing.
use lib.IntN.{pos}
use lib.ListN.{length}
use Rattle.separation.specs.Parts.Lists.{DelayAt}
use Rattle.sequences.proofs.Filling.{Filling}
use Rattle.separation.proofs.lists.write_delays.Given as goal

abbrev pub invariant-loop-i : goal.invariant-loop-i
invariant-loop-i l = Filling (pos 0) (length l.lists.sources.now) (DelayAt l.lists.sources.now l.lists.targets.now l.lists.mosts.now l.times) l.initial.delays l.i l.delays
