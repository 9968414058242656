-- `write_differences` meets its contract: a loop that fills one place for each rule. Assumes nothing.
use lib.IntN.{pos}
use lib.ListN.{length}
use Rattle.sequences.proofs.Filling.{Filling}
use Rattle.deadlines.specs.Parts.Lists.{DifferenceAt}
use Rattle.deadlines.proofs.lists.write_differences.Given as goal

abbrev pub invariant-loop-i : goal.invariant-loop-i
invariant-loop-i l = Filling (pos 0) (length l.lists.sources.now) (DifferenceAt l.lists.sources.now l.lists.targets.now l.times) l.initial.delays l.i l.delays
