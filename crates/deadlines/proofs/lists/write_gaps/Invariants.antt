-- `write_gaps` meets its contract: a loop that fills the first n places. Assumes nothing.
use lib.IntN.{pos}
use Rattle.sequences.proofs.Filling.{Filling}
use Rattle.deadlines.specs.Parts.Lists.{GapAt}
use Rattle.deadlines.proofs.lists.write_gaps.Given as goal

abbrev pub invariant-loop-v : goal.invariant-loop-v
invariant-loop-v l = Filling (pos 0) l.n (GapAt l.numbers l.s) l.initial.gaps l.v l.gaps
