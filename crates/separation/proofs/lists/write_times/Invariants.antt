-- `write_times` meets its contract: a loop that fills the first n places. Assumes nothing.
use lib.IntN.{pos}
use Rattle.separation.specs.Parts.Lists.{TimeAt}
use Rattle.sequences.proofs.Filling.{Filling}
use Rattle.separation.proofs.lists.write_times.Given as goal

abbrev pub invariant-loop-v : goal.invariant-loop-v
invariant-loop-v l = Filling (pos 0) l.n (TimeAt l.latest) l.initial.times l.v l.times
