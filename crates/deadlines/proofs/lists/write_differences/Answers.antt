use lib.Dec.{lit<}
use lib.IntN.{pos}
use mir.Syntax.{w64}
use Rattle.integers.proofs.Word.{difference_back}
use Rattle.sequences.proofs.Filling.{filling_more}
use Rattle.deadlines.proofs.lists.write_differences.Goals as goal
use Rattle.deadlines.proofs.lists.write_differences.Goals.{In-loop-i}

pub loop-i-preserved : goal.loop-i-preserved
loop-i-preserved c =
    let r = c.requires.timed c.loop-i.i c.loop-i-test.true in
    filling_more (pos 0) _ _ _ c.loop-i.i _ _ c.requires.lengths.2 c.loop-i.invariant c.loop-i-test.true
    (difference_back w64 4092000002 4092000002 _ _ (lit< tt) r.target_within r.source_within)
