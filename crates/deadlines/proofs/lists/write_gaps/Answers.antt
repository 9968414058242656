use lib.Dec.{lit<}
use lib.IntN.{pos}
use mir.Syntax.{w64}
use Rattle.integers.proofs.Word.{difference_back}
use Rattle.sequences.proofs.Filling.{filling_more}
use Rattle.deadlines.proofs.lists.write_gaps.Goals as goal

pub loop-v-preserved : goal.loop-v-preserved
loop-v-preserved c =
    filling_more (pos 0) _ _ _ c.loop-v.v _ _ c.requires.in_bounds.2 c.loop-v.invariant c.loop-v-test.true
    (difference_back w64 2046000001 2046000001 _ _ (lit< tt) (c.requires.numbers_within _ c.loop-v-test.true) (c.requires.numbers_within _ c.requires.in_bounds.0))
