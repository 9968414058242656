-- `value_at` of a set meets its contract. Assumes nothing.
use Rattle.std.proofs.Common.{rules}
use mir.Facts.{to_z-of_z}
use Rattle.sets.proofs.Reaching.{first_places, place_more, place_outside, place_end}
use Rattle.sets.proofs.PrunedSet.value_at.Goals as goal

pub returns-in_err-value_at : goal.returns-in_err-value_at
returns-in_err-value_at c =
    place_outside _ _ _ _ _ c.loop-pair.pair-index (first_places _ _ _ (search rules) c.min.ensures) (to_z-of_z c.ranges.x) c.loop-pair-test.true _ c.value_at.ensures _ c.in_err-value_at.was _ c.from_residual.ensures.0

pub loop-pair-preserved : goal.loop-pair-preserved
loop-pair-preserved c =
    place_more _ _ _ c.loop-pair.pair-index c.loop-pair-test.true _ c.value_at.ensures c.loop-pair.greatest _ _ c.loop-pair.invariant c.in_ok-value_at.was (search rules)

pub returns : goal.returns
returns c = place_end _ _ _ _ _ c.loop-pair.greatest (first_places _ _ _ (search rules) c.min.ensures) (to_z-of_z c.ranges.x) c.loop-pair-test.false c.loop-pair.invariant
