-- `value_at` of a set meets its contract. The invariant: what is reached is the value of the pairs passed. Assumes nothing.
use Rattle.std.proofs.Common.{map, take, Ok}
use Rattle.sets.specs.Held.{pair_of}
use Rattle.sets.specs.Promise.{Valued}
use Rattle.sets.proofs.PrunedSet.value_at.Given as goal

abbrev pub invariant-loop-pair : goal.invariant-loop-pair
invariant-loop-pair l = Valued (map pair_of (take l.pair-index l.pair-items)) l.x (Ok l.greatest)
