-- `toward_zero` meets its contract: numbers this small fit their words, and `quotient_beside` says what the quotient times the step is. Assumes nothing.
use mathlib.Core.Path.{◌≡◌}
use Prim.Native.Nat.{ℕ, ◌≤◌}
use native.Mathlib.Omega.{arith}
use lib.Dec.{lit<}
use lib.IntN.{ℤ, pos, ◌*ℤ◌}
use lib.Signed.{quot_z}
use mir.Syntax.{w64}
use mir.Val.{SFits, to_z, of_z}
use Rattle.integers.specs.Within.{Within}
use Rattle.integers.proofs.Word.{within_fits, read_back, within_wider}
use Rattle.integers.proofs.Division.{quotient_within}
use Rattle.rounding.specs.Parts.Beside.{Beside}
use Rattle.rounding.proofs.Multiples.{quotient_beside, beside_within}
use Rattle.rounding.proofs.Outward.{step_held}
use Rattle.rounding.proofs.toward_zero.Goals as goal

module _ (x : ℤ) (step : ℕ) (some : 1 ≤ step) (few : step ≤ 1000) (near : Within 1000000 x) where
  x-bits : to_z w64 (of_z w64 x) ≡ x
  x-bits = read_back w64 1000000 x (lit< tt) near

  quotient_fits : SFits w64 (quot_z (to_z w64 (of_z w64 x)) (to_z w64 step))
  quotient_fits = simp (x-bits, step_held few) (within_fits w64 1000000 (quot_z x (pos step)) (lit< tt) (quotient_within x step near))

  quotient-bits : to_z w64 (of_z w64 (quot_z (to_z w64 (of_z w64 x)) (to_z w64 step))) ≡ quot_z x (pos step)
  quotient-bits = simp (x-bits, step_held few) (read_back w64 1000000 (quot_z x (pos step)) (lit< tt) (quotient_within x step near))

  multiple-within : Within 1001000 (quot_z x (pos step) *ℤ pos step)
  multiple-within = within_wider (omega arith) (beside_within (quotient_beside x step some) near)

  product-fits : SFits w64 (to_z w64 (of_z w64 (quot_z (to_z w64 (of_z w64 x)) (to_z w64 step))) *ℤ to_z w64 step)
  product-fits = rw (quotient-bits, step_held few) (within_fits w64 1001000 _ (lit< tt) multiple-within)

  product-beside : Beside step x (to_z w64 (of_z w64 (to_z w64 (of_z w64 (quot_z (to_z w64 (of_z w64 x)) (to_z w64 step))) *ℤ to_z w64 step)))
  product-beside = rw (quotient-bits, step_held few, read_back w64 1001000 _ (lit< tt) multiple-within) (quotient_beside x step some)

pub nonzero_div-result : goal.nonzero_div-result
nonzero_div-result c = (c.args.step.some, quotient_fits c.args.x c.args.step.ticks c.args.step.some c.args.step.few c.requires)

pub overflow_mul-result : goal.overflow_mul-result
overflow_mul-result c = product-fits c.args.x c.args.step.ticks c.args.step.some c.args.step.few c.requires

pub returns : goal.returns
returns c = product-beside c.args.x c.args.step.ticks c.args.step.some c.args.step.few c.requires
