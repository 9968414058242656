-- One step from the multiple beside a delay, as the code takes it. The code holds bits: `to_z w64 (of_z w64 z)` reads z back, where z is small enough.
--     step_held                          a step of up to 1,000 reads back as itself
--     step_less_fits, step_more_fits     one step from the multiple beside a delay fits a word
--     down_by_step, down_as_is           where the multiple beside x lies above x, one step less is where x goes down to; else the multiple itself is
--     up_by_step, up_as_is               where it lies below x, one step more is where x goes up to; else the multiple itself is
-- Assumes nothing.
use mathlib.Core.Path.{◌≡◌}
use mathlib.Core.Bool.{true, false}
use Prim.Native.Nat.{ℕ, ◌≤◌}
use native.Mathlib.Omega.{arith}
use lib.Dec.{lit<}
use lib.IntN.{ℤ, pos, ◌+ℤ◌, ◌-ℤ◌}
use lib.Signed.{lt_z}
use mir.Syntax.{w64}
use mir.Val.{SFits, to_z, of_z}
use mir.Facts.{to_z_pos}
use Rattle.integers.specs.Within.{Within}
use Rattle.integers.proofs.Integer.{linear, negation}
use Rattle.integers.proofs.Word.{within_fits, read_back, within_wider, within_sum, within_difference}
use Rattle.rounding.specs.Rounding.{Down, Up}
use Rattle.rounding.specs.Parts.Beside.{Beside}
use Rattle.rounding.proofs.Multiples.{beside_within, beside_down, beside_up, step_down, step_up, down_within, up_within}

pub step_held : {step : ℕ} → step ≤ 1000 → to_z w64 step ≡ pos step
step_held few = to_z_pos w64 (omega arith)

-- what is said of a small number is said of its bits
held : (R : ℤ → Type 0) (r : ℤ) → R r → Within 1000999 r → R (to_z w64 (of_z w64 r)) × Within 1000999 (to_z w64 (of_z w64 r))
held R r a k = rw (read_back w64 1000999 r (lit< tt) k) (a, k)

module _ {step : ℕ} {x y : ℤ} (few : step ≤ 1000) (near : Within 1000000 x) (found : Beside step (to_z w64 (of_z w64 x)) y) where
  x_held : to_z w64 (of_z w64 x) ≡ x
  x_held = read_back w64 1000000 x (lit< tt) near

  beside : Beside step x y
  beside = rw x_held at found

  y_within : Within 1001000 y
  y_within = within_wider (omega arith) (beside_within beside near)

  y_held : to_z w64 (of_z w64 y) ≡ y
  y_held = read_back w64 1001000 y (lit< tt) y_within

  one_step : Within 1000 (pos step)
  one_step = record { above = omega (linear, negation (pos 1000)); below = omega linear }

  pub step_less_fits : SFits w64 (to_z w64 (of_z w64 y) -ℤ to_z w64 step)
  step_less_fits = rw (y_held, step_held few) (within_fits w64 1002000 _ (lit< tt) (within_difference y_within one_step))

  pub step_more_fits : SFits w64 (to_z w64 (of_z w64 y) +ℤ to_z w64 step)
  step_more_fits = rw (y_held, step_held few) (within_fits w64 1002000 _ (lit< tt) (within_sum y_within one_step))

  pub down_by_step : lt_z (to_z w64 (of_z w64 x)) (to_z w64 (of_z w64 y)) ≡ true → Down step x (to_z w64 (of_z w64 (to_z w64 (of_z w64 y) -ℤ to_z w64 step))) × Within 1000999 (to_z w64 (of_z w64 (to_z w64 (of_z w64 y) -ℤ to_z w64 step)))
  down_by_step h =
      let d : Down step x (y -ℤ pos step) = step_down beside (omega (linear, rw (x_held, y_held) at h)) in
      rw (y_held, step_held few) (held (Down step x) _ d (down_within few near d))

  pub down_as_is : lt_z (to_z w64 (of_z w64 x)) (to_z w64 (of_z w64 y)) ≡ false → Down step x (to_z w64 (of_z w64 y)) × Within 1000999 (to_z w64 (of_z w64 y))
  down_as_is h =
      let d : Down step x y = beside_down beside (omega (linear, rw (x_held, y_held) at h)) in
      held (Down step x) y d (down_within few near d)

  pub up_by_step : lt_z (to_z w64 (of_z w64 y)) (to_z w64 (of_z w64 x)) ≡ true → Up step x (to_z w64 (of_z w64 (to_z w64 (of_z w64 y) +ℤ to_z w64 step))) × Within 1000999 (to_z w64 (of_z w64 (to_z w64 (of_z w64 y) +ℤ to_z w64 step)))
  up_by_step h =
      let u : Up step x (y +ℤ pos step) = step_up beside (omega (linear, rw (x_held, y_held) at h)) in
      rw (y_held, step_held few) (held (Up step x) _ u (up_within few near u))

  pub up_as_is : lt_z (to_z w64 (of_z w64 y)) (to_z w64 (of_z w64 x)) ≡ false → Up step x (to_z w64 (of_z w64 y)) × Within 1000999 (to_z w64 (of_z w64 y))
  up_as_is h =
      let u : Up step x y = beside_up beside (omega (linear, rw (x_held, y_held) at h)) in
      held (Up step x) y u (up_within few near u)
