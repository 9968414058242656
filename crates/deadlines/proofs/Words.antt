-- A negation of a word that holds a small number, as the code forms it.
--     minus_back    the bits of 0 − x are read back as −x
-- Assumes nothing.
use mathlib.Core.Path.{◌≡◌, ◌∙◌}
use Prim.Native.Nat.{ℕ, ◌<◌, ◌^◌}
use native.Mathlib.Omega.{arith}
use lib.IntN.{ℤ, pos, neg_ℤ, ◌-ℤ◌}
use mir.Syntax.{w64}
use mir.Val.{hbits, to_z, of_z}
use Rattle.integers.specs.Within.{Within}
use Rattle.integers.proofs.Integer.{linear, difference, negation}
use Rattle.integers.proofs.Word.{difference_back}

pub minus_back : (b : ℕ) (x : ℤ) → b < 2 ^ hbits w64 → Within b x → to_z w64 (of_z w64 (pos 0 -ℤ to_z w64 (of_z w64 x))) ≡ neg_ℤ x
minus_back b x small h =
    let none : Within 0 (pos 0) = record { above = omega linear; below = omega linear } in
    difference_back w64 0 b (pos 0) x (omega arith) none h ∙ omega (linear, difference (pos 0) x, negation x)
