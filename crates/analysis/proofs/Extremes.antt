-- What the library's `min` and `max` give, in the words of the steps.
--     least_is       the lesser of two numbers
--     greatest_is    the greater of two
--     deepest_is     the same of natural numbers
-- Assumes nothing.
use mathlib.Core.Path.{◌≡◌, refl, subst, sym}
use mathlib.Core.Bool.{Bool, true, false, cond}
use mathlib.Core.Logic.{inl, inr}
use Prim.Native.Nat.{ℕ, ◌<◌, max}
use native.Mathlib.Decide.{dec_lt}
use native.Mathlib.Omega.{arith}
use lib.IntN.{ℤ, pos}
use lib.Signed.{lt_z}
use Rattle.std.specs.Int.{int_min, int_max}
use Rattle.integers.proofs.Integer.{linear}
use Rattle.executions.specs.Steps.{Lesser}
use Rattle.analysis.specs.Parts.Latest.{Greater}

pub least_is : (x y z : ℤ) → z ≡ int_min x y → Lesser x y z
least_is x y z e = subst (Lesser x y) (sym e) (by (lt_z y x) refl)
  where
    by : (b : Bool) → lt_z y x ≡ b → Lesser x y (cond b y x)
    by true h = record { left = omega linear; right = omega linear; one = inr refl }
    by false h = record { left = omega linear; right = omega linear; one = inl refl }

pub greatest_is : (x y z : ℤ) → z ≡ int_max x y → Greater x y z
greatest_is x y z e = subst (Greater x y) (sym e) (by (lt_z y x) refl)
  where
    by : (b : Bool) → lt_z y x ≡ b → Greater x y (cond b x y)
    by true h = record { left = omega linear; right = omega linear; one = inl refl }
    by false h = record { left = omega linear; right = omega linear; one = inr refl }

pub deepest_is : (x y z : ℕ) → z ≡ max x y → Greater (pos x) (pos y) (pos z)
deepest_is x y z e = by (dec_lt x y)
  where
    by : Dec (x < y) → Greater (pos x) (pos y) (pos z)
    by (yes l) = let it : z ≡ y = omega arith in record { left = omega linear; right = omega linear; one = inr (rw it refl) }
    by (no l) = let it : z ≡ x = omega arith in record { left = omega linear; right = omega linear; one = inl (rw it refl) }
