-- Going through the numbers below a bound.
--     below_next     what holds of the numbers below r and of r holds of the numbers below r + 1
-- Assumes nothing.
use mathlib.Core.Path.{◌≡◌, subst}
use Prim.Native.Nat.{ℕ, suc, ◌<◌}
use native.Mathlib.Decide.{dec_lt}
use native.Mathlib.Omega.{arith}

pub below_next : (P : ℕ → Type 0) (r : ℕ) → ((i : ℕ) → i < r → P i) → P r → (i : ℕ) → i < suc r → P i
below_next P r before here i l = by (dec_lt i r)
  where
    by : Dec (i < r) → P i
    by (yes k) = before i k
    by (no k) = subst P (let same : r ≡ i = omega arith in same) here
