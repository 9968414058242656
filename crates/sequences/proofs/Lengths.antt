-- Two numbers compared, from what they are not.
--     stable    numbers that do not differ are equal
-- Assumes nothing.
use mathlib.Core.Path.{◌≡◌}
use Prim.Native.Nat.{ℕ}
use native.Mathlib.Decide.{ℕ_discrete}

pub stable : (m n : ℕ) → ((m ≡ n → ⊥) → ⊥) → m ≡ n
stable m n h = by (ℕ_discrete m n)
  where
    by : Dec (m ≡ n) → m ≡ n
    by (yes e) = e
    by (no other) = absurd (h other)
