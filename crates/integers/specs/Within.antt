-- A whole number between two bounds.
--     Within b z    == z lies from −b to b
-- Assumes nothing.
use Rattle.std.specs.Prelude.{ℕ, ℤ, pos, neg_ℤ, ◌≤ℤ◌}

pub record Within (b : ℕ) (z : ℤ) : Type 0 where
  pub above : neg_ℤ (pos b) ≤ℤ z
  pub below : z ≤ℤ pos b
