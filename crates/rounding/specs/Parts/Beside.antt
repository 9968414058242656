-- What is found on the way to a rounded delay. No promise to a caller speaks of it.
--     Beside q x y    == y is a multiple of q less than q away from x, on either side: what the division that rounds toward zero gives
-- Assumes nothing.
use Rattle.std.specs.Prelude.{ℕ, ℤ, pos, ◌+ℤ◌, ◌<ℤ◌}
use Rattle.rounding.specs.Rounding.{Multiple}

pub record Beside (q : ℕ) (x y : ℤ) : Type 0 where
  pub multiple : Multiple q y
  pub next_above : x <ℤ (y +ℤ pos q)
  pub next_below : y <ℤ (x +ℤ pos q)
