-- Counting.
--     Counted P k c     == exactly c of the numbers below k satisfy P
-- Assumes nothing.
use Rattle.std.specs.Prelude.{ℕ, suc}

pub data Counted (P : ℕ → Type 0) : ℕ → ℕ → Type 0 where
  none : Counted P 0 0
  hit : {k c : ℕ} → P k → Counted P k c → Counted P (suc k) (suc c)
  miss : {k c : ℕ} → (P k → ⊥) → Counted P k c → Counted P (suc k) c
