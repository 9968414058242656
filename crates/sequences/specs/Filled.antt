-- A lent list whose first places are written.
--     Filled z n At old new    == At v holds of what new has at each place v below n, and the places beyond keep what old has
-- z is what a list has past its end. Assumes nothing.
use Rattle.std.specs.Prelude.{◌≡◌, List, ℕ, ◌<◌, get_or, drop}

pub record Filled {A : Type 0} (z : A) (n : ℕ) (At : ℕ → A → Type 0) (old new : List A) : Type 0 where
  pub each : (v : ℕ) → v < n → At v (get_or new v z)
  pub beyond : drop n new ≡ drop n old
