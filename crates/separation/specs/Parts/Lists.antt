-- What is written into the lists that a caller lends.
--     TimeAt us v x                == x is U(v) − U(root), us holding U
--     DelayAt ss ts Ds times i x   == x is the lesser of the time between the ends of rule i and its most delay
--     RuleTimed ss ts Ds times i   == the ends of rule i have times, and these and its most delay are small enough to subtract
-- ss, ts and Ds are the sources, the targets and the most delays of the rules. Assumes nothing.
use Rattle.std.specs.Prelude.{◌≡◌, List, ℕ, ◌<◌, ℤ, pos, ◌-ℤ◌, length, get_or}
use Rattle.integers.specs.Within.{Within}
use Rattle.executions.specs.Steps.{Lesser}

abbrev pub TimeAt : List ℤ → ℕ → ℤ → Type 0
TimeAt us v x = x ≡ get_or us v (pos 0) -ℤ get_or us 0 (pos 0)

abbrev pub DelayAt : List ℕ → List ℕ → List ℤ → List ℤ → ℕ → ℤ → Type 0
DelayAt ss ts Ds times i x = Lesser (get_or times (get_or ts i 0) (pos 0) -ℤ get_or times (get_or ss i 0) (pos 0)) (get_or Ds i (pos 0)) x

pub record RuleTimed (ss ts : List ℕ) (Ds times : List ℤ) (i : ℕ) : Type 0 where
  pub source_known : get_or ss i 0 < length times
  pub target_known : get_or ts i 0 < length times
  pub source_within : Within 4100096000 (get_or times (get_or ss i 0) (pos 0))
  pub target_within : Within 4100096000 (get_or times (get_or ts i 0) (pos 0))
  pub most_within : Within 1001000 (get_or Ds i (pos 0))
