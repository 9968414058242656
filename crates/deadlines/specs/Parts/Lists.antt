-- What is written into a list.
--     GapAt xs s v x               == x is the number of v less that of s, xs holding the numbers
--     DifferenceAt ss ts times i x == x is the time between the ends of rule i
--     RuleTimed ss ts times i      == the ends of rule i have times, and these are small enough to subtract
-- ss and ts are the sources and the targets of the rules. Assumes nothing.
use Rattle.std.specs.Prelude.{◌≡◌, List, ℕ, ◌<◌, ℤ, ◌-ℤ◌, length, get_or}
use Rattle.integers.specs.Within.{Within}
use Rattle.separation.specs.Promise.{at}

abbrev pub GapAt : List ℤ → ℕ → ℕ → ℤ → Type 0
GapAt xs s v x = x ≡ at xs v -ℤ at xs s

abbrev pub DifferenceAt : List ℕ → List ℕ → List ℤ → ℕ → ℤ → Type 0
DifferenceAt ss ts times i x = x ≡ at times (get_or ts i 0) -ℤ at times (get_or ss i 0)

pub record RuleTimed (ss ts : List ℕ) (times : List ℤ) (i : ℕ) : Type 0 where
  pub source_known : get_or ss i 0 < length times
  pub target_known : get_or ts i 0 < length times
  pub source_within : Within 4092000002 (at times (get_or ss i 0))
  pub target_within : Within 4092000002 (at times (get_or ts i 0))
