-- The faults that a rule of an event graph or a template of a process graph can have by itself, and the search for the lowest. Document 01, section
-- "Refusal numbers": refusal 2, "a rule or template names an event that doesn't exist", and 3, "a delay is out of range, or d > D"; the place of each is
-- the "lowest such rule or template".
--     EndsKnown n ss ts i         == the source and the target of entry i are both below n
--     EndUnknown n ss ts i        == one of them is not
--     BoundedDelays b d D         == d and D lie from −b to b, and d ≤ D
--     InsideDelays d D            == the same with 01's 1,000,000
--     DelaysBounded b ds Ds i     == the delays of entry i are bounded by b
--     DelaysBeyond b ds Ds i      == they are not
--     DelaysInside ds Ds i, DelaysOutside ds Ds i    == the same with 1,000,000
--     DelaysChecked b d D x       == x is true and d or D is beyond b, or x is false and both are bounded
-- n events, entries with sources ss, targets ts, least delays ds and most delays Ds. The lists may differ in length: there are as many entries as the
-- shorter has. Assumes nothing.
use Rattle.std.specs.Prelude.{Bool, true, false, ◌⊎◌, List, ℕ, ◌<◌, ◌≤◌, ℤ, pos, ◌≤ℤ◌, get_or}
use Rattle.integers.specs.Within.{Within}
use Rattle.graphs.specs.Refusal.{BeyondDelays}

pub record EndsKnown (n : ℕ) (ss ts : List ℕ) (i : ℕ) : Type 0 where
  pub source_known : get_or ss i 0 < n
  pub target_known : get_or ts i 0 < n

-- "a rule or template names an event that doesn't exist"
abbrev pub EndUnknown : ℕ → List ℕ → List ℕ → ℕ → Type 0
EndUnknown n ss ts i = (n ≤ get_or ss i 0) ⊎ (n ≤ get_or ts i 0)

-- "−1,000,000 ≤ d ≤ D ≤ 1,000,000"
pub record BoundedDelays (b : ℕ) (d D : ℤ) : Type 0 where
  pub least_within : Within b d
  pub most_within : Within b D
  pub ordered : d ≤ℤ D

abbrev pub InsideDelays : ℤ → ℤ → Type 0
InsideDelays d D = BoundedDelays 1000000 d D

abbrev pub DelaysBounded : ℕ → List ℤ → List ℤ → ℕ → Type 0
DelaysBounded b ds Ds i = BoundedDelays b (get_or ds i (pos 0)) (get_or Ds i (pos 0))

-- "a delay is out of range, or d > D"
abbrev pub DelaysBeyond : ℕ → List ℤ → List ℤ → ℕ → Type 0
DelaysBeyond b ds Ds i = BeyondDelays b (get_or ds i (pos 0)) (get_or Ds i (pos 0))

abbrev pub DelaysInside : List ℤ → List ℤ → ℕ → Type 0
DelaysInside ds Ds i = DelaysBounded 1000000 ds Ds i

abbrev pub DelaysOutside : List ℤ → List ℤ → ℕ → Type 0
DelaysOutside ds Ds i = DelaysBeyond 1000000 ds Ds i

abbrev pub DelaysChecked : ℕ → ℤ → ℤ → Bool → Type 0
DelaysChecked b d D true = BeyondDelays b d D
DelaysChecked b d D false = BoundedDelays b d D
