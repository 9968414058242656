-- The promises of the functions that round. Document 01, sections "Coarse form" and "Refusal numbers"; 02, wish 3.
--     StepOutside q p             == refusal 9: "q is 0 or above 1,000", place q
--     Roundable q x               == q is a step, and x lies where a delay may
--     WentDown q x y, WentUp q x y == y is where x goes down to, or up to; where x can't be rounded in steps of q, y is x
--     ListsDiffer ds Ds           == refusal 22: the least and the most delays differ in number
--     ShortForDelays ds low high  == refusal 23: a lent list is too short
--     EntryOutside ds Ds i        == refusal 3: the delays of entry i are outside
--     rounding_checks q ds Ds low high == refusals 22, 23, 3 and 9, in this order
--     DelaysRounded q ds Ds low₀ high₀ low high r == the refusal, and what the two lent lists, which held low₀ and high₀, hold after
-- Assumes nothing.
use Rattle.std.specs.Prelude.{◌≡◌, ◌⊎◌, Result, List, [], ◌∷◌, ℕ, ◌<◌, ◌≤◌, ℤ, pos, length, get_or, drop}
use Rattle.integers.specs.Within.{Within}
use Rattle.verdicts.specs.Verdict.{Check, check, AtZero, Lowest}
use Rattle.refusals.specs.declared.Refusal.{Refusal}
use Rattle.refusals.specs.Numbers.{number_in, Refuses}
use Rattle.refusals.specs.Faults.{DelaysOutside}
use Rattle.rounding.specs.Rounding.{Down, Up}

pub record StepOutside (q p : ℕ) : Type 0 where
  pub its_place : p ≡ q
  pub outside : (q ≡ 0) ⊎ (1000 < q)

-- "A step q, 1 ≤ q ≤ 1,000"; "−1,000,000 ≤ d ≤ D ≤ 1,000,000"
pub record Roundable (q : ℕ) (x : ℤ) : Type 0 where
  pub step_positive : 1 ≤ q
  pub step_small : q ≤ 1000
  pub within : Within 1000000 x

-- "Each least delay goes down to a multiple of q"
pub data WentDown (q : ℕ) (x y : ℤ) : Type 0 where
  went_down : Roundable q x → Down q x y → WentDown q x y
  not_down : (Roundable q x → ⊥) → y ≡ x → WentDown q x y

-- "each most delay goes up to one"
pub data WentUp (q : ℕ) (x y : ℤ) : Type 0 where
  went_up : Roundable q x → Up q x y → WentUp q x y
  not_up : (Roundable q x → ⊥) → y ≡ x → WentUp q x y

-- "unequal lists 22"
abbrev pub ListsDiffer : List ℤ → List ℤ → Type 0
ListsDiffer ds Ds = length Ds ≡ length ds → ⊥

-- "short output list 23"
abbrev pub ShortForDelays : List ℤ → List ℤ → List ℤ → Type 0
ShortForDelays ds low high = (length low < length ds) ⊎ (length high < length ds)

-- "a delay is out of range, or d > D"
pub record EntryOutside (ds Ds : List ℤ) (i : ℕ) : Type 0 where
  pub is_entry : i < length ds
  pub outside : DelaysOutside ds Ds i

-- "analysis 1, 2, 3, 4, 9", with "21, 22, 24, 23 where 1 stood": those of them that speak of delays, lent lists and the step
abbrev pub rounding_checks : ℕ → List ℤ → List ℤ → List ℤ → List ℤ → List Check
rounding_checks q ds Ds low high =
    check 22 (AtZero (ListsDiffer ds Ds)) ∷ check 23 (AtZero (ShortForDelays ds low high)) ∷ check 3 (Lowest (EntryOutside ds Ds)) ∷ check 9 (StepOutside q) ∷ []

-- "places beyond keep what they held"; refused, "every lent list keeps its contents"
pub record DelaysRounded (q : ℕ) (ds Ds low₀ high₀ low high : List ℤ) (r : Result Unit Refusal) : Type 0 where
  pub verdict : Refuses (rounding_checks q ds Ds low₀ high₀) r
  pub down : number_in r ≡ 0 → (i : ℕ) → i < length ds → Down q (get_or ds i (pos 0)) (get_or low i (pos 0))
  pub up : number_in r ≡ 0 → (i : ℕ) → i < length ds → Up q (get_or Ds i (pos 0)) (get_or high i (pos 0))
  pub low_beyond : number_in r ≡ 0 → drop (length ds) low ≡ drop (length ds) low₀
  pub high_beyond : number_in r ≡ 0 → drop (length ds) high ≡ drop (length ds) high₀
  pub low_kept : (number_in r ≡ 0 → ⊥) → low ≡ low₀
  pub high_kept : (number_in r ≡ 0 → ⊥) → high ≡ high₀
  pub low_length : length low ≡ length low₀
  pub high_length : length high ≡ length high₀
