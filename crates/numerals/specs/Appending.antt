-- What the writers leave in a lent list of bytes.
--     Appended out₀ at bs out next == out is out₀ with bs written from place `at` on, and next is the place after them
--     Put out₀ at bs out next      == so it is, where there is room for bs; else nothing is written, and next is `at`
--     NaturalPut, IntegerPut       == the same of a number in decimal
-- Assumes nothing.
use Rattle.std.specs.Prelude.{◌≡◌, List, ◌++◌, ℕ, ◌+◌, ◌<◌, ◌≤◌, ℤ, length, take, drop}
use Rattle.numerals.specs.Numbers.{Natural, Integer}

pub record Appended (out₀ : List ℕ) (at : ℕ) (bs out : List ℕ) (next : ℕ) : Type 0 where
  pub after : next ≡ at + length bs
  pub inside : next ≤ length out₀
  pub bytes : out ≡ take at out₀ ++ (bs ++ drop next out₀)

-- "places beyond keep what they held"; "a lent output list is too short"
pub record Put (out₀ : List ℕ) (at : ℕ) (bs out : List ℕ) (next : ℕ) : Type 0 where
  pub fits : at + length bs ≤ length out₀ → Appended out₀ at bs out next
  pub full : length out₀ < at + length bs → (out ≡ out₀) × (next ≡ at)

pub record NaturalPut (out₀ : List ℕ) (at x : ℕ) (out : List ℕ) (next : ℕ) : Type 0 where
  pub digits : List ℕ
  pub written : Natural digits x
  pub put : Put out₀ at digits out next

pub record IntegerPut (out₀ : List ℕ) (at : ℕ) (z : ℤ) (out : List ℕ) (next : ℕ) : Type 0 where
  pub digits : List ℕ
  pub written : Integer digits z
  pub put : Put out₀ at digits out next
