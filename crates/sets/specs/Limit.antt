-- Limits: whole numbers, and one limit above them all. Document 02, request 7: "w may be unlimited"; request 14: "there l too may be unlimited, as in
-- equation 22". The report's −∞ is not used: absence is the empty set.
--     Limit          == a whole number, or unlimited
--     a ≤ᴸ b         == a is at most b; unlimited is above every number
--     a <ᴸ b         == a is below b
--     a +ᴸ b         == the sum; with unlimited on either side it is unlimited
--     lesser a b     == the lesser of a and b
-- Assumes nothing.
use Rattle.std.specs.Prelude.{cond, ℤ, ◌+ℤ◌, ◌≤ℤ◌, ◌<ℤ◌}
use Rattle.std.specs.Int.Signed.{le_z}

infix 50 ◌≤ᴸ◌
infix 50 ◌<ᴸ◌
infixl 60 ◌+ᴸ◌
pub data Limit : Type 0 where
  number : ℤ → Limit
  unlimited : Limit

pub data ◌≤ᴸ◌ : Limit → Limit → Type 0 where
  numbers : (a b : ℤ) → a ≤ℤ b → number a ≤ᴸ number b
  under : (a : Limit) → a ≤ᴸ unlimited

pub data ◌<ᴸ◌ : Limit → Limit → Type 0 where
  less : (a b : ℤ) → a <ℤ b → number a <ᴸ number b
  finite : (a : ℤ) → number a <ᴸ unlimited

abbrev pub ◌+ᴸ◌ : Limit → Limit → Limit
number a +ᴸ number b = number (a +ℤ b)
number a +ᴸ unlimited = unlimited
unlimited +ᴸ b = unlimited

abbrev pub lesser : Limit → Limit → Limit
lesser (number a) (number b) = number (cond (le_z a b) a b)
lesser (number a) unlimited = number a
lesser unlimited b = b
