-- Numbers in decimal, as bytes. Document 01, section "Text form and the pair program".
--     IsDigit b      == b is the byte of a digit, `0` to `9`
--     Digits bs      == bs are such bytes
--     value bs       == the number that they write, the most significant first
--     Number bs x    == bs is an event number, as a field has it: one to seven digits that write x
--     Field bs z     == bs is a delay, as a field has it: an optional minus and one to seven digits
--     Natural bs x   == bs is x as it is written: no leading zero
--     Integer bs z   == bs is z as it is written: no leading zero, and a minus only below zero
-- Assumes nothing.
use Rattle.std.specs.Prelude.{◌≡◌, List, [], ◌∷◌, ℕ, suc, ◌+◌, ◌*◌, ◌-◌, ◌<◌, ◌≤◌, ℤ, pos, negsuc, neg_ℤ, length, get_or}

pub record IsDigit (b : ℕ) : Type 0 where
  pub from_0 : 48 ≤ b
  pub to_9 : b ≤ 57

pub data Digits : List ℕ → Type 0 where
  none : Digits []
  more : {b : ℕ} {bs : List ℕ} → IsDigit b → Digits bs → Digits (b ∷ bs)

-- the number that x and then bs write
abbrev pub value_from : ℕ → List ℕ → ℕ
value_from x [] = x
value_from x (b ∷ bs) = value_from (10 * x + (b - 48)) bs

abbrev pub value : List ℕ → ℕ
value bs = value_from 0 bs

-- "one to seven digits; leading zeros and −0 are accepted; event numbers take no minus": not even −0 (docs/DECISIONS.md, A10)
pub record Number (bs : List ℕ) (x : ℕ) : Type 0 where
  pub digits : Digits bs
  pub some : 1 ≤ length bs
  pub seven : length bs ≤ 7
  pub number : value bs ≡ x

-- "A field is an optional minus and one to seven digits; leading zeros and −0 are accepted"
pub data Field : List ℕ → ℤ → Type 0 where
  plain : {bs : List ℕ} {x : ℕ} → Number bs x → Field bs (pos x)
  minus : {bs : List ℕ} {x : ℕ} → Number bs x → Field (45 ∷ bs) (neg_ℤ (pos x))

-- as 01's example of the output has its numbers; 01 doesn't put it in words
pub record Natural (bs : List ℕ) (x : ℕ) : Type 0 where
  pub digits : Digits bs
  pub some : 1 ≤ length bs
  pub number : value bs ≡ x
  pub no_leading_zero : 1 < length bs → get_or bs 0 0 ≡ 48 → ⊥

-- the same with a minus (docs/DECISIONS.md, A26); negsuc x is −(x + 1)
pub data Integer : List ℕ → ℤ → Type 0 where
  plain : {bs : List ℕ} {x : ℕ} → Natural bs x → Integer bs (pos x)
  minus : {bs : List ℕ} {x : ℕ} → Natural bs (suc x) → Integer (45 ∷ bs) (negsuc x)
