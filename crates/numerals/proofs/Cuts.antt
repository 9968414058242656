-- What a number is, as a field has it, and that there is one way to cut it off.
--     digits_each         digits, byte by byte
--     OneCut F            a field of kind F that stops the digits is cut in one way, and so says one thing
--     number_cut, field_cut      event numbers and delays are so
--     no_minus            an event number begins with no minus
--     digits_below, number_below     n digits write a number below 10 ^ n, so an event number is below 10,000,000
-- Assumes nothing.
use mathlib.Core.Path.{◌≡◌, sym, ◌∙◌, ap}
use mathlib.Core.List.{List, [], ◌∷◌, ◌++◌, head-eq_of_cons-eq, tail-eq_of_cons-eq}
use Prim.Native.Nat.{ℕ, suc, ◌+◌, ◌*◌, ◌-◌, ◌^◌, ◌≤◌, ◌<◌}
use native.Mathlib.Nat.{mul-le-mul_right, pow-succ', pow-le-pow_right}
use native.Mathlib.Omega.{arith}
use lib.Dec.{lit<}
use lib.IntN.{pos, neg_ℤ}
use lib.ListN.{length}
use Rattle.numerals.specs.Numbers.{IsDigit, Digits, value, value_from, Number, Field, plain, minus}
use Rattle.numerals.specs.Fields.{Stops}
use Rattle.numerals.proofs.Cutting.{Each, none, more, one_cut}

pub digits_each : {l : List ℕ} → Digits l → Each IsDigit l
digits_each Digits.none = none
digits_each (Digits.more d h) = more d (digits_each h)

-- ---- one cut

abbrev pub OneCut : {A : Type 0} → (List ℕ → A → Type 0) → Type 0
OneCut {A} F = (f k s r : List ℕ) (x y : A) → F f x → F k y → Stops s → Stops r → f ++ s ≡ k ++ r → (x ≡ y) × (s ≡ r)

pub number_cut : OneCut Number
number_cut f k s r x y h j stop-s stop-r e =
    let c : (f ≡ k) × (s ≡ r) = one_cut s r (digits_each h.digits) (digits_each j.digits) stop-s stop-r e in
    (sym h.number ∙ (ap value c.0 ∙ j.number), c.1)

-- no digit is a minus
pub no_minus : {f : List ℕ} {x : ℕ} (s k : List ℕ) → Number f x → f ++ s ≡ 45 ∷ k → ⊥
no_minus {f} s k h e = go f h.digits h.some e
  where
    go : (g : List ℕ) → Digits g → 1 ≤ length g → g ++ s ≡ 45 ∷ k → ⊥
    go [] Digits.none l q = omega arith
    go (b ∷ bs) (Digits.more d ds) l q = let u : b ≡ 45 = head-eq_of_cons-eq q in omega (arith, d.from_0)

pub field_cut : OneCut Field
field_cut f k s r x y (plain {x = m} h) (plain {x = n} j) stop-s stop-r e =
    let c : (m ≡ n) × (s ≡ r) = number_cut f k s r m n h j stop-s stop-r e in
    (ap pos c.0, c.1)
field_cut f k s r x y (plain {x = m} h) (minus {bs = g} j) stop-s stop-r e = absurd (no_minus s (g ++ r) h e)
field_cut f k s r x y (minus {bs = g} h) (plain {x = n} j) stop-s stop-r e = absurd (no_minus r (g ++ s) j (sym e))
field_cut f k s r x y (minus {bs = f'} {x = m} h) (minus {bs = k'} {x = n} j) stop-s stop-r e =
    let c : (m ≡ n) × (s ≡ r) = number_cut f' k' s r m n h j stop-s stop-r (tail-eq_of_cons-eq e) in
    (ap (λ (z : ℕ). neg_ℤ (pos z)) c.0, c.1)

-- ---- a number is small

value_from_below : (x : ℕ) (l : List ℕ) → Digits l → value_from x l < suc x * 10 ^ length l
value_from_below x [] Digits.none = omega arith
value_from_below x (b ∷ bs) (Digits.more d ds) =
    let k : value_from (10 * x + (b - 48)) bs < suc (10 * x + (b - 48)) * 10 ^ length bs = value_from_below (10 * x + (b - 48)) bs ds in
    let m : suc (10 * x + (b - 48)) * 10 ^ length bs ≤ (10 * suc x) * 10 ^ length bs = mul-le-mul_right (10 ^ length bs) (omega (arith, d.to_9)) in
    let q : suc x * 10 ^ suc (length bs) ≡ (10 * suc x) * 10 ^ length bs = ap (λ (p : ℕ). suc x * p) (pow-succ' 10 (length bs)) ∙ omega arith in
    omega arith

pub digits_below : {l : List ℕ} (n : ℕ) → Digits l → length l ≤ n → value l < 10 ^ n
digits_below {l} n h m =
    let k : 10 ^ length l ≤ 10 ^ n = pow-le-pow_right (lit< tt) m in
    omega (arith, value_from_below 0 l h)

pub number_below : {l : List ℕ} {x : ℕ} → Number l x → x < 10000000
number_below h = omega (arith, digits_below 7 h.digits h.seven, h.number)
