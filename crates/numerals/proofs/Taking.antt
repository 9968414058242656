-- The digits that stand at a place of the text.
--     never                         no test is both true and false
--     value_more                    one digit more, at the end, and the number
--     leading bs                    how many digits a list of bytes begins with
--     leading_digits, leading_stops      so many bytes are digits, and what follows begins with none
--     leading_front                 the digits that a front part begins with
--     FrontSoFar bs i x             the first i bytes are digits, and write x; front_none, front_more, so_far_below: at first, one more, and that x is small;
--                                   front_ends, front_whole: where no digit follows, and where the list ends, they are all that it begins with
--     number_read                   one to seven digits are an event number
--     digit_at, front_below         a digit of several, and the number that the first of them write
--     none_read                     no digit, or more than seven, are none
--     front_number, front_none_read     the same of what the first bytes begin with, eight or more of them
--     beyond                        beyond the end there is none
-- Assumes nothing.
use mathlib.Core.Path.{◌≡◌, refl, sym, ◌∙◌, ap, subst}
use mathlib.Core.Bool.{Bool, true, false}
use mathlib.Core.List.{List, [], ◌∷◌, ◌++◌, nil≢cons, head-eq_of_cons-eq}
use Prim.Native.Nat.{ℕ, zero, suc, ◌+◌, ◌*◌, ◌-◌, ◌^◌, ◌≤◌, ◌<◌, min}
use native.Mathlib.Numerals.{add-one}
use native.Mathlib.Decide.{dec_lt}
use native.Mathlib.Omega.{arith}
use lib.Dec.{T}
use lib.ListN.{length, get_or, take, drop, length-take, length-append, length-drop, take-append-drop, drop_of_length-le}
use lib.Seq.{length-take-le, take_all, take-suc, drop-cons, drop-drop}
use Rattle.std.specs.Char.{is_ascii_digit}
use Rattle.std.specs.List.{prefix_len, slice_range}
use Rattle.std.proofs.lemmas.Bool.Decides.{nat_tests}
use Rattle.std.proofs.lemmas.List.{take-take}
use Rattle.std.proofs.lemmas.List.Sums.{prefix_len-le-length, prefix_len_passes, prefix_len_stops}
use Rattle.numerals.specs.Numbers.{IsDigit, Digits, value, value_from, Number}
use Rattle.numerals.specs.Fields.{Stops, Standing, NoField}
use Rattle.numerals.proofs.Cutting.{reach}
use Rattle.numerals.proofs.Cuts.{digits_each, digits_below}

-- no test is both
pub never : {C : Type 0} {t : Bool} → t ≡ true → t ≡ false → C
never e k = absurd (subst T (sym e ∙ k) tt)

-- ---- digits

is_digit : (b : ℕ) → is_ascii_digit b ≡ true → IsDigit b
is_digit b e = record { from_0 = grind (arith, nat_tests); to_9 = grind (arith, nat_tests) }

no_digit : (b : ℕ) → is_ascii_digit b ≡ false → 48 ≤ b → b ≤ 57 → ⊥
no_digit b e l m = grind (arith, nat_tests)

digits_taken : (bs : List ℕ) (n : ℕ) → n ≤ length bs → ((k : ℕ) → k < n → IsDigit (get_or bs k 0)) → Digits (take n bs)
digits_taken bs zero l each = Digits.none
digits_taken [] (suc n) l each = absurd (let no : ⊥ = omega arith in no)
digits_taken (b ∷ bs) (suc n) l each = Digits.more (each 0 (omega arith)) (digits_taken bs n (omega arith) (λ k m. each (suc k) (omega arith)))

abbrev pub leading : List ℕ → ℕ
leading bs = prefix_len is_ascii_digit bs

pub leading_digits : (bs : List ℕ) (n : ℕ) → n ≡ leading bs → Digits (take n bs)
leading_digits bs n e = rw e (digits_taken bs (leading bs) (prefix_len-le-length is_ascii_digit bs) (λ k l. is_digit _ (prefix_len_passes is_ascii_digit bs k 0 l)))

pub leading_stops : (bs : List ℕ) → Stops (drop (leading bs) bs)
leading_stops bs b after e d = by (dec_lt (leading bs) (length bs))
  where
    by : Dec (leading bs < length bs) → ⊥
    by (yes l) =
        let same : get_or bs (leading bs) 0 ≡ b = head-eq_of_cons-eq (sym (drop-cons bs (leading bs) 0 l) ∙ e) in
        no_digit (get_or bs (leading bs) 0) (prefix_len_stops is_ascii_digit bs 0 l) (omega (arith, d.from_0)) (omega (arith, d.to_9))
    by (no l) = nil≢cons (sym (drop_of_length-le bs (omega arith)) ∙ e)

leading_step : (bs : List ℕ) (b m : ℕ) (t : Bool) → is_ascii_digit b ≡ t → prefix_len is_ascii_digit (take m bs) ≡ min m (leading bs) → prefix_len is_ascii_digit (take (suc m) (b ∷ bs)) ≡ min (suc m) (leading (b ∷ bs))
leading_step bs b m true q e = grind (arith, q, e)
leading_step bs b m false q e = grind (arith, q, e)

-- of a front part
pub leading_front : (bs : List ℕ) (m : ℕ) → prefix_len is_ascii_digit (take m bs) ≡ min m (leading bs)
leading_front bs zero = omega arith
leading_front [] (suc m) = omega arith
leading_front (b ∷ bs) (suc m) = leading_step bs b m (is_ascii_digit b) refl (leading_front bs m)

-- ---- the number

value_from_snoc : (x : ℕ) (l : List ℕ) (b : ℕ) → value_from x (l ++ (b ∷ [])) ≡ 10 * value_from x l + (b - 48)
value_from_snoc x [] b = refl
value_from_snoc x (a ∷ l) b = value_from_snoc (10 * x + (a - 48)) l b

pub value_more : (bs : List ℕ) (i : ℕ) → i < length bs → value (take (i + 1) bs) ≡ 10 * value (take i bs) + (get_or bs i 0 - 48)
value_more bs i l = ap value (ap (λ (k : ℕ). take k bs) (add-one i) ∙ take-suc bs i 0 l) ∙ value_from_snoc 0 (take i bs) (get_or bs i 0)

-- what is read digit by digit is small

digits_front : {bs : List ℕ} (i : ℕ) → Digits bs → Digits (take i bs)
digits_front zero w = Digits.none
digits_front (suc i) Digits.none = Digits.none
digits_front (suc i) (Digits.more d w) = Digits.more d (digits_front i w)

pub digit_at : {bs : List ℕ} (i : ℕ) → Digits bs → i < length bs → IsDigit (get_or bs i 0)
digit_at i Digits.none l = absurd (let no : ⊥ = omega arith in no)
digit_at zero (Digits.more d w) l = d
digit_at (suc i) (Digits.more d w) l = digit_at i w (omega arith)

pub front_below : (bs : List ℕ) (i : ℕ) → Digits bs → i < length bs → length bs ≤ 19 → value (take i bs) < 10 ^ 18
front_below bs i w l few = digits_below 18 (digits_front i w) (omega (arith, length-take i bs))

-- ---- the front, digit by digit

pub record FrontSoFar (bs : List ℕ) (i x : ℕ) : Type 0 where
  pub each : (k : ℕ) → k < i → IsDigit (get_or bs k 0)
  pub number : x ≡ value (take i bs)

pub front_none : (bs : List ℕ) → FrontSoFar bs 0 0
front_none bs = record { each = λ k l. absurd (let no : ⊥ = omega arith in no); number = refl }

pub front_more : {bs : List ℕ} {i x y : ℕ} → FrontSoFar bs i x → i < length bs → is_ascii_digit (get_or bs i 0) ≡ true → y ≡ 10 * x + (get_or bs i 0 - 48) → FrontSoFar bs (i + 1) y
front_more {bs} {i} h l d e =
    record {
      each = λ k m. by k m (dec_lt k i);
      number = omega (arith, e, h.number, value_more bs i l);
    }
  where
    by : (k : ℕ) → k < i + 1 → Dec (k < i) → IsDigit (get_or bs k 0)
    by k m (yes n) = h.each k n
    by k m (no n) = let same : k ≡ i = omega arith in subst (λ (j : ℕ). IsDigit (get_or bs j 0)) (sym same) (is_digit _ d)

pub so_far_below : {bs : List ℕ} {i x : ℕ} → FrontSoFar bs i x → i < length bs → length bs ≤ 19 → x < 10 ^ 18
so_far_below {bs} {i} h l few = let small = digits_below 18 (digits_taken bs i (omega arith) h.each) (omega (arith, length-take i bs)) in omega (arith, small, h.number)

pub front_ends : {bs : List ℕ} {i x : ℕ} → FrontSoFar bs i x → i < length bs → is_ascii_digit (get_or bs i 0) ≡ false → i ≡ leading bs
front_ends {bs} {i} h l d = by (dec_lt (leading bs) i) (dec_lt i (leading bs))
  where
    by : Dec (leading bs < i) → Dec (i < leading bs) → i ≡ leading bs
    by (yes m) _ = let w = h.each (leading bs) m in absurd (no_digit (get_or bs (leading bs) 0) (prefix_len_stops is_ascii_digit bs 0 (omega arith)) (omega (arith, w.from_0)) (omega (arith, w.to_9)))
    by (no m) (yes n) = never (prefix_len_passes is_ascii_digit bs i 0 n) d
    by (no m) (no n) = omega arith

pub front_whole : {bs : List ℕ} {x : ℕ} → FrontSoFar bs (length bs) x → length bs ≡ leading bs
front_whole {bs} h = by (dec_lt (leading bs) (length bs))
  where
    by : Dec (leading bs < length bs) → length bs ≡ leading bs
    by (yes m) = let w = h.each (leading bs) m in absurd (no_digit (get_or bs (leading bs) 0) (prefix_len_stops is_ascii_digit bs 0 m) (omega (arith, w.from_0)) (omega (arith, w.to_9)))
    by (no m) = omega (arith, prefix_len-le-length is_ascii_digit bs)

module _ (bs rest : List ℕ) (at n : ℕ) (from : rest ≡ slice_range bs at (length bs)) (count : n ≡ leading rest) where
  whole : rest ≡ drop at bs
  whole = from ∙ take_all (length bs - at) (drop at bs) (omega (arith, length-drop at bs))

  within : n ≤ length rest
  within = omega (arith, prefix_len-le-length is_ascii_digit rest)

  taken : length (take n rest) ≡ n
  taken = length-take-le n rest within

  digits : Digits (take n rest)
  digits = leading_digits rest n count

  stops : Stops (drop n rest)
  stops = rw count (leading_stops rest)

  after : drop n rest ≡ drop (at + n) bs
  after = ap (drop n) whole ∙ drop-drop n at bs

  cut : drop at bs ≡ take n rest ++ drop n rest
  cut = sym whole ∙ sym (take-append-drop n rest)

  -- a number that stands there has n digits
  as_long : (field other : List ℕ) (x : ℕ) → drop at bs ≡ field ++ other → Stops other → Number field x → length field ≡ n
  as_long field other x e stop k =
      let l = reach (drop n rest) field other (digits_each digits) stop (sym cut ∙ e) in
      let m = reach other (take n rest) (drop n rest) (digits_each k.digits) stops (sym e ∙ cut) in
      omega (arith, taken, l, m)

  pub number_read : {x : ℕ} → 1 ≤ n → n ≤ 7 → x ≡ value (take n rest) → Standing Number bs at (record { value = x; next = at + n })
  number_read some seven e =
      record {
        within = omega (arith, within, ap length whole, length-drop at bs);
        field = take n rest;
        is = record { digits = digits; some = omega (arith, taken); seven = omega (arith, taken); number = sym e };
        bytes = cut ∙ ap (λ (l : List ℕ). take n rest ++ l) after;
        stops = subst Stops after stops;
      }

  pub none_read : (1 ≤ n → n ≤ 7 → ⊥) → NoField Number bs at
  none_read other_count =
      record {
        none = λ field other x q stop k.
            let long = as_long field other x q stop k in
            other_count (omega (arith, long, k.some)) (omega (arith, long, k.seven));
      }

-- what is read of the first `most` bytes, eight or more
module _ (bs rest : List ℕ) (at most m n : ℕ) (from : rest ≡ slice_range bs at (length bs)) (window : m ≡ min (length rest) most) (wide : 8 ≤ most) (front : n ≡ prefix_len is_ascii_digit (take m rest)) where
  leads : n ≡ min most (leading rest)
  leads = let cut = leading_front rest m in let few = prefix_len-le-length is_ascii_digit rest in omega (arith, front, window, cut, few)

  pub front_number : {x : ℕ} → 1 ≤ n → n ≤ 7 → x ≡ value (take n (take m rest)) → Standing Number bs at (record { value = x; next = at + n })
  front_number some seven e =
      let few = prefix_len-le-length is_ascii_digit rest in
      let all : n ≡ leading rest = omega (arith, leads, wide, seven) in
      number_read bs rest at n from all some seven (e ∙ ap value (take-take n m rest (omega (arith, all, few, window, wide, seven))))

  pub front_none_read : (1 ≤ n → n ≤ 7 → ⊥) → NoField Number bs at
  front_none_read other = none_read bs rest at (leading rest) from refl (λ some seven. other (omega (arith, leads, wide)) (omega (arith, leads, wide)))

pub beyond : (bs : List ℕ) (at : ℕ) → length bs < at → NoField Number bs at
beyond bs at l =
    record {
      none = λ field rest x e stop k. omega (arith, k.some, ap length (sym e ∙ drop_of_length-le bs (omega arith)), length-append field rest);
    }
