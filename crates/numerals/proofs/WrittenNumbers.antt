-- Laws of numbers written into a lent list.
--     word_places                    a word has at most 20 digits
--     Room, DigitsPut                there is room for the digits; they are written
--     put_one, put_more, tenth_room  a number below ten; and another, after its tenth part, for which there is room too
--     natural_full                   no room for a number
--     minus_full, put_plain, put_minus      the same with a sign
--     put_plain_word, minus_full_word, put_minus_word      the same of words
-- Assumes nothing.
use mathlib.Core.Path.{◌≡◌, ap, sym, subst, ◌∙◌}
use mathlib.Core.List.{List, [], ◌∷◌, ◌++◌}
use Prim.Native.Nat.{ℕ, suc, ◌+◌, ◌/◌, ◌%◌, ◌^◌, ◌<◌, ◌≤◌}
use native.Mathlib.Nat.{div-add-mod}
use native.Mathlib.Omega.{arith}
use lib.IntN.{ℤ, pos, negsuc, nat_abs}
use lib.Signed.{◌<ℤ◌}
use lib.ListN.{length, length-append}
use mir.Syntax.{w64}
use mir.Val.{SFits, to_z, of_z}
use mir.ValLaws.{to_z-of_z}
use Rattle.integers.proofs.Integer.{linear}
use Rattle.numerals.specs.Numbers.{Natural, plain, minus}
use Rattle.numerals.specs.Appending.{Appended, NaturalPut, IntegerPut}
use Rattle.numerals.specs.Appending as appending
use Rattle.numerals.proofs.Appends.{appended_more, appended_length, put_fits, put_full}
use Rattle.numerals.proofs.Decimal.{natural_one, natural_more, natural_of, natural_places}

pub word_places : {bs : List ℕ} {x : ℕ} → x < 2 ^ 64 → Natural bs x → length bs ≤ 20
word_places {bs} {x} l w = natural_places 20 (omega arith) (omega arith) w

-- ---- digits where there is room

abbrev pub Room : ℕ → ℕ → ℕ → Type 0
Room at x long = (bs : List ℕ) → Natural bs x → at + length bs ≤ long

abbrev pub DigitsPut : List ℕ → ℕ → ℕ → List ℕ → ℕ → Type 0
DigitsPut o at x m next = (bs : List ℕ) × Natural bs x × Appended o at bs m next

pub tenth_room : (at x long : ℕ) → 10 ≤ x → Room at x long → Room at (x / 10) long
tenth_room at x long l room bs w = omega (arith, room (bs ++ ((48 + x % 10) ∷ [])) (natural_more bs x l w), length-append bs ((48 + x % 10) ∷ []))

module _ {o : List ℕ} {at : ℕ} where
  pub put_one : (x : ℕ) {m : List ℕ} {next : ℕ} → x < 10 → Room at x (length o) → appending.Put o at ((48 + x % 10) ∷ []) m next → DigitsPut o at x m next
  put_one x {m} {next} l room w =
      let same : x % 10 ≡ x = omega (arith, div-add-mod x 10) in
      let digit = subst (λ (d : ℕ). appending.Put o at ((48 + d) ∷ []) m next) same w in
      ((48 + x) ∷ [], natural_one x l, digit.fits (room ((48 + x) ∷ []) (natural_one x l)))

  pub put_more : (x : ℕ) {m p : List ℕ} {next last : ℕ} → 10 ≤ x → Room at x (length o) → DigitsPut o at (x / 10) m next → appending.Put m next ((48 + x % 10) ∷ []) p last → DigitsPut o at x p last
  put_more x {m} {next = next} l room (bs, w, a) v =
      let whole = bs ++ ((48 + x % 10) ∷ []) in
      let left : next + 1 ≤ length m = omega (arith, room whole (natural_more bs x l w), length-append bs ((48 + x % 10) ∷ []), a.after, appended_length a) in
      (whole, natural_more bs x l w, appended_more a (v.fits left))

  pub natural_full : (x : ℕ) → ((bs : List ℕ) → Natural bs x → length o < at + length bs) → NaturalPut o at x o at
  natural_full x full =
      let (bs, w) = natural_of x in
      record { digits = bs; written = w; put = put_full (full bs w) }

  -- ---- with a sign

  pub minus_full : (z : ℤ) → z <ℤ pos 0 → ((bs : List ℕ) → Natural bs (nat_abs z) → length o < (at + 1) + length bs) → IntegerPut o at z o at
  minus_full (pos x) l full = absurd (let no : ⊥ = omega linear in no)
  minus_full (negsuc x) l full =
      let (bs, w) = natural_of (suc x) in
      record { digits = 45 ∷ bs; written = minus w; put = put_full (omega (arith, full bs w)) }

  pub put_plain : (z : ℤ) {m : List ℕ} {next : ℕ} → (z <ℤ pos 0 → ⊥) → NaturalPut o at (nat_abs z) m next → IntegerPut o at z m next
  put_plain (pos x) l n = record { digits = n.digits; written = plain n.written; put = n.put }
  put_plain (negsuc x) l n = absurd (l (omega linear))

  pub put_minus : (z : ℤ) {m p : List ℕ} {next last : ℕ} → z <ℤ pos 0 → Appended o at (45 ∷ []) m next → DigitsPut m next (nat_abs z) p last → IntegerPut o at z p last
  put_minus (pos x) l v n = absurd (let no : ⊥ = omega linear in no)
  put_minus (negsuc x) l v (bs, w, a) = record { digits = 45 ∷ bs; written = minus w; put = put_fits (appended_more v a) }

-- ---- words: the code reads a number back from its bits

abbrev word : ℤ → ℤ
word z = to_z w64 (of_z w64 z)

module _ (z : ℤ) (f : SFits w64 z) where
  word_back : word z ≡ z
  word_back = to_z-of_z w64 z f

  module _ {o : List ℕ} {at d : ℕ} (e : d ≡ nat_abs (word z)) where
    pub put_plain_word : {m : List ℕ} {next : ℕ} → (word z <ℤ pos 0 → ⊥) → NaturalPut o at d m next → IntegerPut o at z m next
    put_plain_word {m} {next} l n = put_plain z (rw word_back at l) (subst (λ (x : ℕ). NaturalPut o at x m next) (e ∙ ap nat_abs word_back) n)

    pub minus_full_word : word z <ℤ pos 0 → ((bs : List ℕ) → Natural bs d → length o < (at + 1) + length bs) → IntegerPut o at z o at
    minus_full_word l full = minus_full z (rw word_back at l) (λ bs w. full bs (subst (Natural bs) (sym (e ∙ ap nat_abs word_back)) w))

    pub put_minus_word : {m p : List ℕ} {next last : ℕ} → word z <ℤ pos 0 → Appended o at (45 ∷ []) m next → DigitsPut m next d p last → IntegerPut o at z p last
    put_minus_word {m} {p} {next} {last} l v n = put_minus z (rw word_back at l) v (subst (λ (x : ℕ). DigitsPut m next x p last) (e ∙ ap nat_abs word_back) n)
