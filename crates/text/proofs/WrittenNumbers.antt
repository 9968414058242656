-- Laws of numbers written into a list that is long enough, and of the words that hold them.
--     NaturalIn, IntegerIn           a number is written in at most so many places
--     natural_in, integer_in         so it is, where there is room for them
--     word_back, minus_back          what the code forms is the number, or minus it
-- Assumes nothing.
use mathlib.Core.Path.{◌≡◌, subst}
use mathlib.Core.List.{List}
use Prim.Native.Nat.{ℕ, ◌+◌, ◌^◌, ◌<◌, ◌≤◌}
use native.Mathlib.Omega.{arith}
use lib.Dec.{lit<}
use lib.IntN.{ℤ, pos, neg_ℤ, ◌-ℤ◌}
use lib.ListN.{length}
use mir.Syntax.{w64}
use mir.Val.{to_z, of_z}
use Rattle.integers.specs.Within.{Within}
use Rattle.integers.proofs.Integer.{linear, difference, negation}
use Rattle.integers.proofs.Word.{within_negation, read_back}
use Rattle.numerals.specs.Numbers.{Natural, Integer}
use Rattle.numerals.specs.Appending.{Appended, NaturalPut, IntegerPut}
use Rattle.numerals.proofs.Decimal.{natural_places, integer_places}

abbrev pub NaturalIn : ℕ → List ℕ → ℕ → ℕ → List ℕ → ℕ → Type 0
NaturalIn places o at x m next = (bs : List ℕ) × Natural bs x × (length bs ≤ places) × Appended o at bs m next

abbrev pub IntegerIn : ℕ → List ℕ → ℕ → ℤ → List ℕ → ℕ → Type 0
IntegerIn places o at z m next = (bs : List ℕ) × Integer bs z × (length bs ≤ places) × Appended o at bs m next

pub natural_in : (places : ℕ) {o : List ℕ} {at x : ℕ} {m : List ℕ} {next : ℕ} → 1 ≤ places → x < 10 ^ places → at + places ≤ length o → NaturalPut o at x m next → NaturalIn places o at x m next
natural_in places some small room n =
    let few = natural_places places some small n.written in
    (n.digits, n.written, few, n.put.fits (omega (arith, few)))

-- ---- words: the code reads numbers back from their bits

abbrev pub word : ℤ → ℤ
word z = to_z w64 (of_z w64 z)

module _ (z : ℤ) (k : Within 2046000000 z) where
  pub word_back : word z ≡ z
  word_back = read_back w64 2046000000 z (lit< tt) k

  minus_of : pos 0 -ℤ word z ≡ neg_ℤ z
  minus_of = rw word_back (omega (linear, difference (pos 0) z, negation z))

  pub minus_back : word (pos 0 -ℤ word z) ≡ neg_ℤ z
  minus_back = rw minus_of (read_back w64 2046000000 (neg_ℤ z) (lit< tt) (within_negation k))

  -- a writer was handed the word
  pub integer_in : {o : List ℕ} {at : ℕ} {m : List ℕ} {next : ℕ} → at + 11 ≤ length o → IntegerPut o at (word z) m next → IntegerIn 11 o at z m next
  integer_in {o} {at} {m} {next} room n =
      let there : IntegerPut o at z m next = subst (λ (y : ℤ). IntegerPut o at y m next) word_back n in
      let few = integer_places k there.written in
      (there.digits, there.written, few, there.put.fits (omega (arith, few)))
