-- A search from 0 upwards for the first number below k that is bad.
--     before_more         where all numbers before i are good, and i is, all before i + 1 are
--     lowest_bad          an answer before the end is the lowest number of which A holds, where A holds of the bad and not of the good
--     as_long             two lists of one length are searched whole
-- The same of a search whose answer is an option:
--     found_or            what is found is an answer before the end
--     found_lowest        it is the lowest number of which A holds
--     lowest_in_unique    a search in which nothing is both good and bad has one answer
--     found_as_long       two lists of one length are searched whole
-- Assumes nothing.
use mathlib.Core.Path.{◌≡◌, subst}
use Prim.Native.Nat.{ℕ, ◌+◌, ◌<◌, ◌≤◌, min}
use native.Mathlib.Omega.{arith}
use borrow.Author.Count.{below_more}
use Rattle.std.proofs.Common.{Option, Some, None, refl, ap}
use Rattle.verdicts.specs.Verdict.{Lowest, LowestOr, FoundAt, LowestIn}

pub before_more : (Good : ℕ → Type 0) (i : ℕ) → ((j : ℕ) → j < i → Good j) → Good i → (j : ℕ) → j < i + 1 → Good j
before_more Good i before good = below_more Good i before good

module _ {k : ℕ} {Good Bad : ℕ → Type 0} {r : ℕ} where
  pub lowest_bad : (A : ℕ → Type 0) →
      ((i : ℕ) → i < k → Good i → A i → ⊥) →
      ((i : ℕ) → i < k → Bad i → A i) →
      LowestOr k Good Bad r →
      r < k →
      Lowest A r
  lowest_bad A good bad h l = record { holds = bad r l (h.bad l); lowest = λ q m. good q (omega arith) (h.before q m) }

pub as_long : {a b : ℕ} {Good Bad : ℕ → Type 0} {r : ℕ} → b ≡ a → LowestOr (min a b) Good Bad r → LowestOr a Good Bad r
as_long {a} {b} {Good} {Bad} {r} e h = let k : min a b ≡ a = omega arith in subst (λ (m : ℕ). LowestOr m Good Bad r) k h

module _ {k : ℕ} {Good Bad : ℕ → Type 0} where
  pub found_or : {i : ℕ} → FoundAt k Good Bad i → LowestOr k Good Bad i
  found_or {i} h = record { within = let b = h.below in omega arith; before = h.before; bad = λ _. h.bad }

  pub found_lowest : (A : ℕ → Type 0) →
      ((i : ℕ) → i < k → Good i → A i → ⊥) →
      ((i : ℕ) → i < k → Bad i → A i) →
      {i : ℕ} →
      FoundAt k Good Bad i →
      Lowest A i
  found_lowest A good bad h = lowest_bad A good bad (found_or h) h.below

module _ (k : ℕ) (Good Bad : ℕ → Type 0) where
  pub lowest_in_unique : ((i : ℕ) → Good i → Bad i → ⊥) → (x y : Option ℕ) → LowestIn k Good Bad x → LowestIn k Good Bad y → x ≡ y
  lowest_in_unique apart (Some i) (Some j) a b =
      let not_below : j < i → ⊥ = λ l. apart j (a.before j l) b.bad in
      let not_above : i < j → ⊥ = λ l. apart i (b.before i l) a.bad in
      ap Some (omega arith)
  lowest_in_unique apart (Some i) None a b = absurd (apart i (b i a.below) a.bad)
  lowest_in_unique apart None (Some j) a b = absurd (apart j (a j b.below) b.bad)
  lowest_in_unique apart None None a b = refl

module _ {a b : ℕ} (Good Bad : ℕ → Type 0) (e : b ≡ a) where
  pub found_as_long : {i : ℕ} → FoundAt (min a b) Good Bad i → FoundAt a Good Bad i
  found_as_long {i} h = record { below = let l = h.below in omega arith; before = h.before; bad = h.bad }
