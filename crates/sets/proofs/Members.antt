-- Members of lists.
--     member_at, member_in        what stands at a place of a list is a member, and each member stands at a place
--     member_map                  what a member gives is a member of what the list gives
--     filter_has, filter_from     a filter keeps the members that pass, and no others
-- Assumes nothing.
use mathlib.Core.Path.{◌≡◌, refl, sym, ap, ◌∙◌}
use mathlib.Core.Bool.{Bool, true, false, cond, true≢false}
use mathlib.Core.List.Memᴰ
use mathlib.Core.List.Memᴰ.{head as here}
use mathlib.Core.List.Memᴰ.{tail as there}
use mathlib.Core.List.{List, [], ◌∷◌, Memᴰ, map}
use mathlib.Core.Logic.{◌⊎◌, inl, inr}
use Rattle.std.specs.Prelude.{filter}
use Prim.Native.Nat.{ℕ, zero, suc, ◌<◌}
use native.Mathlib.Omega.{arith}
use lib.ListN.{length, get_or}

module _ {A : Type 0} where
  pub member_at : (xs : List A) (a : A) (i : ℕ) → i < length xs → Memᴰ (get_or xs i a) xs
  member_at [] a i h = absurd (let no : ⊥ = omega arith in no)
  member_at (x ∷ xs) a zero h = here refl
  member_at (x ∷ xs) a (suc i) h = there (member_at xs a i (omega arith))

  pub member_in : (xs : List A) (a p : A) → Memᴰ p xs → (i : ℕ) × (i < length xs) × (p ≡ get_or xs i a)
  member_in [] a p m = absurd (Memᴰ.not-nil m)
  member_in (x ∷ xs) a p m = by (λ k. member_in xs a p k) (Memᴰ.cases_cons m)
    where
      by : (Memᴰ p xs → (i : ℕ) × (i < length xs) × (p ≡ get_or xs i a)) → (p ≡ x) ⊎ Memᴰ p xs → (i : ℕ) × (i < suc (length xs)) × (p ≡ get_or (x ∷ xs) i a)
      by on (inl e) = (0, omega arith, e)
      by on (inr k) = let (i, h, e) = on k in (suc i, omega arith, e)

pub member_map : {A B : Type 0} (f : A → B) {a : A} {xs : List A} → Memᴰ a xs → Memᴰ (f a) (map f xs)
member_map f (here e) = here (ap f e)
member_map f (there m) = there (member_map f m)

module _ {A : Type 0} (t : A → Bool) where
  pub filter_has : (xs : List A) (x : A) → Memᴰ x xs → t x ≡ true → Memᴰ x (filter t xs)
  filter_has [] x m e = absurd (Memᴰ.not-nil m)
  filter_has (y ∷ xs) x m e = by (t y) refl (λ k. filter_has xs x k e) (Memᴰ.cases_cons m)
    where
      by : (b : Bool) → t y ≡ b → (Memᴰ x xs → Memᴰ x (filter t xs)) → (x ≡ y) ⊎ Memᴰ x xs → Memᴰ x (cond b (y ∷ filter t xs) (filter t xs))
      by true is rest (inl same) = here same
      by true is rest (inr k) = there (rest k)
      by false is rest (inl same) = absurd (true≢false (sym e ∙ ap t same ∙ is))
      by false is rest (inr k) = rest k

  pub filter_from : (xs : List A) (x : A) → Memᴰ x (filter t xs) → Memᴰ x xs × (t x ≡ true)
  filter_from [] x m = absurd (Memᴰ.not-nil m)
  filter_from (y ∷ xs) x m = by (t y) refl (filter_from xs x) m
    where
      on : t y ≡ true → (Memᴰ x (filter t xs) → Memᴰ x xs × (t x ≡ true)) → (x ≡ y) ⊎ Memᴰ x (filter t xs) → Memᴰ x (y ∷ xs) × (t x ≡ true)
      on is rest (inl same) = (here same, ap t same ∙ is)
      on is rest (inr k) = let (n, e) = rest k in (there n, e)

      by : (b : Bool) → t y ≡ b → (Memᴰ x (filter t xs) → Memᴰ x xs × (t x ≡ true)) → Memᴰ x (cond b (y ∷ filter t xs) (filter t xs)) → Memᴰ x (y ∷ xs) × (t x ≡ true)
      by true is rest k = on is rest (Memᴰ.cases_cons k)
      by false is rest k = let (n, e) = rest k in (there n, e)
