-- Lists that are the same up to n and beyond.
--     same_parts      what stands up to n, and what stands beyond, is one list each
--     same_places     they are of one length, have the same in each place up to n, and the same list beyond
-- Assumes nothing.
use mathlib.Core.Path.{◌≡◌, sym, subst, ◌∙◌}
use mathlib.Core.List.{List, ◌++◌}
use Prim.Native.Nat.{ℕ, ◌+◌, ◌-◌, ◌<◌, ◌≤◌}
use native.Mathlib.Decide.{dec_lt}
use native.Mathlib.Omega.{arith}
use lib.ListN.{length, get_or, take, drop, take-append-drop}
use lib.Seq.{ext_get_or, get_or-drop}

module _ {A : Type 0} (n : ℕ) (xs ys : List A) where
  pub same_parts : take n xs ≡ take n ys → drop n xs ≡ drop n ys → xs ≡ ys
  same_parts up_to_lem beyond = sym (take-append-drop n xs) ∙ (λ i. up_to_lem i ++ beyond i) ∙ take-append-drop n ys

  -- z is what a list has past its end
  pub same_places : (z : A) → length xs ≡ length ys → ((i : ℕ) → i < n → get_or xs i z ≡ get_or ys i z) → drop n xs ≡ drop n ys → xs ≡ ys
  same_places z long up_to_lem beyond = ext_get_or z xs ys long (λ i l. place i (dec_lt i n))
    where
      after : (i : ℕ) → n ≤ i → get_or xs i z ≡ get_or ys i z
      after i l =
          let e : n + (i - n) ≡ i = omega arith in
          subst (λ (k : ℕ). get_or xs k z ≡ get_or ys k z) e
          (sym (get_or-drop n xs (i - n) z) ∙ subst (λ (zs : List A). get_or zs (i - n) z ≡ get_or ys (n + (i - n)) z) (sym beyond) (get_or-drop n ys (i - n) z))

      place : (i : ℕ) → Dec (i < n) → get_or xs i z ≡ get_or ys i z
      place i (yes l) = up_to_lem i l
      place i (no l) = after i (omega arith)
