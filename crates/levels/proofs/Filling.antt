-- The candidates of a turn as the code writes them: a list of pairs, filled from the front.
--     filled_none       before the first is written there is none
--     filled_more       one written at place n is one candidate more, at the end
--     last_kept, last_new, last_only   what stands in a list with one pair more at its end
-- Assumes nothing.
use mathlib.Core.Path.{◌≡◌, refl}
use mathlib.Core.Logic.{◌⊎◌, inl, inr}
use mathlib.Core.List.Memᴰ
use mathlib.Core.List.Memᴰ.{head as here}
use mathlib.Core.List.{
  List,
  [],
  ◌∷◌,
  ◌++◌,
  map-append,
}
use Prim.Native.Nat.{ℕ, suc, ◌<◌}
use native.Mathlib.Nat.{le_refl}
use native.Mathlib.Omega.{arith}
use lib.ListN.{length, get_or, set, take, length-set}
use lib.Seq.{take-suc, take-set-le, get_or-set_same}
use Rattle.sets.specs.Pair.{Pair}
use Rattle.sets.specs.Set.{◌∈◌}
use Rattle.sets.specs.Held.{pair_of, candidates_of}
use Rattle.sets.specs.declared.Pair.{Pair as HeldPair}

-- a store at place n is one entry more of the first n
taken_more : {A : Type 0} (xs : List A) (n : ℕ) (a : A) → n < length xs → take (suc n) (set xs n a) ≡ take n xs ++ (a ∷ [])
taken_more {A} xs n a l =
    let long : n < length (set xs n a) = omega (arith, length-set xs n a) in
    let before : take n (set xs n a) ≡ take n xs = take-set-le n xs n a (le_refl n) in
    let new : get_or (set xs n a) n a ≡ a = get_or-set_same xs n a a l in
    rw (take-suc (set xs n a) n a long, before, new)

pub filled_none : (es : List HeldPair) → candidates_of (take 0 es) ≡ []
filled_none es = refl

pub filled_more : (es : List HeldPair) (n : ℕ) → n < length es → (e : HeldPair)
    → candidates_of (take (suc n) (set es n e)) ≡ candidates_of (take n es) ++ (pair_of e ∷ [])
filled_more es n room e = rw (taken_more es n e room, map-append pair_of)

-- ---- one pair more at the end

pub last_kept : (C : List Pair) (q p : Pair) → p ∈ C → p ∈ (C ++ (q ∷ []))
last_kept C q p m = Memᴰ.append_left (q ∷ []) m

pub last_new : (C : List Pair) (q : Pair) → q ∈ (C ++ (q ∷ []))
last_new C q = Memᴰ.append_right C (here refl)

pub last_only : (C : List Pair) (q p : Pair) → p ∈ (C ++ (q ∷ [])) → (p ∈ C) ⊎ (p ≡ q)
last_only C q p m = by (Memᴰ.append_cases C m)
  where
    by : (p ∈ C) ⊎ (p ∈ (q ∷ [])) → (p ∈ C) ⊎ (p ≡ q)
    by (inl k) = inl k
    by (inr k) = inr (Memᴰ.eq_of_singleton k)
