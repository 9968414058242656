-- Laws of sets of pairs in pruned order.
--     all_after           every pair after the first comes after it
--     pruned_apart        no pair of a pruned set dominates another
--     pruned_last         a pair that comes after all of a pruned set can be put at its end
--     last_longest        the last pair has the greatest l
--     pruned_length       a pruned set within another is not longer
--     pruned_same         two pruned sets with the same pairs are the same list
--     dominated_more      what a dominated pair dominates is dominated
--     dominated_within    what a list dominates, a list that holds its pairs dominates
--     zero_before, zero_after        composed with pass-nothing, before or after, a set is pass-nothing
--     everything_before, everything_after   composed with pass-everything, before or after, a set keeps its pairs
--     append_joins        two lists, one after the other, are joined
-- Assumes nothing.
use mathlib.Core.Path.{◌≡◌, refl, sym}
use mathlib.Core.Logic.{◌⊎◌, inl, inr}
use mathlib.Core.List.Memᴰ
use mathlib.Core.List.Memᴰ.{head as here}
use mathlib.Core.List.Memᴰ.{tail as there}
use mathlib.Core.List.{
  List,
  [],
  ◌∷◌,
  ◌++◌,
}
use Prim.Native.Nat.{suc, ◌≤◌, zero-le, suc-le-suc}
use native.Mathlib.Omega.{arith}
use lib.ListN.{length}
use Rattle.sets.specs.Limit.{◌≤ᴸ◌}
use Rattle.sets.specs.Pair.{Pair, Dominates, Before, unit}
use Rattle.sets.specs.Set.{◌∈◌, Joined, Composed, Ahead, Pruned, none, first, Dominated, pass_everything, pass_nothing}
use Rattle.sets.proofs.Limits.{≤ᴸ-refl, <ᴸ-≤ᴸ}
use Rattle.sets.proofs.Pairs.{dominates_trans, dominates_refl, before_trans, before_apart, unit_compose, compose_unit}

-- ---- pruned order

pub all_after : {p : Pair} {T : List Pair} → Ahead p T → Pruned T → (q : Pair) → q ∈ T → Before p q
all_after ahead none q m = absurd (Memᴰ.not-nil m)
all_after {p} ahead (first {p = r} next rest) q m = by (λ k. before_trans ahead (all_after next rest q k)) (Memᴰ.cases_cons m)
  where
    by : {T : List Pair} → (q ∈ T → Before p q) → (q ≡ r) ⊎ (q ∈ T) → Before p q
    by on (inl e) = rw e ahead
    by on (inr k) = on k

pub pruned_apart : {T : List Pair} → Pruned T → (p q : Pair) → p ∈ T → q ∈ T → Dominates q p → p ≡ q
pruned_apart none p q m k d = absurd (Memᴰ.not-nil m)
pruned_apart (first {p = r} {T = T} ahead rest) p q m k d =
    by (λ m' k'. pruned_apart rest p q m' k' d) (Memᴰ.cases_cons m) (Memᴰ.cases_cons k)
  where
    by : (p ∈ T → q ∈ T → p ≡ q) → (p ≡ r) ⊎ (p ∈ T) → (q ≡ r) ⊎ (q ∈ T) → p ≡ q
    by on (inl e) (inl f) = cc
    by on (inl e) (inr k') = absurd ((before_apart (all_after ahead rest q k')).1 (rw e at d))
    by on (inr m') (inl f) = absurd ((before_apart (all_after ahead rest p m')).0 (rw f at d))
    by on (inr m') (inr k') = on m' k'

ahead_last : {r p : Pair} (T : List Pair) → Ahead r T → Before r p → Ahead r (T ++ (p ∷ []))
ahead_last [] ahead before = before
ahead_last (q ∷ T) ahead before = ahead

pub pruned_last : {T : List Pair} {p : Pair} → Pruned T → ((q : Pair) → q ∈ T → Before q p) → Pruned (T ++ (p ∷ []))
pruned_last none after = first tt none
pruned_last (first {p = r} {T = T} ahead rest) after =
    first (ahead_last T ahead (after r (here refl))) (pruned_last rest (λ q m. after q (there m)))

pub last_longest : (T : List Pair) (p : Pair) → Pruned (T ++ (p ∷ [])) → (q : Pair) → q ∈ (T ++ (p ∷ [])) → q.l ≤ᴸ p.l
last_longest [] p ordered q m = rw (Memᴰ.eq_of_singleton m) (≤ᴸ-refl p.l)
last_longest (r ∷ T) p (first ahead rest) q m = by (Memᴰ.cases_cons m) (λ k. last_longest T p rest q k)
  where
    by : (q ≡ r) ⊎ (q ∈ (T ++ (p ∷ []))) → (q ∈ (T ++ (p ∷ [])) → q.l ≤ᴸ p.l) → q.l ≤ᴸ p.l
    by (inl e) on = rw e (<ᴸ-≤ᴸ (all_after ahead rest p (Memᴰ.append_right T (here refl))).l_rises)
    by (inr k) on = on k

-- ---- a pruned set within another

-- a pair that comes after q and stands in q ∷ T stands in T
in_rest : {q r : Pair} {T : List Pair} → Before q r → r ∈ (q ∷ T) → r ∈ T
in_rest {q} {r} {T} before m = by (Memᴰ.cases_cons m)
  where
    by : (r ≡ q) ⊎ (r ∈ T) → r ∈ T
    by (inl e) = absurd ((before_apart before).0 (rw e (dominates_refl q)))
    by (inr k) = k

-- where p ∷ S lies within q ∷ T: if p is q, then S lies within T
tails_within :
    {p q : Pair} {S T : List Pair} → Ahead p S → Pruned S → ((r : Pair) → r ∈ (p ∷ S) → r ∈ (q ∷ T)) → p ≡ q
    → (r : Pair) → r ∈ S → r ∈ T
tails_within ahead rest within e r m = in_rest (rw e at (all_after ahead rest r m)) (within r (there m))

-- and if p stands in T, then p ∷ S does
whole_within :
    {p q : Pair} {S T : List Pair} → Ahead p S → Pruned S → Ahead q T → Pruned T → ((r : Pair) → r ∈ (p ∷ S) → r ∈ (q ∷ T)) → p ∈ T
    → (r : Pair) → r ∈ (p ∷ S) → r ∈ T
whole_within {p} {q} {S} {T} ahead rest next others within k r m = by (Memᴰ.cases_cons m)
  where
    by : (r ≡ p) ⊎ (r ∈ S) → r ∈ T
    by (inl e) = Memᴰ.cast e k
    by (inr m') = in_rest (before_trans (all_after next others p k) (all_after ahead rest r m')) (within r (there m'))

pub pruned_length : {S T : List Pair} → Pruned S → Pruned T → ((p : Pair) → p ∈ S → p ∈ T) → length S ≤ length T
pruned_length none T within = zero-le
pruned_length (first {p = p} ahead rest) none within = absurd (Memᴰ.not-nil (within p (here refl)))
pruned_length (first {p = p} {T = S} ahead rest) (first {p = q} {T = T} next others) within =
    by
    (λ e. pruned_length rest others (tails_within ahead rest within e))
    (λ k. pruned_length (first ahead rest) others (whole_within ahead rest next others within k))
    (Memᴰ.cases_cons (within p (here refl)))
  where
    by : (p ≡ q → length S ≤ length T) → (p ∈ T → suc (length S) ≤ length T) → (p ≡ q) ⊎ (p ∈ T) → suc (length S) ≤ suc (length T)
    by same later (inl e) = suc-le-suc (same e)
    by same later (inr k) = omega (arith, later k)

pub pruned_same : {S T : List Pair} → Pruned S → Pruned T → ((p : Pair) → p ∈ S → p ∈ T) → ((p : Pair) → p ∈ T → p ∈ S) → S ≡ T
pruned_same none none within back = refl
pruned_same none (first {p = q} next others) within back = absurd (Memᴰ.not-nil (back q (here refl)))
pruned_same (first {p = p} ahead rest) none within back = absurd (Memᴰ.not-nil (within p (here refl)))
pruned_same (first {p = p} {T = S} ahead rest) (first {p = q} {T = T} next others) within back =
    let e : p ≡ q = by (Memᴰ.cases_cons (within p (here refl))) (Memᴰ.cases_cons (back q (here refl))) in
    let f : S ≡ T = pruned_same rest others (tails_within ahead rest within e) (tails_within next others back (sym e)) in
    cc
  where
    by : (p ≡ q) ⊎ (p ∈ T) → (q ≡ p) ⊎ (q ∈ S) → p ≡ q
    by (inl e) b = e
    by (inr k) (inl f) = sym f
    by (inr k) (inr m) = absurd ((before_apart (before_trans (all_after next others p k) (all_after ahead rest q m))).0 (dominates_refl q))

-- ---- domination by a set

pub dominated_more : {C : List Pair} {p q : Pair} → Dominates q p → Dominated C q → Dominated C p
dominated_more d h = record { by = h.by; among = h.among; dominates = dominates_trans h.dominates d }

pub dominated_within : {C D : List Pair} {p : Pair} → ((q : Pair) → q ∈ C → q ∈ D) → Dominated C p → Dominated D p
dominated_within within d = record { by = d.by; among = within d.by d.among; dominates = d.dominates }

-- ---- joining and composing

pub append_joins : (A B : List Pair) → Joined A B (A ++ B)
append_joins A B =
    record {
      left = λ p m. Memᴰ.append_left B m;
      right = λ p m. Memᴰ.append_right A m;
      only = λ p m. Memᴰ.append_cases A m;
    }

no_pairs : (C : List Pair) → ((p : Pair) → p ∈ C → ⊥) → C ≡ []
no_pairs [] empty = refl
no_pairs (p ∷ C) empty = absurd (empty p (here refl))

pub zero_before : {B C : List Pair} → Composed pass_nothing B C → C ≡ pass_nothing
zero_before {C = C} h = no_pairs C (λ r m. let (p, q, a, b, e) = h.only r m in Memᴰ.not-nil a)

pub zero_after : {A C : List Pair} → Composed A pass_nothing C → C ≡ pass_nothing
zero_after {C = C} h = no_pairs C (λ r m. let (p, q, a, b, e) = h.only r m in Memᴰ.not-nil b)

pub everything_before : (A : List Pair) → Composed pass_everything A A
everything_before A =
    record {
      every = λ p q m k. Memᴰ.cast (let e : p ≡ unit = Memᴰ.eq_of_singleton m in rw (e, unit_compose q)) k;
      only = λ r m. (unit, r, here refl, m, sym (unit_compose r));
    }

pub everything_after : (A : List Pair) → Composed A pass_everything A
everything_after A =
    record {
      every = λ p q m k. Memᴰ.cast (let e : q ≡ unit = Memᴰ.eq_of_singleton k in rw (e, compose_unit p)) m;
      only = λ r m. (r, unit, m, here refl, sym (compose_unit r));
    }
