-- Sets that stand for one family of pairs.
--     Beyond f C, beyond  a number above every number that f gives on the pairs of C; there is one
--     covers_dominate     two lists that cover one family dominate each other: each pair of one is dominated by a pair of the other
--     mutual_same         two pruned sets that dominate each other are the same list
--     closes_unique       two sets that close one family are the same list: "the fully pruned set" is one
--     closes_length       and has one length
--     part_covers         a part of a list that dominates all of it covers what the list covers
--     prunes_closes       what pruning leaves of a list that covers a family closes the family
--     closes_prunes       and a set that closes the family is what pruning leaves of the list
--     prunes_unique       pruning leaves one list
--     own_covers          a list whose l are numbers covers the family of its own pairs
-- The argument for two covers C and C' of P. Take a pair (l, w) of C. If l is a number let N be l; if it is unlimited let N be above every number l of
-- C'. Some pair of P has l at least N and w at least w; some q of C' dominates that pair. So q has w at least w, and l at least N; by the choice of N its
-- l is at least l. For sets in pruned order this is more: a pair p of T is dominated by q of T', that by p' of T, and since no pair of T dominates
-- another, p is p' and q. Assumes nothing.
use mathlib.Core.Path.{◌≡◌, refl, sym, ap, subst}
use mathlib.Core.Bool.{Bool, true, false}
use mathlib.Core.Logic.{◌⊎◌, inl, inr}
use mathlib.Core.List.Memᴰ
use mathlib.Core.List.{List, [], ◌∷◌}
use lib.IntN.{ℤ, pos, ◌+ℤ◌}
use lib.Signed.{◌≤ℤ◌, le_z}
use lib.ListN.{length}
use Rattle.integers.proofs.Integer.{linear, sum}
use Rattle.sets.specs.Limit.{Limit, number, unlimited, ◌≤ᴸ◌, numbers, under}
use Rattle.sets.specs.Pair.{Pair, pair, Dominates}
use Rattle.sets.specs.Set.{◌∈◌, Pruned, Dominated, Prunes}
use Rattle.sets.specs.Family.{Family, Of, Covers, Closes}
use Rattle.sets.proofs.Limits.{≤ᴸ-refl, ≤ᴸ-trans, number_≤}
use Rattle.sets.proofs.Pairs.{pair_same, dominates_refl, dominates_trans, dominates_antisym}
use Rattle.sets.proofs.Sets.{pruned_apart, pruned_same, dominated_more}

-- ---- a number beyond all of a list's

pub record Beyond (f : Pair → Limit) (C : List Pair) : Type 0 where
  pub bar : ℤ
  pub passed : (q : Pair) → q ∈ C → number bar ≤ᴸ f q → f q ≡ unlimited

module _ (f : Pair → Limit) where
  -- a greater number is beyond too, and with it one more pair
  beyond_more : (C : List Pair) (p : Pair) (b : Beyond f C) (N : ℤ) → b.bar ≤ℤ N → (number N ≤ᴸ f p → f p ≡ unlimited) → Beyond f (p ∷ C)
  beyond_more C p b N h new = record { bar = N; passed = λ q m k. by q k (Memᴰ.cases_cons m) }
    where
      by : (q : Pair) → number N ≤ᴸ f q → (q ≡ p) ⊎ (q ∈ C) → f q ≡ unlimited
      by q k (inl e) = rw e (new (rw e at k))
      by q k (inr m) = b.passed q m (≤ᴸ-trans (numbers b.bar N h) k)

  pub beyond : (C : List Pair) → Beyond f C
  beyond [] = record { bar = pos 0; passed = λ q m k. absurd (Memᴰ.not-nil m) }
  beyond (p ∷ C) = by (beyond C) (f p) refl
    where
      above : (a N : ℤ) → (a +ℤ pos 1) ≤ℤ N → f p ≡ number a → number N ≤ᴸ f p → f p ≡ unlimited
      above a N h e k = absurd (let l : N ≤ℤ a = number_≤ (rw e at k) in let no : ⊥ = omega (linear, sum a (pos 1)) in no)

      by : (b : Beyond f C) (a : Limit) → f p ≡ a → Beyond f (p ∷ C)
      by b unlimited e = beyond_more C p b b.bar (omega linear) (λ _. e)
      by b (number a) e = greater (le_z b.bar (a +ℤ pos 1)) refl
        where
          greater : (t : Bool) → le_z b.bar (a +ℤ pos 1) ≡ t → Beyond f (p ∷ C)
          greater true h = beyond_more C p b (a +ℤ pos 1) (omega linear) (above a (a +ℤ pos 1) (omega linear) e)
          greater false h = beyond_more C p b b.bar (omega linear) (above a b.bar (omega linear) e)

-- ---- two covers

-- a number that is at most l, and that no pair of C reaches unless its l is at least l
record Reach (l : Limit) (C : List Pair) : Type 0 where
  pub near : ℤ
  pub below : number near ≤ᴸ l
  pub far : (q : Pair) → q ∈ C → number near ≤ᴸ q.l → l ≤ᴸ q.l

reach : (l : Limit) (C : List Pair) → Reach l C
reach (number a) C = record { near = a; below = ≤ᴸ-refl (number a); far = λ q m h. h }
reach unlimited C =
    let b : Beyond (λ p. p.l) C = beyond (λ p. p.l) C in
    record { near = b.bar; below = under (number b.bar); far = λ q m h. rw (b.passed q m h) (under unlimited) }

pub covers_dominate : {C C' : List Pair} {P : Family} → Covers C P → Covers C' P → (p : Pair) → p ∈ C → Dominated C' p
covers_dominate {C' = C'} {P = P} h k p m =
    let r : Reach p.l C' = reach p.l C' in
    let (l, w, is, l-above, w-above) = h.approached p m r.near r.below in
    let d : Dominated C' (pair (number l) w) = k.bound l w is in
    record {
      by = d.by;
      among = d.among;
      dominates =
          record {
            l_below = r.far d.by d.among (≤ᴸ-trans (numbers r.near l l-above) d.dominates.l_below);
            w_below = ≤ᴸ-trans w-above d.dominates.w_below;
          };
    }

-- what two pruned sets that dominate each other share: a pair of one is the pair of the other that dominates it
shared : {S T : List Pair} → Pruned S → ((p : Pair) → p ∈ S → Dominated T p) → ((p : Pair) → p ∈ T → Dominated S p) → (p : Pair) → p ∈ S → p ∈ T
shared ordered there back p m =
    let d = there p m in
    let e = back d.by d.among in
    let same : p ≡ e.by = pruned_apart ordered p e.by m e.among (dominates_trans e.dominates d.dominates) in
    Memᴰ.cast (dominates_antisym d.dominates (subst (λ (x : Pair). Dominates x d.by) (sym same) e.dominates)) d.among

pub mutual_same :
    {S T : List Pair} → Pruned S → Pruned T → ((p : Pair) → p ∈ S → Dominated T p) → ((p : Pair) → p ∈ T → Dominated S p) → S ≡ T
mutual_same h k on back = pruned_same h k (shared h on back) (shared k back on)

pub closes_unique : {S T : List Pair} {P : Family} → Closes S P → Closes T P → S ≡ T
closes_unique h k = mutual_same h.ordered k.ordered (covers_dominate h.covers k.covers) (covers_dominate k.covers h.covers)

pub closes_length : {S T : List Pair} {P : Family} → Closes S P → Closes T P → length S ≡ length T
closes_length h k = ap length (closes_unique h k)

-- ---- pruning

pub part_covers : {C D : List Pair} {P : Family} → Covers C P → ((p : Pair) → p ∈ D → p ∈ C) → ((p : Pair) → p ∈ C → Dominated D p) → Covers D P
part_covers h from bound =
    record {
      bound = λ l w is. let d = h.bound l w is in dominated_more d.dominates (bound d.by d.among);
      approached = λ p m. h.approached p (from p m);
    }

pub prunes_closes : {C T : List Pair} {P : Family} → Covers C P → Prunes C T → Closes T P
prunes_closes h k = record { ordered = k.ordered; covers = part_covers h k.from k.bound }

pub closes_prunes : {C T : List Pair} {P : Family} → Covers C P → Closes T P → Prunes C T
closes_prunes h k =
    record {
      ordered = k.ordered;
      from = shared k.ordered (covers_dominate k.covers h) (covers_dominate h k.covers);
      bound = covers_dominate h k.covers;
    }

pub prunes_unique : {C S T : List Pair} → Prunes C S → Prunes C T → S ≡ T
prunes_unique h k = mutual_same h.ordered k.ordered (λ p m. k.bound p (h.from p m)) (λ p m. h.bound p (k.from p m))

pub own_covers : (C : List Pair) → ((p : Pair) → p ∈ C → (a : ℤ) × (p.l ≡ number a)) → Covers C (Of C)
own_covers C each =
    record {
      bound = λ l w m. record { by = pair (number l) w; among = m; dominates = dominates_refl (pair (number l) w) };
      approached =
          λ p m N h. let (a, e) = each p m in (a, p.w, Memᴰ.cast (pair_same (sym e) refl) m, number_≤ (rw e at h), ≤ᴸ-refl p.w);
    }
