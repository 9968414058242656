-- Selection: the pruned set of a list, found pair by pair from its beginning, whatever partial joins would do.
--     After K p           p comes after every pair of K
--     Front C K           K is a beginning of what pruning leaves of C: in pruned order, of C's pairs, and each pair of C is dominated by one of K or comes
--                         after all of K
--     Next C K q          q is what is selected next: of the pairs of C that come after K one with the greatest w, and among these the greatest l
--     front_start, front_step     nothing is a beginning; with the next pair at its end a beginning is one
--     front_after         whether a pair of C comes after a beginning is seen at the last pair of it: its l is greater
--     front_end           where no pair of C comes after K, K is what pruning leaves of C
--     front_within        every pair of K is in what pruning leaves of C
--     front_length        so that has as many pairs as K at least
--     front_closes, front_overflow   the same, of the set that closes a family which C covers
-- So the 65th pair selected shows that the pruned set has more than 64, and if it never comes, what was selected is the whole set. Joining part after part
-- and counting would not do: a partial join can have more pairs than the whole.
-- The argument for front_within. A pair p of K is dominated by a pair q that pruning leaves. As a pair of C, q is dominated by a pair p' of K, and then p is p'
-- and q; or it comes after all of K, and then it does not dominate p. Assumes nothing.
use mathlib.Core.Path.{◌≡◌, refl}
use mathlib.Core.Logic.{◌⊎◌, inl, inr}
use mathlib.Core.List.Memᴰ
use mathlib.Core.List.Memᴰ.{head as here}
use mathlib.Core.List.{
  List,
  [],
  ◌∷◌,
  ◌++◌,
}
use Prim.Native.Nat.{◌≤◌}
use lib.ListN.{length}
use Rattle.sets.specs.Limit.{◌≤ᴸ◌, ◌<ᴸ◌}
use Rattle.sets.specs.Pair.{Pair, Dominates, Before}
use Rattle.sets.specs.Set.{◌∈◌, Pruned, none, Dominated, Prunes}
use Rattle.sets.specs.Family.{Family, Covers, Closes}
use Rattle.sets.proofs.Limits.{≤ᴸ-trans, <ᴸ-not-≤ᴸ, compared, Compared, at_most, above}
use Rattle.sets.proofs.Pairs.{dominates_trans, dominates_antisym, before_apart}
use Rattle.sets.proofs.Sets.{pruned_apart, pruned_last, pruned_length, last_longest, dominated_within}
use Rattle.sets.proofs.Covers.{prunes_closes, closes_prunes}

abbrev pub After : List Pair → Pair → Type 0
After K p = (q : Pair) → q ∈ K → Before q p

pub record Front (C K : List Pair) : Type 0 where
  pub ordered : Pruned K
  pub from : (p : Pair) → p ∈ K → p ∈ C
  pub each : (p : Pair) → p ∈ C → Dominated K p ⊎ After K p

pub record Next (C K : List Pair) (q : Pair) : Type 0 where
  pub among : q ∈ C
  pub after : After K q
  pub highest : (p : Pair) → p ∈ C → After K p → p.w ≤ᴸ q.w
  pub longest : (p : Pair) → p ∈ C → After K p → q.w ≤ᴸ p.w → p.l ≤ᴸ q.l

pub front_start : (C : List Pair) → Front C []
front_start C = record { ordered = none; from = λ p m. absurd (Memᴰ.not-nil m); each = λ p m. inr (λ q k. absurd (Memᴰ.not-nil k)) }

pub front_step : {C K : List Pair} {q : Pair} → Front C K → Next C K q → Front C (K ++ (q ∷ []))
front_step {C} {K} {q} f n =
    record { ordered = pruned_last f.ordered n.after; from = λ p m. kept p (Memᴰ.append_cases K m); each = λ p m. by p m (f.each p m) }
  where
    kept : (p : Pair) → (p ∈ K) ⊎ (p ∈ (q ∷ [])) → p ∈ C
    kept p (inl m) = f.from p m
    kept p (inr m) = Memᴰ.cast (Memᴰ.eq_of_singleton m) n.among

    -- p comes after K, and its l is above that of q: then its w is below
    beyond : (p : Pair) → p ∈ C → After K p → q.l <ᴸ p.l → After (K ++ (q ∷ [])) p
    beyond p m after rises r k = on (Memᴰ.append_cases K k) (compared q.w p.w)
      where
        on : (r ∈ K) ⊎ (r ∈ (q ∷ [])) → Compared q.w p.w → Before r p
        on (inl k') t = after r k'
        on (inr k') (at_most t) = absurd (<ᴸ-not-≤ᴸ rises (n.longest p m after t))
        on (inr k') (above t) = rw (Memᴰ.eq_of_singleton k') (record { l_rises = rises; w_falls = t })

    by : (p : Pair) → p ∈ C → Dominated K p ⊎ After K p → Dominated (K ++ (q ∷ [])) p ⊎ After (K ++ (q ∷ [])) p
    by p m (inl d) = inl (dominated_within (λ r k. Memᴰ.append_left (q ∷ []) k) d)
    by p m (inr after) = on (compared p.l q.l)
      where
        on : Compared p.l q.l → Dominated (K ++ (q ∷ [])) p ⊎ After (K ++ (q ∷ [])) p
        on (at_most t) =
            inl (record { by = q; among = Memᴰ.append_right K (here refl); dominates = record { l_below = t; w_below = n.highest p m after } })
        on (above t) = inr (beyond p m after t)

pub front_after : {C : List Pair} (K : List Pair) (q : Pair) → Front C (K ++ (q ∷ [])) → (p : Pair) → p ∈ C → q.l <ᴸ p.l → After (K ++ (q ∷ [])) p
front_after K q f p m rises = by (f.each p m)
  where
    by : Dominated (K ++ (q ∷ [])) p ⊎ After (K ++ (q ∷ [])) p → After (K ++ (q ∷ [])) p
    by (inl d) = absurd (<ᴸ-not-≤ᴸ rises (≤ᴸ-trans d.dominates.l_below (last_longest K q f.ordered d.by d.among)))
    by (inr after) = after

module _ {C K : List Pair} (f : Front C K) where
  pub front_end : ((p : Pair) → p ∈ C → After K p → ⊥) → Prunes C K
  front_end over = record { ordered = f.ordered; from = f.from; bound = λ p m. by p m (f.each p m) }
    where
      by : (p : Pair) → p ∈ C → Dominated K p ⊎ After K p → Dominated K p
      by p m (inl d) = d
      by p m (inr after) = absurd (over p m after)

  pub front_within : {T : List Pair} → Prunes C T → (p : Pair) → p ∈ K → p ∈ T
  front_within {T} h p m =
      let d : Dominated T p = h.bound p (f.from p m) in
      by d (f.each d.by (h.from d.by d.among))
    where
      by : (d : Dominated T p) → Dominated K d.by ⊎ After K d.by → p ∈ T
      by d (inl e) =
          let same : p ≡ e.by = pruned_apart f.ordered p e.by m e.among (dominates_trans e.dominates d.dominates) in
          let up : Dominates p d.by = rw same e.dominates in
          Memᴰ.cast (dominates_antisym d.dominates up) d.among
      by d (inr after) = absurd ((before_apart (after p m)).1 d.dominates)

  pub front_length : {T : List Pair} → Prunes C T → length K ≤ length T
  front_length h = pruned_length f.ordered h.ordered (front_within h)

  module _ {P : Family} (covers : Covers C P) where
    pub front_closes : ((p : Pair) → p ∈ C → After K p → ⊥) → Closes K P
    front_closes over = prunes_closes covers (front_end over)

    pub front_overflow : {T : List Pair} → Closes T P → length K ≤ length T
    front_overflow h = front_length (closes_prunes covers h)
