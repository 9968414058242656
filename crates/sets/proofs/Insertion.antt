-- Every finite set can be pruned. Report, section 3.2: "By proper application of this pruning rule, we can always write our sets of ordered pairs (9) such
-- that" l rises and w falls.
--     insert              one more pair is put into a pruned set: it is dropped if it is dominated, and what it dominates is dropped
--     prune               pruning leaves a list of any list; by `prunes_unique` it is one
--     closing             where a list covers a family, a set closes it
-- Assumes nothing.
use mathlib.Core.Path.{◌≡◌, refl}
use mathlib.Core.Logic.{◌⊎◌, inl, inr}
use mathlib.Core.List.Memᴰ
use mathlib.Core.List.Memᴰ.{head as here}
use mathlib.Core.List.Memᴰ.{tail as there}
use mathlib.Core.List.{List, [], ◌∷◌}
use Rattle.sets.specs.Pair.{Pair, Dominates, Before}
use Rattle.sets.specs.Set.{◌∈◌, Ahead, Pruned, none, first, Dominated, Prunes}
use Rattle.sets.specs.Family.{Family, Covers, Closes}
use Rattle.sets.proofs.Limits.{<ᴸ-≤ᴸ, compared, Compared, at_most, above}
use Rattle.sets.proofs.Pairs.{dominates_refl}
use Rattle.sets.proofs.Sets.{all_after, dominated_more, dominated_within}
use Rattle.sets.proofs.Covers.{prunes_closes}

-- S is T with p put in
record Inserted (p : Pair) (T : List Pair) : Type 0 where
  pub S : List Pair
  pub ordered : Pruned S
  pub from : (r : Pair) → r ∈ S → (r ≡ p) ⊎ (r ∈ T)
  pub old : (r : Pair) → r ∈ T → Dominated S r
  pub new : Dominated S p

itself : {T : List Pair} (r : Pair) → r ∈ T → Dominated T r
itself r m = record { by = r; among = m; dominates = dominates_refl r }

ahead_of : {q : Pair} (S : List Pair) → ((r : Pair) → r ∈ S → Before q r) → Ahead q S
ahead_of [] each = tt
ahead_of (r ∷ S) each = each r (here refl)

-- q dominates p, which is dropped
dropped : {p q : Pair} {T : List Pair} → Pruned (q ∷ T) → Dominates q p → Inserted p (q ∷ T)
dropped {p} {q} {T} ordered d =
    record { S = q ∷ T; ordered = ordered; from = λ r m. inr m; old = λ r m. itself r m; new = record { by = q; among = here refl; dominates = d } }

-- p dominates q, which is dropped
displaced : {p q : Pair} {T : List Pair} → Inserted p T → Dominates p q → Inserted p (q ∷ T)
displaced {p} {q} {T} i d =
    record { S = i.S; ordered = i.ordered; from = λ r m. later r (i.from r m); old = λ r m. on r (Memᴰ.cases_cons m); new = i.new }
  where
    later : (r : Pair) → (r ≡ p) ⊎ (r ∈ T) → (r ≡ p) ⊎ (r ∈ (q ∷ T))
    later r (inl e) = inl e
    later r (inr m) = inr (there m)

    on : (r : Pair) → (r ≡ q) ⊎ (r ∈ T) → Dominated i.S r
    on r (inl e) = rw e (dominated_more d i.new)
    on r (inr m) = i.old r m

-- p comes before q
in_front : {p q : Pair} {T : List Pair} → Pruned (q ∷ T) → Before p q → Inserted p (q ∷ T)
in_front {p} {q} {T} ordered b =
    record {
      S = p ∷ (q ∷ T);
      ordered = first b ordered;
      from = λ r m. Memᴰ.cases_cons m;
      old = λ r m. itself r (there m);
      new = itself p (here refl);
    }

-- p comes after q
further : {p q : Pair} {T : List Pair} → Inserted p T → Ahead q T → Pruned T → Before q p → Inserted p (q ∷ T)
further {p} {q} {T} i ahead rest b =
    record {
      S = q ∷ i.S;
      ordered = first (ahead_of i.S (λ r m. after r (i.from r m))) i.ordered;
      from = λ r m. later r (Memᴰ.cases_cons m);
      old = λ r m. on r (Memᴰ.cases_cons m);
      new = dominated_within (λ r m. there m) i.new;
    }
  where
    after : (r : Pair) → (r ≡ p) ⊎ (r ∈ T) → Before q r
    after r (inl e) = rw e b
    after r (inr m) = all_after ahead rest r m

    later : (r : Pair) → (r ≡ q) ⊎ (r ∈ i.S) → (r ≡ p) ⊎ (r ∈ (q ∷ T))
    later r (inl e) = inr (here e)
    later r (inr m) = on_rest (i.from r m)
      where
        on_rest : (r ≡ p) ⊎ (r ∈ T) → (r ≡ p) ⊎ (r ∈ (q ∷ T))
        on_rest (inl e) = inl e
        on_rest (inr k) = inr (there k)

    on : (r : Pair) → (r ≡ q) ⊎ (r ∈ T) → Dominated (q ∷ i.S) r
    on r (inl e) = rw e (itself q (here refl))
    on r (inr m) = dominated_within (λ s k. there k) (i.old r m)

insert : {T : List Pair} (p : Pair) → Pruned T → Inserted p T
insert p none =
    record {
      S = p ∷ [];
      ordered = first tt none;
      from = λ r m. inl (Memᴰ.eq_of_singleton m);
      old = λ r m. absurd (Memᴰ.not-nil m);
      new = itself p (here refl);
    }
insert p (first {p = q} {T = T} ahead rest) =
    by (insert p rest) (compared p.l q.l) (compared q.l p.l) (compared p.w q.w) (compared q.w p.w)
  where
    by :
        Inserted p T → Compared p.l q.l → Compared q.l p.l → Compared p.w q.w → Compared q.w p.w
        → Inserted p (q ∷ T)
    by i (at_most a) l (at_most b) w = dropped (first ahead rest) (record { l_below = a; w_below = b })
    by i (at_most a) (at_most l) (above b) w = displaced i (record { l_below = l; w_below = <ᴸ-≤ᴸ b })
    by i (at_most a) (above l) (above b) w = in_front (first ahead rest) (record { l_rises = l; w_falls = b })
    by i (above a) l b (at_most w) = displaced i (record { l_below = <ᴸ-≤ᴸ a; w_below = w })
    by i (above a) l b (above w) = further i ahead rest (record { l_rises = a; w_falls = w })

pub prune : (C : List Pair) → (T : List Pair) × Prunes C T
prune [] = ([], record { ordered = none; from = λ p m. m; bound = λ p m. absurd (Memᴰ.not-nil m) })
prune (p ∷ C) =
    let (T, h) = prune C in
    let i : Inserted p T = insert p h.ordered in
    (i.S, record { ordered = i.ordered; from = λ r m. from T h r (i.from r m); bound = λ r m. bound T h i r (Memᴰ.cases_cons m) })
  where
    from : (T : List Pair) → Prunes C T → (r : Pair) → (r ≡ p) ⊎ (r ∈ T) → r ∈ (p ∷ C)
    from T h r (inl e) = here e
    from T h r (inr m) = there (h.from r m)

    bound : (T : List Pair) → Prunes C T → (i : Inserted p T) (r : Pair) → (r ≡ p) ⊎ (r ∈ C) → Dominated i.S r
    bound T h i r (inl e) = rw e i.new
    bound T h i r (inr m) = let d = h.bound r m in dominated_more d.dominates (i.old d.by d.among)

pub closing : {C : List Pair} {P : Family} → Covers C P → (T : List Pair) × Closes T P
closing {C} h = let (T, k) = prune C in (T, prunes_closes h k)
