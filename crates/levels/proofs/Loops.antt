-- A node's turn as loops over the templates, one template a turn.
--     LeastBelow At f r c              c is the least f j over the templates below r with At j
--     least_none, least_hit, least_miss, least_done   before the first template; a template with At; one without; after the last
--     TurnBelow At Here own sets r C     C holds the candidates of the templates below r with At j, and the unit where Here holds
--     turn_none, turn_hit, turn_miss, turn_done       the same of the candidates
--     Added own T C C'                   C' holds C's pairs and those of own composed with T's, and no other
--     added_none, added_more             a template's own loop, over the pairs of its set
-- Assumes nothing.
use mathlib.Core.Path.{◌≡◌, refl, sym, subst}
use mathlib.Core.Logic.{◌⊎◌, inl, inr}
use mathlib.Core.List.Memᴰ
use mathlib.Core.List.Memᴰ.{head as here}
use mathlib.Core.List.{
  List,
  [],
  ◌∷◌,
  ◌++◌,
}
use Prim.Native.Nat.{ℕ, suc, ◌<◌}
use native.Mathlib.Omega.{arith}
use Rattle.sequences.proofs.Below.{below_next}
use Rattle.sets.specs.Limit.{Limit, unlimited, ◌≤ᴸ◌}
use Rattle.sets.specs.Pair.{Pair, compose, unit}
use Rattle.sets.specs.Set.{◌∈◌}
use Rattle.sets.proofs.Limits.{≤ᴸ-trans}
use Rattle.processes.specs.Process.{templates, ProcessGraph}
use Rattle.levels.specs.Parts.Turns.{Reached, LeastTemplate, Candidate, TemplateTurn}

-- ---- the least

pub record LeastBelow (At : ℕ → Type 0) (f : ℕ → Limit) (r : ℕ) (c : Limit) : Type 0 where
  pub reached : Reached At f r c
  pub bound : (j : ℕ) → j < r → At j → c ≤ᴸ f j

module _ {At : ℕ → Type 0} {f : ℕ → Limit} where
  pub least_none : LeastBelow At f 0 unlimited
  least_none = record { reached = inl refl; bound = λ j l. absurd (let no : ⊥ = omega arith in no) }

  reached_later : {r : ℕ} {c : Limit} → Reached At f r c → Reached At f (suc r) c
  reached_later (inl e) = inl e
  reached_later (inr (j, l, a, e)) = inr (j, omega arith, a, e)

  pub least_miss : {r : ℕ} {c : Limit} → (At r → ⊥) → LeastBelow At f r c → LeastBelow At f (suc r) c
  least_miss {r} {c} n h = record { reached = reached_later h.reached; bound = below_next (λ j. At j → c ≤ᴸ f j) r h.bound (λ a. absurd (n a)) }

  -- d is the lesser of c and f r
  pub least_hit : {r : ℕ} {c d : Limit} → At r → LeastBelow At f r c → d ≤ᴸ c → d ≤ᴸ f r → (d ≡ c) ⊎ (d ≡ f r) → LeastBelow At f (suc r) d
  least_hit {r} {c} {d} a h under-c under-f which =
      record { reached = by which; bound = below_next (λ j. At j → d ≤ᴸ f j) r (λ j l b. ≤ᴸ-trans under-c (h.bound j l b)) (λ b. under-f) }
    where
      by : (d ≡ c) ⊎ (d ≡ f r) → Reached At f (suc r) d
      by (inl e) = subst (Reached At f (suc r)) (sym e) (reached_later h.reached)
      by (inr e) = inr (r, omega arith, a, sym e)

  pub least_done : {g : ProcessGraph} {c : Limit} → LeastBelow At f (templates g) c → LeastTemplate g At f c
  least_done h = record { reached = h.reached; bound = h.bound }

-- ---- the candidates

pub record TurnBelow (At : ℕ → Type 0) (Here : Type 0) (own : ℕ → Pair) (sets : ℕ → List Pair) (r : ℕ) (C : List Pair) : Type 0 where
  pub here : Here → unit ∈ C
  pub on : (j : ℕ) → j < r → At j → (q : Pair) → q ∈ sets j → compose (own j) q ∈ C
  pub only : (p : Pair) → p ∈ C → Candidate At Here own sets r p

-- C' holds C's pairs and those of own composed with T's
pub record Added (own : Pair) (T C C' : List Pair) : Type 0 where
  pub kept : (p : Pair) → p ∈ C → p ∈ C'
  pub new : (q : Pair) → q ∈ T → compose own q ∈ C'
  pub only : (p : Pair) → p ∈ C' → (p ∈ C) ⊎ ((q : Pair) × (q ∈ T) × (p ≡ compose own q))

pub added_none : (own : Pair) (C : List Pair) → Added own [] C C
added_none own C = record { kept = λ p m. m; new = λ q m. absurd (Memᴰ.not-nil m); only = λ p m. inl m }

-- one pair more of the set: D holds C''s pairs and its composition, and no other
pub added_more : (own : Pair) {T C C' D : List Pair} (q : Pair) → Added own T C C' → ((p : Pair) → p ∈ C' → p ∈ D) → compose own q ∈ D
    → ((p : Pair) → p ∈ D → (p ∈ C') ⊎ (p ≡ compose own q)) → Added own (T ++ (q ∷ [])) C D
added_more own {T} {C} {C'} {D} q h kept new only =
    record {
      kept = λ p m. kept p (h.kept p m);
      new = λ x m. taken x (Memᴰ.append_cases T m);
      only = λ p m. by p (only p m);
    }
  where
    taken : (x : Pair) → (x ∈ T) ⊎ (x ∈ (q ∷ [])) → compose own x ∈ D
    taken x (inl m) = kept (compose own x) (h.new x m)
    taken x (inr m) = subst (λ (y : Pair). compose own y ∈ D) (sym (Memᴰ.eq_of_singleton m)) new

    from : (p : Pair) → (p ∈ C) ⊎ ((x : Pair) × (x ∈ T) × (p ≡ compose own x)) → (p ∈ C) ⊎ ((x : Pair) × (x ∈ (T ++ (q ∷ []))) × (p ≡ compose own x))
    from p (inl m) = inl m
    from p (inr (x, m, e)) = inr (x, Memᴰ.append_left (q ∷ []) m, e)

    by : (p : Pair) → (p ∈ C') ⊎ (p ≡ compose own q) → (p ∈ C) ⊎ ((x : Pair) × (x ∈ (T ++ (q ∷ []))) × (p ≡ compose own x))
    by p (inl m) = from p (h.only p m)
    by p (inr e) = inr (q, Memᴰ.append_right T (here refl), e)

module _ {At : ℕ → Type 0} {Here : Type 0} (own : ℕ → Pair) (sets : ℕ → List Pair) where
  later : (r : ℕ) (p : Pair) → Candidate At Here own sets r p → Candidate At Here own sets (suc r) p
  later r p (inl h) = inl h
  later r p (inr (j, q, l, a, m, e)) = inr (j, q, omega arith, a, m, e)

module _ {At : ℕ → Type 0} {Here : Type 0} {own : ℕ → Pair} {sets : ℕ → List Pair} where
  -- before the first template C holds the unit, where Here holds, and no other
  pub turn_none : {C : List Pair} → (Here → unit ∈ C) → ((p : Pair) → p ∈ C → Here × (p ≡ unit)) → TurnBelow At Here own sets 0 C
  turn_none h only = record { here = h; on = λ j l. absurd (let no : ⊥ = omega arith in no); only = λ p m. inl (only p m) }

  pub turn_miss : {r : ℕ} {C : List Pair} → (At r → ⊥) → TurnBelow At Here own sets r C → TurnBelow At Here own sets (suc r) C
  turn_miss {r} {C} n h =
      record {
        here = h.here;
        on = below_next (λ j. At j → (q : Pair) → q ∈ sets j → compose (own j) q ∈ C) r h.on (λ a. absurd (n a));
        only = λ p m. later own sets r p (h.only p m);
      }

  pub turn_hit : {r : ℕ} {C C' : List Pair} → At r → TurnBelow At Here own sets r C → Added (own r) (sets r) C C' → TurnBelow At Here own sets (suc r) C'
  turn_hit {r} {C} {C'} a h added =
      record {
        here = λ x. added.kept unit (h.here x);
        on =
            below_next (λ j. At j → (q : Pair) → q ∈ sets j → compose (own j) q ∈ C') r
            (λ j l b q m. added.kept (compose (own j) q) (h.on j l b q m))
            (λ b q m. added.new q m);
        only = λ p m. by p (added.only p m);
      }
    where
      by : (p : Pair) → (p ∈ C) ⊎ ((q : Pair) × (q ∈ sets r) × (p ≡ compose (own r) q))
          → Candidate At Here own sets (suc r) p
      by p (inl m) = later own sets r p (h.only p m)
      by p (inr (q, m, e)) = inr (r, q, omega arith, a, m, e)

  pub turn_done : {g : ProcessGraph} {C : List Pair} → TurnBelow At Here own sets (templates g) C → TemplateTurn g At Here own sets C
  turn_done h = record { here = h.here; on = h.on; only = h.only }
