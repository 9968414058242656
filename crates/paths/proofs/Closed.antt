-- Every event has its fully pruned set: there are finitely many paths.
--     candidates           the candidates of an event's turn as a list
--     candidates_turn      they are those that a turn asks
--     turn_numbered        a turn keeps numbers as l
--     sets_exist           a sound graph has such sets
-- As caps are found: those of the events with a rank of at least n − k, for k = 0, 1, and so on. Assumes nothing.
use mathlib.Core.Path.{◌≡◌, refl, sym, ap, ◌∙◌}
use mathlib.Core.Logic.{◌⊎◌, inl, inr}
use mathlib.Core.List.Memᴰ
use mathlib.Core.List.Memᴰ.{head as here}
use mathlib.Core.List.{
  List,
  [],
  ◌∷◌,
  ◌++◌,
  map,
}
use Prim.Native.Nat.{ℕ, zero, suc, ◌+◌, ◌<◌, ◌≤◌}
use native.Mathlib.Decide.{ℕ_discrete, dec_lt}
use native.Mathlib.Omega.{arith}
use lib.IntN.{ℤ, pos, ◌+ℤ◌}
use Rattle.graphs.specs.Graph.{Graph, rules, source, target, most}
use Rattle.graphs.specs.Limits.{SoundGraph}
use Rattle.graphs.proofs.Rank.{rank_of}
use Rattle.sequences.proofs.Below.{below_next}
use Rattle.sets.specs.Limit.{Limit, number, ◌+ᴸ◌}
use Rattle.sets.specs.Pair.{Pair, compose, unit}
use Rattle.sets.specs.Set.{◌∈◌, Prunes}
use Rattle.sets.proofs.Covers.{prunes_closes}
use Rattle.sets.proofs.Insertion.{prune}
use Rattle.paths.specs.PathPair.{rule_pair}
use Rattle.paths.specs.Parts.Turn.{Candidate, Turn}
use Rattle.paths.specs.Parts.Solved.{Numbered, Full, Fully}
use Rattle.paths.proofs.Turn.{turn_covers}

-- ---- the candidates of a turn

module _ (g : Graph) (cap : ℕ → Limit) (t v : ℕ) (sets : ℕ → List Pair) where
  of_rule : (i : ℕ) → Dec (source g i ≡ v) → List Pair
  of_rule i (yes e) = map (compose (rule_pair g cap i)) (sets i)
  of_rule i (no n) = []

  of_target : Dec (v ≡ t) → List Pair
  of_target (yes e) = unit ∷ []
  of_target (no n) = []

  candidates : ℕ → List Pair
  candidates zero = of_target (ℕ_discrete v t)
  candidates (suc r) = of_rule r (ℕ_discrete (source g r) v) ++ candidates r

  of_rule_lem : (i : ℕ) (d : Dec (source g i ≡ v)) → source g i ≡ v → (q : Pair) → q ∈ sets i → compose (rule_pair g cap i) q ∈ of_rule i d
  unfolding of_rule
  of_rule_lem i (yes e) out q m = Memᴰ.map (compose (rule_pair g cap i)) m
  of_rule_lem i (no n) out q m = absurd (n out)

  of_rule_only : (i : ℕ) (d : Dec (source g i ≡ v)) (q : Pair) → q ∈ of_rule i d
      → (source g i ≡ v) × ((p : Pair) × (p ∈ sets i) × (q ≡ compose (rule_pair g cap i) p))
  unfolding of_rule
  of_rule_only i (yes e) q m =
      let (p, n, same) = Memᴰ.of_map (compose (rule_pair g cap i)) (sets i) m in
      (e, (p, n, sym same))
  of_rule_only i (no n) q m = absurd (Memᴰ.not-nil m)

  of_target_lem : (d : Dec (v ≡ t)) → v ≡ t → unit ∈ of_target d
  unfolding of_target
  of_target_lem (yes e) same = here refl
  of_target_lem (no n) same = absurd (n same)

  of_target_only : (d : Dec (v ≡ t)) (q : Pair) → q ∈ of_target d → (v ≡ t) × (q ≡ unit)
  unfolding of_target
  of_target_only (yes e) q m = (e, Memᴰ.eq_of_singleton m)
  of_target_only (no n) q m = absurd (Memᴰ.not-nil m)

  candidates_here : (r : ℕ) → v ≡ t → unit ∈ candidates r
  unfolding candidates
  candidates_here zero same = of_target_lem (ℕ_discrete v t) same
  candidates_here (suc r) same = Memᴰ.append_right (of_rule r (ℕ_discrete (source g r) v)) (candidates_here r same)

  candidates_on : (r i : ℕ) → i < r → source g i ≡ v → (q : Pair) → q ∈ sets i → compose (rule_pair g cap i) q ∈ candidates r
  unfolding candidates
  candidates_on zero = λ i l. absurd (let no : ⊥ = omega arith in no)
  candidates_on (suc r) =
      below_next (λ i. source g i ≡ v → (q : Pair) → q ∈ sets i → compose (rule_pair g cap i) q ∈ (of_rule r (ℕ_discrete (source g r) v) ++ candidates r)) r
      (λ i l out q m. Memᴰ.append_right (of_rule r (ℕ_discrete (source g r) v)) (candidates_on r i l out q m))
      (λ out q m. Memᴰ.append_left (candidates r) (of_rule_lem r (ℕ_discrete (source g r) v) out q m))

  candidates_only : (r : ℕ) (q : Pair) → q ∈ candidates r → Candidate g cap t v sets r q
  unfolding candidates
  candidates_only zero q m = inl (of_target_only (ℕ_discrete v t) q m)
  candidates_only (suc r) q m = by (Memᴰ.append_cases (of_rule r (ℕ_discrete (source g r) v)) m) (λ k. candidates_only r q k)
    where
      later : Candidate g cap t v sets r q → Candidate g cap t v sets (suc r) q
      later (inl h) = inl h
      later (inr (i, p, l, out, n, e)) = inr (i, p, omega arith, out, n, e)

      by : (q ∈ of_rule r (ℕ_discrete (source g r) v)) ⊎ (q ∈ candidates r) → (q ∈ candidates r → Candidate g cap t v sets r q)
          → Candidate g cap t v sets (suc r) q
      by (inl k) on =
          let (out, (p, n, e)) = of_rule_only r (ℕ_discrete (source g r) v) q k in
          inr (r, p, omega arith, out, n, e)
      by (inr k) on = later (on k)

  candidates_turn : Turn g cap t v sets (candidates (rules g))
  candidates_turn =
      record {
        here = candidates_here (rules g);
        on = λ i l out q m. candidates_on (rules g) i l out q m;
        only = candidates_only (rules g);
      }

-- ---- a turn keeps numbers

pub turn_numbered : {g : Graph} {cap : ℕ → Limit} {t v : ℕ} (sets : ℕ → List Pair)
    → ((i : ℕ) → i < rules g → source g i ≡ v → Numbered (sets i)) → {C : List Pair} → Turn g cap t v sets C → Numbered C
turn_numbered {g} {cap} {t} {v} sets numbered turn = record { number_of = λ r m. by r (turn.only r m) }
  where
    by : (r : Pair) → Candidate g cap t v sets (rules g) r → (a : ℤ) × (r.l ≡ number a)
    by r (inl (same, e)) = (pos 0, ap (λ (x : Pair). x.l) e)
    by r (inr (i, q, h, out, n, e)) =
        let (a, f) = (numbered i h out).number_of q n in
        (most g i +ℤ a, ap (λ (x : Pair). x.l) e ∙ ap (λ (x : Limit). number (most g i) +ᴸ x) f)

-- ---- all sets

module _ {g : Graph} (sound : SoundGraph g) (cap : ℕ → Limit) (t : ℕ) where
  next_set : (sets : ℕ → List Pair) (v : ℕ) → ((i : ℕ) → i < rules g → source g i ≡ v → Full g cap t (target g i) (sets (target g i)))
      → {T : List Pair} → Prunes (candidates g cap t v (λ i. sets (target g i)) (rules g)) T → Full g cap t v T
  next_set sets v targets pruned =
      let turn = candidates_turn g cap t v (λ i. sets (target g i)) in
      let numbers = turn_numbered (λ i. sets (target g i)) (λ i h out. (targets i h out).numbered) turn in
      record {
        closes =
            prunes_closes
            (turn_covers (λ i. sets (target g i)) (λ i h out. (targets i h out).closes.covers) (λ i h out. (targets i h out).numbered.number_of) turn)
            pruned;
        numbered = record { number_of = λ q m. numbers.number_of q (pruned.from q m) };
      }

  set_from : ℕ → ℕ → List Pair
  set_from zero v = []
  set_from (suc k) v = (prune (candidates g cap t v (λ i. set_from k (target g i)) (rules g))).0

  set_from_lem : (k v : ℕ) → ((i : ℕ) → i < rules g → source g i ≡ v → Full g cap t (target g i) (set_from k (target g i))) → Full g cap t v (set_from (suc k) v)
  unfolding set_from
  set_from_lem k v targets = next_set (set_from k) v targets (prune (candidates g cap t v (λ i. set_from k (target g i)) (rules g))).1

  module _ (rank : ℕ → ℕ) (higher : (i : ℕ) → i < rules g → rank (source g i) < rank (target g i))
      (below : (v : ℕ) → v < g.events → rank v < g.events) where
    full_from : (k v : ℕ) → v < g.events → g.events ≤ rank v + k → Full g cap t v (set_from k v)
    full_from zero v l high = absurd (let no : ⊥ = omega (arith, below v l) in no)
    full_from (suc k) v l high =
        set_from_lem k v (λ i h out. full_from k (target g i) (sound.ends i h).target_known (omega (arith, higher i h, ap rank out)))

    full_at : (v : ℕ) → Dec (v < g.events) → Full g cap t v (set_from (suc g.events) v)
    full_at v (yes l) = full_from (suc g.events) v l (omega arith)
    full_at v (no n) =
        set_from_lem g.events v (λ i h out. absurd (let known = (sound.ends i h).source_known in let no : ⊥ = omega (arith, known, out) in no))

  pub sets_exist : (full : ℕ → List Pair) × Fully g cap t full
  sets_exist =
      let (rank, higher, below) = rank_of g sound.ends sound.acyclic in
      (set_from (suc g.events), record { each = λ v. full_at rank higher below v (dec_lt v g.events) })
