-- One event's turn: from sets that stand for the paths of the targets of its rules to one that stands for its own paths.
--     turn_covers               where the sets cover the pairs of the targets' paths, C covers those of v's paths
--     no_path_closes            where no path leads from v to t, the empty set closes the pairs of v's paths
-- The argument: a path from v to t is empty, or a rule out of v and a path from its target. Assumes nothing.
use mathlib.Core.Path.{◌≡◌, refl, sym, ap, subst}
use mathlib.Core.Logic.{inl, inr}
use mathlib.Core.List.Memᴰ
use mathlib.Core.List.{List, []}
use Prim.Native.Nat.{ℕ, ◌<◌}
use lib.IntN.{ℤ, pos, ◌+ℤ◌}
use lib.Signed.{◌≤ℤ◌}
use Rattle.integers.proofs.Integer.{linear, sum}
use Rattle.graphs.specs.Graph.{Graph, rules, source, target, most}
use Rattle.graphs.specs.Path.{Path, stay, step}
use Rattle.sets.specs.Limit.{Limit, number, unlimited, ◌≤ᴸ◌, numbers, ◌+ᴸ◌, lesser}
use Rattle.sets.specs.Pair.{Pair, pair, compose, unit}
use Rattle.sets.specs.Set.{◌∈◌, none, Dominated}
use Rattle.sets.specs.Family.{Covers, Closes}
use Rattle.sets.proofs.Limits.{≤ᴸ-refl, ≤ᴸ-of, ≤ᴸ-trans, number_≤, +ᴸ-more, lesser_more}
use Rattle.sets.proofs.Pairs.{dominates_refl, compose_more}
use Rattle.paths.specs.PathPair.{rule_pair, path_pair, PathPairs}
use Rattle.paths.specs.Parts.Turn.{Candidate, Turn}
use Rattle.paths.proofs.PathPairs.{most_sum, path_pair_number, FirstPair, no_rule, one_rule, first_pair}

-- how near the family comes to a pair r
abbrev Near : (g : Graph) (cap : ℕ → Limit) (t v : ℕ) → Pair → ℤ → Type 0
Near g cap t v r N = (l : ℤ) × (w : Limit) × PathPairs g cap t v l w × (N ≤ℤ l) × (r.w ≤ᴸ w)

module _ {g : Graph} {cap : ℕ → Limit} {t v : ℕ} where
  module _ (sets : ℕ → List Pair)
      (targets : (i : ℕ) → i < rules g → source g i ≡ v → Covers (sets i) (PathPairs g cap t (target g i)))
      (numbered : (i : ℕ) → i < rules g → source g i ≡ v → (q : Pair) → q ∈ sets i → (a : ℤ) × (q.l ≡ number a)) where
    pub turn_covers : {C : List Pair} → Turn g cap t v sets C → Covers C (PathPairs g cap t v)
    turn_covers {C} turn = record { bound = λ l w is. bounded is.0 is.1; approached = approaching }
      where
        over : {q : Pair} → FirstPair g cap t v q → Dominated C q
        over (no_rule same e) = record { by = unit; among = turn.here same; dominates = rw e (dominates_refl unit) }
        over (one_rule i h out p e) =
            let d : Dominated (sets i) (path_pair cap p) =
            rw (path_pair_number cap p) ((targets i h out).bound (most_sum p) (path_pair cap p).w (p, path_pair_number cap p)) in
            record {
              by = compose (rule_pair g cap i) d.by;
              among = turn.on i h out d.by d.among;
              dominates = rw e (compose_more (dominates_refl (rule_pair g cap i)) d.dominates);
            }

        bounded : {l : ℤ} {w : Limit} (p : Path g v t) → path_pair cap p ≡ pair (number l) w → Dominated C (pair (number l) w)
        bounded p e = subst (Dominated C) e (over (first_pair cap p))

        approaching : (r : Pair) → r ∈ C → (N : ℤ) → number N ≤ᴸ r.l → Near g cap t v r N
        approaching r m N k = by (turn.only r m)
          where
            by : Candidate g cap t v sets (rules g) r → Near g cap t v r N
            by (inl (same, e)) =
                let (p, f) = subst (λ (x : ℕ). (p : Path g v x) × (path_pair cap p ≡ unit)) same (stay, refl) in
                (pos 0, unlimited, (p, f), number_≤ (rw e at k), rw e (≤ᴸ-refl unlimited))
            by (inr (i, q, h, out, n, e)) =
                let (a, f) = numbered i h out q n in
                let (l, w, (p, same), far, high) = (targets i h out).approached q n a (≤ᴸ-of (sym f)) in
                let low : N ≤ℤ (most g i +ℤ a) = number_≤ (rw (e, f) at k) in (
                  most g i +ℤ l,
                  lesser (cap (target g i) +ᴸ number l) w,
                  (step i h out refl p, ap (compose (rule_pair g cap i)) same),
                  omega (linear, sum (most g i) a, sum (most g i) l),
                  rw e (lesser_more (+ᴸ-more (≤ᴸ-refl (cap (target g i))) (≤ᴸ-trans (≤ᴸ-of f) (numbers a l far))) high),
                )

module _ {g : Graph} (cap : ℕ → Limit) {t v : ℕ} where
  pub no_path_closes : (Path g v t → ⊥) → Closes [] (PathPairs g cap t v)
  no_path_closes never =
      record { ordered = none; covers = record { bound = λ l w is. absurd (never is.0); approached = λ p m. absurd (Memᴰ.not-nil m) } }
