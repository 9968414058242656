-- U(t) is the greatest value, at U(root), of the pairs of the paths from the root to t. So a set that stands for these pairs gives the separation.
--     carried_bound                   no path carries U(v) above U(t)
--     carried_reached                 some path from the root carries U(root) to U(t)
--     carried                         so U(t) is the greatest
--     separation_carried              the value at m(root) of a set that covers the pairs of the root's paths to t is the separation: demand 2's maximum
-- The argument. Along a rule U(target) is at least the value of the rule's pair at U(source), and composed pairs take one value after the other; so the bound,
-- by induction along the path. It is reached by induction on the rank of t: the rule by which U arrives at t carries U(source) to U(t), and some path from the
-- root carries U(root) to U(source). Assumes nothing.
use mathlib.Core.Path.{◌≡◌, refl, sym, ap, subst, ◌∙◌}
use mathlib.Core.List.{List}
use Prim.Native.Nat.{ℕ, zero, suc, ◌<◌}
use native.Mathlib.Decide.{ℕ_discrete}
use native.Mathlib.Nat.{not-suc-le-zero, le_refl}
use native.Mathlib.Omega.{arith}
use lib.IntN.{ℤ, pos}
use Rattle.graphs.specs.Graph.{Graph, rules, source, target}
use Rattle.graphs.specs.Path.{Path, stay, step}
use Rattle.graphs.specs.Limits.{SoundGraph}
use Rattle.graphs.proofs.Paths.{along}
use Rattle.graphs.proofs.Rank.{rank_of}
use Rattle.executions.specs.Separation.{Separation}
use Rattle.executions.specs.Steps.{M, U}
use Rattle.executions.proofs.Schedules.{separation_of}
use Rattle.sets.specs.Limit.{Limit, number, ◌≤ᴸ◌, ◌+ᴸ◌}
use Rattle.sets.specs.Pair.{Pair, value, unit}
use Rattle.sets.specs.Set.{SetValue}
use Rattle.sets.specs.Family.{FamilyValue, Covers}
use Rattle.sets.proofs.Limits.{≤ᴸ-of, ≤ᴸ-trans, lesser_unlimited, +ᴸ-zero}
use Rattle.sets.proofs.Pairs.{value_compose, dominates_refl, value_more}
use Rattle.sets.proofs.Values.{cover_value, family_value_unique}
use Rattle.paths.specs.Cap.{Caps}
use Rattle.paths.specs.PathPair.{rule_pair, path_pair, PathPairs}
use Rattle.paths.proofs.Caps.{m_unique}
use Rattle.paths.proofs.PathPairs.{most_sum, path_pair_along, path_pair_number}
use Rattle.paths.proofs.Arrivals.{u_exists, u_along, u_arrives}

unit_value : (x : Limit) → value unit x ≡ x
unit_value x = lesser_unlimited (x +ᴸ number (pos 0)) ∙ +ᴸ-zero x

-- ---- U along paths

module _ {g : Graph} (sound : SoundGraph g) {s : ℕ} {cap : ℕ → Limit} (caps : Caps g s cap) {u : ℕ → ℤ} (steps : U g s u) where
  pub carried_bound : {v t : ℕ} (p : Path g v t) → value (path_pair cap p) (number (u v)) ≤ᴸ number (u t)
  carried_bound {v} stay = ≤ᴸ-of (unit_value (number (u v)))
  carried_bound {v} {t} (step {v = w} i h e f p) =
      let along-rule : value (rule_pair g cap i) (number (u v)) ≤ᴸ number (u w) =
      subst (λ (x : ℕ). value (rule_pair g cap i) (number (u x)) ≤ᴸ number (u w)) e
      (subst (λ (x : ℕ). value (rule_pair g cap i) (number (u (source g i))) ≤ᴸ number (u x)) f (u_along sound caps steps i h)) in
      ≤ᴸ-trans
      (≤ᴸ-of (value_compose (rule_pair g cap i) (path_pair cap p) (number (u v))))
      (≤ᴸ-trans (value_more (dominates_refl (path_pair cap p)) along-rule) (carried_bound p))

  abbrev Carries : ℕ → Type 0
  Carries t = (p : Path g 0 t) × (value (path_pair cap p) (number (u 0)) ≡ number (u t))

  carries_at : (t : ℕ) → t < g.events → ((i : ℕ) → i < rules g → target g i ≡ t → Carries (source g i)) → Dec (t ≡ 0) → Carries t
  carries_at t l before (yes e) = subst Carries (sym e) (stay, unit_value (number (u 0)))
  carries_at t l before (no n) =
      let (i, h, to, arrives) = u_arrives sound caps steps t l n in
      let (p, carries) = before i h to in (
        along p i h refl to,
        ap (λ (q : Pair). value q (number (u 0))) (path_pair_along cap p i h refl to)
            ∙ value_compose (path_pair cap p) (rule_pair g cap i) (number (u 0))
            ∙ ap (value (rule_pair g cap i)) carries
            ∙ arrives,
      )

  module _ (rank : ℕ → ℕ) (higher : (i : ℕ) → i < rules g → rank (source g i) < rank (target g i)) where
    carries_below : (k t : ℕ) → rank t < k → t < g.events → Carries t
    carries_below zero t r l = absurd (not-suc-le-zero r)
    carries_below (suc k) t r l =
        carries_at t l (λ i h to. carries_below k (source g i) (omega (arith, higher i h, ap rank to)) (sound.ends i h).source_known) (ℕ_discrete t 0)

  pub carried_reached : (t : ℕ) → t < g.events → (p : Path g 0 t) × (value (path_pair cap p) (number (u 0)) ≡ number (u t))
  carried_reached t l =
      let (rank, higher, below) = rank_of g sound.ends sound.acyclic in
      carries_below rank higher (suc (rank t)) t (le_refl (suc (rank t))) l

  pub carried : (t : ℕ) → t < g.events → FamilyValue (PathPairs g cap t 0) (u 0) (u t)
  carried t l =
      record {
        reached =
            let (p, e) = carried_reached t l in
            let same = path_pair_number cap p in
            (most_sum p, (path_pair cap p).w, (p, same), ap (λ (q : Pair). value q (number (u 0))) (sym same) ∙ e);
        bound = λ a w is.
            let (p, same) = is in
            subst (λ (q : Pair). value q (number (u 0)) ≤ᴸ number (u t)) same (carried_bound p);
      }

-- ---- the separation

pub separation_carried : {g : Graph} (sound : SoundGraph g) {s t : ℕ} → s < g.events → t < g.events → {cap : ℕ → Limit} → Caps g s cap
    → {T : List Pair} → Covers T (PathPairs g cap t 0) → {m x : ℤ} → M g s 0 m → SetValue T m x → Separation g s t x
separation_carried {g} sound {s} {t} hs ht {cap} caps {T} covers {m} {x} is_m v =
    let (u, steps) = u_exists sound hs in
    let same_m : u 0 ≡ m = m_unique steps.root is_m in
    let here : FamilyValue (PathPairs g cap t 0) m (u t) = subst (λ (y : ℤ). FamilyValue (PathPairs g cap t 0) y (u t)) same_m (carried sound caps steps t ht) in
    subst (Separation g s t) (family_value_unique here (cover_value covers v)) (separation_of sound hs steps t ht)
