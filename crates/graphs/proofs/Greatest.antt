-- The greatest value over the rules into an event, and the events that have such rules.
--     greatest_exists      where a rule leads to v, there is a greatest value over the rules into v
--     greatest_le          it grows with the values
--     greatest_unique      it is determined by the values
--     greatest_same        so it stays where they do
--     incoming             every event but the root has a rule that leads to it
--     root_has_no_rule     no rule leads to the root
-- Assumes nothing.
use mathlib.Core.Path.{◌≡◌, refl, sym, ◌∙◌}
use mathlib.Core.Bool.{Bool, true, false}
use Prim.Native.Nat.{ℕ, zero, suc, ◌<◌}
use native.Mathlib.Decide.{ℕ_discrete}
use native.Mathlib.Omega.{arith}
use lib.IntN.{ℤ}
use lib.Signed.{◌≤ℤ◌, le_z}
use Rattle.integers.proofs.Integer.{linear}
use Rattle.graphs.specs.Graph.{Graph, rules, source, target, Greatest}
use Rattle.graphs.specs.Path.{Path}
use Rattle.graphs.specs.Limits.{SoundGraph}
use Rattle.sequences.proofs.Below.{below_next}
use Rattle.graphs.proofs.Paths.{along, steps_along, LastRule, no_last, last, last_rule}

-- ---- the greatest value is there

-- the rules below r that lead to v: there is none, or one of them has the greatest value
data Best (g : Graph) (v : ℕ) (f : ℕ → ℤ) (r : ℕ) : Type 0 where
  none : ((i : ℕ) → i < r → target g i ≡ v → ⊥) → Best g v f r
  best : (i : ℕ) → i < r → target g i ≡ v → ((j : ℕ) → j < r → target g j ≡ v → f j ≤ℤ f i) → Best g v f r

module _ (g : Graph) (v : ℕ) (f : ℕ → ℤ) where
  one_more : (r : ℕ) → Best g v f r → Dec (target g r ≡ v) → Best g v f (suc r)
  one_more r (none no_rule) (no other) = none (below_next (λ i. target g i ≡ v → ⊥) r no_rule other)
  one_more r (none no_rule) (yes to) =
      best r (omega arith) to (below_next (λ j. target g j ≡ v → f j ≤ℤ f r) r (λ j l e. absurd (no_rule j l e)) (λ e. omega linear))
  one_more r (best i l to bound) (no other) =
      best i (omega arith) to (below_next (λ j. target g j ≡ v → f j ≤ℤ f i) r bound (λ e. absurd (other e)))
  one_more r (best i l to bound) (yes new) = by (le_z (f r) (f i)) refl
    where
      by : (b : Bool) → le_z (f r) (f i) ≡ b → Best g v f (suc r)
      by true t = best i (omega arith) to (below_next (λ j. target g j ≡ v → f j ≤ℤ f i) r bound (λ e. omega linear))
      by false t =
          best r (omega arith) new (below_next (λ j. target g j ≡ v → f j ≤ℤ f r) r (λ j k e. omega (linear, bound j k e)) (λ e. omega linear))

  best_below : (r : ℕ) → Best g v f r
  best_below zero = none (λ i l e. omega arith)
  best_below (suc r) = one_more r (best_below r) (ℕ_discrete (target g r) v)

  pub greatest_exists : (i : ℕ) → i < rules g → target g i ≡ v → (x : ℤ) × Greatest g v f x
  greatest_exists i l to = by (best_below (rules g))
    where
      by : Best g v f (rules g) → (x : ℤ) × Greatest g v f x
      by (none no_rule) = absurd (no_rule i l to)
      by (best j k e bound) = (f j, record { reached = (j, k, e, refl); bound = bound })

-- ---- and there is one only

pub greatest_le :
    {g : Graph} {v : ℕ} {f h : ℕ → ℤ} {x y : ℤ} → Greatest g v f x → Greatest g v h y
    → ((i : ℕ) → i < rules g → target g i ≡ v → f i ≤ℤ h i) → x ≤ℤ y
greatest_le a b le =
    let (i, l, to, same) = a.reached in
    omega (linear, le i l to, b.bound i l to)

pub greatest_unique :
    {g : Graph} {v : ℕ} {f h : ℕ → ℤ} {x y : ℤ} → Greatest g v f x → Greatest g v h y
    → ((i : ℕ) → i < rules g → target g i ≡ v → f i ≡ h i) → x ≡ y
greatest_unique a b same =
    omega (linear, greatest_le a b (λ i l to. omega (linear, same i l to)), greatest_le b a (λ i l to. omega (linear, same i l to)))

pub greatest_same : {g : Graph} {v : ℕ} {f h : ℕ → ℤ} {x : ℤ} → Greatest g v f x → ((i : ℕ) → i < rules g → target g i ≡ v → f i ≡ h i) → Greatest g v h x
greatest_same a same =
    let (i, l, to, e) = a.reached in
    record { reached = (i, l, to, sym (same i l to) ∙ e); bound = λ j k leads. omega (linear, same j k leads, a.bound j k leads) }

-- ---- rules into an event

pub incoming : {g : Graph} {v : ℕ} → SoundGraph g → v < g.events → (v ≡ 0 → ⊥) → (i : ℕ) × (i < rules g) × (target g i ≡ v)
incoming {g} {v} graph l other = by (last_rule (graph.reachable v l))
  where
    by : {p : Path g 0 v} → LastRule g 0 v p → (i : ℕ) × (i < rules g) × (target g i ≡ v)
    by (no_last same no_rule zero-sum) = absurd (other (sym same))
    by (last i h to q one_more its-sum) = (i, h, to)

-- a rule to the root closes the path from the root to its source
pub root_has_no_rule : {g : Graph} → SoundGraph g → (i : ℕ) → i < rules g → target g i ≡ 0 → ⊥
root_has_no_rule {g} graph i l to =
    let p : Path g 0 (source g i) = graph.reachable (source g i) (graph.ends i l).source_known in
    graph.acyclic (0, (along p i l refl to, omega (arith, steps_along p i l refl to)))
