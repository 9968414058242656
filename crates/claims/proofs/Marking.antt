-- The pass over the rules, rule by rule.
--     marked_met, marked_early, marked_broken     one rule more, which meets its target exactly, is early, or breaks its target
--     marked_done     after the last rule
-- Assumes nothing.
use mathlib.Core.Path.{◌≡◌, refl, sym, subst, ◌∙◌}
use mathlib.Core.Bool.{Bool, true, false, true≢false}
use mathlib.Core.Logic.{◌⊎◌, inl, inr, ⊎_elim}
use mathlib.Core.List.{List}
use Prim.Native.Nat.{ℕ, ◌+◌, ◌<◌, ◌≤◌, min}
use native.Mathlib.Decide.{ℕ_discrete}
use native.Mathlib.Omega.{arith}
use lib.IntN.{ℤ}
use lib.ListN.{length, get_or, set, length-set}
use lib.Seq.{get_or-set_same, get_or-set_other}
use borrow.Author.Count.{below_more}
use Rattle.graphs.specs.Graph.{Graph, target}
use Rattle.claims.specs.declared.rules.RuleVerdict.{RuleVerdict}
use Rattle.claims.specs.declared.rules.RuleVerdict.TheVariants.{Meets, Early, Broken}
use Rattle.claims.specs.Parts.Verdicts.{RuleKept, RuleMeets, RuleVerdictAt}
use Rattle.claims.specs.Parts.Marks.{RulesMarked}

module _ (g : Graph) (delay time : ℕ → ℤ) (met₀ : List Bool) where
  module _ (k lowest : ℕ) (met : List Bool) (m : RulesMarked g delay time met₀ k lowest met) where
    -- what one rule more changes in the lowest broken event
    record Lowered (low : ℕ) : Type 0 where
      within : low ≤ g.events
      kept : (i : ℕ) → i < k + 1 → target g i < low → RuleKept g delay time i
      broken : low < g.events → (i : ℕ) × (i < k + 1) × (target g i ≡ low) × (RuleKept g delay time i → ⊥)

    lowered_kept : RuleKept g delay time k → Lowered lowest
    lowered_kept here =
        record {
          within = m.within;
          kept = below_more (λ i. target g i < lowest → RuleKept g delay time i) k m.kept (λ b. here);
          broken =
              λ l.
              let (i, before, to, broken) = m.broken l in
              (i, omega arith, to, broken);
        }

    lowered_broken : (low e : ℕ) → low ≡ min lowest e → e ≡ target g k → (RuleKept g delay time k → ⊥) → Lowered low
    lowered_broken low e is to no_rule =
        record {
          within = omega (arith, m.within);
          kept =
              below_more (λ i. target g i < low → RuleKept g delay time i) k (λ i l b. m.kept i l (omega arith))
              (λ b. absurd (let no : ⊥ = omega arith in no));
          broken = λ l. by (ℕ_discrete low e) l;
        }
      where
        by : Dec (low ≡ e) → low < g.events → (i : ℕ) × (i < k + 1) × (target g i ≡ low) × (RuleKept g delay time i → ⊥)
        by (yes same) l = (k, omega arith, omega arith, no_rule)
        by (no other) l =
            let same : low ≡ lowest = omega arith in
            let (i, before, into, broken) = m.broken (omega arith) in
            (i, omega arith, into ∙ sym same, broken)

    marked_with : {low : ℕ} → Lowered low → (met' : List Bool) → length met' ≡ length met →
        ((v : ℕ) → get_or met' v false ≡ true → (get_or met v false ≡ true) ⊎ ((target g k ≡ v) × RuleMeets g delay time k)) →
        ((v : ℕ) → get_or met' v false ≡ false → (get_or met v false ≡ false) × (target g k ≡ v → RuleMeets g delay time k → ⊥)) →
        RulesMarked g delay time met₀ (k + 1) low met'
    marked_with low met' as_long told-true told-false =
        record {
          same_length = as_long ∙ m.same_length;
          within = low.within;
          kept = low.kept;
          broken = low.broken;
          set = λ v e. ⊎_elim (λ old. earlier v (m.set v old)) (λ here. inr (k, omega arith, here.0, here.1)) (told-true v e);
          unset =
              λ v e.
              let (old, here) = told-false v e in
              ((m.unset v old).0, below_more (λ i. target g i ≡ v → RuleMeets g delay time i → ⊥) k (m.unset v old).1 here);
        }
      where
        earlier : (v : ℕ) → (get_or met₀ v false ≡ true) ⊎ ((i : ℕ) × (i < k) × (target g i ≡ v) × RuleMeets g delay time i) →
            (get_or met₀ v false ≡ true) ⊎ ((i : ℕ) × (i < k + 1) × (target g i ≡ v) × RuleMeets g delay time i)
        earlier v (inl e) = inl e
        earlier v (inr (i, l, to, meets)) = inr (i, omega arith, to, meets)

    pub marked_met : RuleVerdictAt g delay time k Meets → target g k < length met → (met' : List Bool) → met' ≡ set met (target g k) true → RulesMarked g delay time met₀ (k + 1) lowest met'
    marked_met v room met' is_set =
        rw is_set
        (marked_with (lowered_kept v.0) (set met (target g k) true) (length-set met (target g k) true)
        (λ u is. by_true u (ℕ_discrete u (target g k)) is)
        (λ u is. by_false u (ℕ_discrete u (target g k)) is))
      where
        by_true : (u : ℕ) → Dec (u ≡ target g k) → get_or (set met (target g k) true) u false ≡ true → (get_or met u false ≡ true) ⊎ ((target g k ≡ u) × RuleMeets g delay time k)
        by_true u (yes same) is = inr (sym same, v)
        by_true u (no other) is = inl (sym (get_or-set_other met (target g k) u true false other) ∙ is)

        by_false : (u : ℕ) → Dec (u ≡ target g k) → get_or (set met (target g k) true) u false ≡ false → (get_or met u false ≡ false) × (target g k ≡ u → RuleMeets g delay time k → ⊥)
        by_false u (yes same) is =
            absurd (true≢false (sym (get_or-set_same met (target g k) true false room) ∙ subst (λ (w : ℕ). get_or (set met (target g k) true) w false ≡ false) same is))
        by_false u (no other) is = (sym (get_or-set_other met (target g k) u true false other) ∙ is, λ to meets. other (sym to))

    marked_same : {low : ℕ} → Lowered low → (RuleMeets g delay time k → ⊥) → RulesMarked g delay time met₀ (k + 1) low met
    marked_same low unmet = marked_with low met refl (λ u is. inl is) (λ u is. (is, λ to meets. unmet meets))

    -- a verdict that is neither of the others is early
    pub marked_early : (r : RuleVerdict) → RuleVerdictAt g delay time k r → (r ≡ Meets → ⊥) → ((e : ℕ) → r ≡ Broken e → ⊥) → RulesMarked g delay time met₀ (k + 1) lowest met
    marked_early Meets v not_met not_broken = absurd (not_met refl)
    marked_early Early v not_met not_broken = marked_same (lowered_kept v.0) (λ meets. v.1 meets.1)
    marked_early (Broken e) v not_met not_broken = absurd (not_broken e refl)

    pub marked_broken : (e low : ℕ) → RuleVerdictAt g delay time k (Broken e) → low ≡ min lowest e → RulesMarked g delay time met₀ (k + 1) low met
    marked_broken e low v is = marked_same (lowered_broken low e is v.0 v.1) (λ meets. v.1 meets.0)

    pub marked_done : (r : ℕ) → k ≡ r → RulesMarked g delay time met₀ r lowest met
    marked_done r e = subst (λ (j : ℕ). RulesMarked g delay time met₀ j lowest met) e m
