-- From the marks of the rules to the lowest event at which an execution's rule is broken.
--     met_root, met_at_root     before the rules are passed the root alone is marked
--     events_judged     else the lowest event that a rule breaks or no rule meets
-- Assumes nothing.
use mathlib.Core.Path.{◌≡◌, refl, sym, ap, subst, ◌∙◌}
use mathlib.Core.Bool.{Bool, true, false, true≢false}
use mathlib.Core.Logic.{⊎_elim}
use mathlib.Core.List.{List}
use Prim.Native.Nat.{ℕ, zero, suc, ◌<◌, ◌≤◌}
use native.Mathlib.Decide.{ℕ_discrete}
use native.Mathlib.Omega.{arith}
use lib.IntN.{ℤ, pos, ◌+ℤ◌}
use lib.Signed.{◌≤ℤ◌}
use lib.ListN.{get_or, set, replicate, length-replicate}
use lib.Seq.{get_or-set_same, get_or-set_other}
use Rattle.std.specs.Bool.{then_some}
use Rattle.std.specs.Option.{option_or}
use Rattle.std.proofs.Common.{Option, Some, None, nat_lt}
use Rattle.std.proofs.lemmas.Bool.Decides.{nat_tests}
use Rattle.verdicts.specs.Verdict.{LowestIn}
use Rattle.graphs.specs.Graph.{Graph, rules, source, target, Greatest}
use Rattle.claims.specs.Claim.{RightAt}
use Rattle.claims.specs.Parts.Verdicts.{RuleKept, RuleMeets}
use Rattle.claims.specs.Parts.Marks.{RootFree, RulesMarked}

-- ---- what is marked at first

replicate_false : (n v : ℕ) → get_or (replicate n false) v false ≡ true → ⊥
replicate_false zero v e = true≢false (sym e)
replicate_false (suc n) zero e = true≢false (sym e)
replicate_false (suc n) (suc v) e = replicate_false n v e

pub met_root : (n v : ℕ) → get_or (set (replicate n false) 0 true) v false ≡ true → v ≡ 0
met_root n v e = by (ℕ_discrete v 0)
  where
    by : Dec (v ≡ 0) → v ≡ 0
    by (yes is) = is
    by (no other) = absurd (replicate_false n v (sym (get_or-set_other (replicate n false) 0 v true false other) ∙ e))

pub met_at_root : (n : ℕ) → 0 < n → get_or (set (replicate n false) 0 true) 0 false ≡ true
met_at_root n l = get_or-set_same (replicate n false) 0 true false (rw (length-replicate n false) l)

module _ (g : Graph) (delay time : ℕ → ℤ) where
  abbrev Wrong : ℕ → Type 0
  Wrong v = RightAt g delay time v → ⊥

  module _ (root_free : RootFree g) (root : time 0 ≡ pos 0) (met₀ met : List Bool) (lowest : ℕ) (only-root : (v : ℕ) → get_or met₀ v false ≡ true → v ≡ 0) (at_root : get_or met₀ 0 false ≡ true) (m : RulesMarked g delay time met₀ (rules g) lowest met) where
    -- an event below the lowest broken one that is met is right
    right : (v : ℕ) → v < lowest → get_or met v false ≡ true → RightAt g delay time v
    right v low marked =
        record {
          from_least = λ i l to. (m.kept i l (omega arith)).from_least;
          to_most = λ i l to. (m.kept i l (omega arith)).to_most;
          root = λ z. subst (λ (u : ℕ). time u ≡ pos 0) (sym z) root;
          other = λ other. ⊎_elim (λ first. absurd (other (only-root v first))) (λ rule. greatest rule) (m.set v marked);
        }
      where
        greatest : (i : ℕ) × (i < rules g) × (target g i ≡ v) × RuleMeets g delay time i → Greatest g v (λ i. time (source g i) +ℤ delay i) (time v)
        greatest (i, l, to, meets) =
            record {
              reached = (i, l, to, meets.1 ∙ ap time to);
              bound = λ j h into. subst (λ (u : ℕ). (time (source g j) +ℤ delay j) ≤ℤ time u) into (m.kept j h (omega arith)).in_time;
            }

    -- a rule is kept where its target is right
    kept_of : (i : ℕ) → i < rules g → RightAt g delay time (target g i) → RuleKept g delay time i
    kept_of i l at =
        record {
          from_least = at.from_least i l refl;
          to_most = at.to_most i l refl;
          in_time = (at.other (root_free i l)).bound i l refl;
        }

    wrong : (v : ℕ) → v ≤ lowest → (v < lowest → get_or met v false ≡ false) → v < g.events → Wrong v
    wrong v low unmarked is_event at = by (ℕ_discrete v lowest)
      where
        by : Dec (v ≡ lowest) → ⊥
        by (yes same) =
            let (i, l, to, broken) = m.broken (omega arith) in
            broken (kept_of i l (subst (RightAt g delay time) (sym (to ∙ sym same)) at))
        by (no other) =
            let (first, none) = m.unset v (unmarked (omega arith)) in
            let no-root : v ≡ 0 → ⊥ = λ z. true≢false (sym at_root ∙ subst (λ (u : ℕ). get_or met₀ u false ≡ false) z first) in
            let (i, l, to, reached) = (at.other no-root).reached in
            none i l to (kept_of i l (subst (RightAt g delay time) (sym to) at), reached ∙ ap time (sym to))

    -- what the search of the unmet finds is the lowest broken event; where it finds none, the lowest that a rule breaks is, if there is one
    pub events_judged : (unmet : Option ℕ) (below : Bool) → below ≡ nat_lt lowest g.events → LowestIn lowest (λ v. get_or met v false ≡ true) (λ v. get_or met v false ≡ false) unmet →
        LowestIn g.events (RightAt g delay time) Wrong (option_or unmet (then_some below lowest))
    events_judged (Some v) below e h =
        record {
          below = omega (arith, h.below, m.within);
          before = λ i l. right i (omega (arith, h.below)) (h.before i l);
          bad = wrong v (omega (arith, h.below)) (λ l. h.bad) (omega (arith, h.below, m.within));
        }
    events_judged None true e h =
        let some : lowest < g.events = grind (arith, nat_tests) in
        record { below = some; before = λ i l. right i l (h i l); bad = wrong lowest (omega arith) (λ l. absurd (omega arith)) some }
    events_judged None false e h =
        let none : g.events ≤ lowest = grind (arith, nat_tests) in
        λ i l. right i (omega arith) (h i (omega arith))
