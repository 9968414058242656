-- The unfolded graph has a cycle exactly where the process graph has a cycle of mark-0 templates; and so the analysis's refusal 5. Document 01, section
-- "Process graphs and their unfolding": "A cycle of mark-0 templates isn't refused here; the analysis refuses the result with 5."
--     way_unfolds         at each k below K, a way along mark-0 templates is a path of as many rules
--     cycle_unfolds       so a cycle of mark-0 templates is a cycle of the unfolded graph
--     Folded g k l u v n  what a path of n rules from occurrence k of u to occurrence l of v says of the process graph
--     path_folds          it says so of each such path
--     ends_at_occurrence  a path on which a rule stands ends at an occurrence
--     cycle_folds         so a cycle of the unfolded graph is a cycle of mark-0 templates
--     cycles_agree        both at once
--     refused_5_exactly   the analysis refuses an unfolding with 5 exactly where there is a cycle of mark-0 templates
--     coarse_5_exactly    the same of its coarse form
--     handed_5_exactly    the same of the lists that an accepted unfolding leaves, and of each answer that the analysis may give
-- The idea of the way back. Along a rule of the unfolding k never falls: a template with mark 0 stays at its k, one with mark 1 comes from k − 1. On a cycle
-- k is at the end what it was at the beginning, so every rule on it is of mark 0, and the templates of these rules are the cycle. A start rule stands on
-- no cycle: it leaves the root, into which no rule leads. That the templates' events exist is needed: with p = 1, occurrence 0 of an event 1 would have the
-- number 2 of occurrence 1 of event 0, and a template of mark 1 from event 1 to event 0 would give, at k = 1, a rule from 2 to 2.
-- Assumes nothing.
use mathlib.Core.Path.{◌≡◌, refl, sym, ap, subst, ◌∙◌}
use mathlib.Core.Logic.{◌↔◌}
use mathlib.Core.List.{List, [], ◌∷◌}
use Prim.Native.Nat.{ℕ, suc, ◌+◌, ◌*◌, ◌<◌, ◌≤◌}
use native.Mathlib.Omega.{arith}
use lib.IntN.{ℤ}
use lib.ListN.{take}
use Rattle.graphs.specs.Graph.{Graph, graph_of, rules}
use Rattle.graphs.specs.Path.{Path, stay, step, steps, HasCycle}
use Rattle.graphs.proofs.Refusals.{cycle_exactly}
use Rattle.verdicts.specs.Verdict.{check}
use Rattle.verdicts.proofs.Verdicts.{rest_of}
use Rattle.refusals.specs.Faults.{EndsKnown}
use Rattle.separation.specs.declared.Answer.{Answer}
use Rattle.separation.specs.Promise as analysis
use Rattle.rounding.specs.Promise.{StepOutside}
use Rattle.separation.specs.Coarse.{CoarseVerdict}
use Rattle.rounding.proofs.Promises.{step_kept}
use Rattle.processes.specs.declared.Event.{Event}
use Rattle.processes.specs.declared.Unfolded.{Unfolded}
use Rattle.processes.specs.Process.{ProcessGraph, templates, source, target, occurrence, Node, number, Instance, together, onward, start}
use Rattle.processes.specs.Ways.{MarkZeroWay, empty, along, templates_on, MarkZeroCycle}
use Rattle.processes.specs.Unfolding.{Unfolds, UnfoldingAnswered, UnfoldingWritten}
use Rattle.processes.proofs.Numbers.{place_below}
use Rattle.processes.proofs.Occurrences.{event_same, numbers_apart, never_root}
use Rattle.processes.proofs.Exactly.{instance_unique, place_of, rule_at_place, rule_enters}
use Rattle.processes.proofs.Refusals.{Kept}
use Rattle.processes.proofs.Handed.{unfolded_sized, past_question, handed}

-- ---- from the process graph to its unfolding

module _ {g : ProcessGraph} {K : ℕ} {graph : Graph} (unfolds : Unfolds g K graph) where
  -- each template of the way by its instance at k
  pub way_unfolds : (k : ℕ) → k < K → {u v : Event} (w : MarkZeroWay g u v)
      → (p : Path graph (occurrence g k u).0 (occurrence g k v).0) × (steps p ≡ templates_on w)
  way_unfolds k below empty = (stay, refl)
  way_unfolds k below (along j l m from to w) =
      let r = unfolds.each k j below l in
      let same = instance_unique r.instance (together m) in
      let is_rule : k * templates g + j < rules graph = omega (arith, place_below (templates g) K k j below l, unfolds.sources_count) in
      let leaves = r.from_number ∙ (ap number same.from ∙ ap (λ (x : Event). (occurrence g k x).0) from) in
      let enters = r.to_number ∙ (ap number same.to ∙ ap (λ (x : Event). (occurrence g k x).0) to) in
      let (p, as_many) = way_unfolds k below w in
      (step (k * templates g + j) is_rule leaves enters p, ap suc as_many)

  pub cycle_unfolds : 0 < K → MarkZeroCycle g → HasCycle graph
  cycle_unfolds some_copy (v, (w, some)) =
      let (p, as_many) = way_unfolds 0 some_copy w in
      ((occurrence g 0 v).0, (p, omega (arith, as_many)))

-- ---- and back

pub record Folded (g : ProcessGraph) (k l : ℕ) (u v : Event) (n : ℕ) : Type 0 where
  pub no_lower : k ≤ l
  pub way : k ≡ l → (w : MarkZeroWay g u v) × (templates_on w ≡ n)

module _ {g : ProcessGraph} where
  empty_folds : (k l : ℕ) (u v : Event) → u.0 < g.events → v.0 < g.events → (occurrence g k u).0 ≡ (occurrence g l v).0 → Folded g k l u v 0
  empty_folds k l u v hu hv e =
      let (same, same_event) = numbers_apart g k l u v hu hv e in
      record {
        no_lower = omega arith;
        way = λ _. subst (λ (x : Event). (w : MarkZeroWay g u x) × (templates_on w ≡ 0)) (event_same u v same_event) (empty, refl);
      }

  -- one more rule in front of a path, by its template's mark
  first_folds : {k l k' j n : ℕ} {u v : Event} {a b : Node} {d D : ℤ}
      → u.0 < g.events → j < templates g → (source g j).0 < g.events → (occurrence g k u).0 ≡ number a
      → Instance g k' j a b d D → Folded g k' l (target g j) v n → Folded g k l u v (suc n)
  first_folds {k} {l} {k'} {j} {n} {u} {v} hu is_template known leaves (together m) rest =
      let (same, same_event) = numbers_apart g k k' u (source g j) hu known leaves in
      record {
        no_lower = omega (arith, rest.no_lower);
        way = λ level.
            let (w, as_many) = rest.way (omega arith) in
            (along j is_template m (event_same (source g j) u (sym same_event)) refl w, ap suc as_many);
      }
  first_folds {k} {l} {k'} {j} {n} {u} {v} hu is_template known leaves (onward b m e) rest =
      let (same, same_event) = numbers_apart g k b u (source g j) hu known leaves in
      record { no_lower = omega (arith, rest.no_lower); way = λ level. absurd (let no : ⊥ = omega (arith, rest.no_lower) in no) }
  first_folds {k} {u = u} hu is_template known leaves (start m e) rest = absurd (never_root g k u leaves)

module _ {g : ProcessGraph} {K : ℕ} {graph : Graph} (unfolds : Unfolds g K graph)
    (known : (j : ℕ) → j < templates g → EndsKnown g.events g.sources g.targets j) where
  pub path_folds : {x y : ℕ} (p : Path graph x y) (k l : ℕ) (u v : Event) → u.0 < g.events → v.0 < g.events
      → x ≡ (occurrence g k u).0 → y ≡ (occurrence g l v).0 → Folded g k l u v (steps p)
  path_folds stay k l u v hu hv ex ey = empty_folds k l u v hu hv (sym ex ∙ ey)
  path_folds (step i is_rule e f p) k l u v hu hv ex ey =
      let place = place_of unfolds i is_rule in
      let r = rule_at_place unfolds i place in
      let ends = known place.within place.within_below in
      first_folds hu place.within_below ends.source_known (sym ex ∙ (sym e ∙ r.from_number)) r.instance
      (path_folds p place.row l (target g place.within) v ends.target_known hv (sym f ∙ rule_enters unfolds i place) ey)

  pub ends_at_occurrence : {x y : ℕ} (p : Path graph x y) → 0 < steps p → (k : ℕ) × (u : Event) × (u.0 < g.events) × (y ≡ (occurrence g k u).0)
  ends_at_occurrence stay some = absurd (let no : ⊥ = omega arith in no)
  ends_at_occurrence (step i is_rule e f stay) some =
      let p = place_of unfolds i is_rule in
      (p.row, target g p.within, (known p.within p.within_below).target_known, sym f ∙ rule_enters unfolds i p)
  ends_at_occurrence (step i is_rule e f (step i' is-rule' e' f' p)) some = ends_at_occurrence (step i' is-rule' e' f' p) (omega arith)

  pub cycle_folds : HasCycle graph → MarkZeroCycle g
  cycle_folds (x, (p, some)) =
      let (k, u, u_known, there) = ends_at_occurrence p some in
      let (w, as_many) = (path_folds p k k u u u_known u_known there there).way refl in
      (u, (w, omega (arith, as_many)))

  pub cycles_agree : 0 < K → HasCycle graph ↔ MarkZeroCycle g
  cycles_agree some_copy = (cycle_folds, cycle_unfolds unfolds some_copy)

-- ---- the analysis's verdict

module _ {g : ProcessGraph} {K : ℕ} {graph : Graph} (kept : Kept g K) (unfolds : Unfolds g K graph)
    {s t : ℕ} (hs : s < graph.events) (ht : t < graph.events) where
  path_5_exactly : {j p : ℕ} → analysis.PathVerdict graph j p → (j ≡ 5) ↔ MarkZeroCycle g
  path_5_exactly v =
      let known : (j : ℕ) → j < templates g → EndsKnown g.events g.sources g.targets j =
      λ j l. record { source_known = (kept.each.ends j l).source_known; target_known = (kept.each.ends j l).target_known } in
      let agree = cycles_agree unfolds known kept.counts.some_copy in
      let by = cycle_exactly v in
      (λ e. agree.0 (by.0 e), λ c. by.1 (agree.1 c))

  pub refused_5_exactly : {Short : Type 0} {j p : ℕ} → (Short → ⊥) → analysis.Verdict graph s t Short j p → (j ≡ 5) ↔ MarkZeroCycle g
  refused_5_exactly room v = path_5_exactly (past_question (unfolded_sized kept unfolds) room hs ht v)

  pub coarse_5_exactly : {q j p : ℕ} → 1 ≤ q → q ≤ 1000 → CoarseVerdict graph q s t j p → (j ≡ 5) ↔ MarkZeroCycle g
  coarse_5_exactly {q} {j} {p} positive small v =
      path_5_exactly
      (rest_of (check 9 (StepOutside q) ∷ []) (analysis.PathVerdict graph) j p (step_kept positive small, tt) (past_question (unfolded_sized kept unfolds) (λ no. no) hs ht v))

pub handed_5_exactly : {g : ProcessGraph} {K : ℕ} {Short : Type 0} {a : Unfolded} {ss₀ ts₀ : List ℕ} {ds₀ Ds₀ : List ℤ} {ss ts : List ℕ} {ds Ds : List ℤ}
    → UnfoldingAnswered g K Short a → a.refusal ≡ 0 → UnfoldingWritten g K a ss₀ ts₀ ds₀ Ds₀ ss ts ds Ds
    → {s t : ℕ} {Short' : Type 0} {answer : Answer} → (Short' → ⊥) → s < a.events → t < a.events
    → analysis.Answered (graph_of a.events (take a.rules ss) (take a.rules ts) (take a.rules ds) (take a.rules Ds)) s t Short' answer
    → (answer.refusal ≡ 5) ↔ MarkZeroCycle g
handed_5_exactly answered not_refused written room hs ht analysed =
    let (kept, unfolds) = handed answered not_refused written in
    refused_5_exactly kept unfolds hs ht room analysed.verdict
