-- The mark-0 templates as the rules of an event graph: its paths are the ways along mark-0 templates.
--     way_path, path_way    a way along mark-0 templates is a path of as many rules, and back
--     on_cycle_exactly      so a process event lies on a cycle of mark-0 templates exactly where it lies on a cycle of the graph
--     ranked_of             and ranks that grow along its rules are those that a sweep goes by
-- Assumes nothing.
use mathlib.Core.Path.{◌≡◌, refl, sym, ap, subst, ◌∙◌}
use mathlib.Core.Logic.{◌↔◌}
use Prim.Native.Nat.{ℕ, suc, ◌<◌}
use native.Mathlib.Omega.{arith}
use Rattle.graphs.specs.Graph as rule
use Rattle.graphs.specs.Graph.{Graph, rules}
use Rattle.graphs.specs.Path.{Path, stay, step, steps}
use Rattle.processes.specs.declared.Event.{Event}
use Rattle.processes.specs.Process.{source, target, ProcessGraph}
use Rattle.processes.specs.Ways.{MarkZeroWay, empty, along, templates_on, OnMarkZeroCycle}
use Rattle.processes.proofs.Occurrences.{event_same}
use Rattle.levels.specs.Parts.Marks.{MarkZeroRules}
use Rattle.levels.specs.Parts.Sweep.{Ranked}

module _ {g : ProcessGraph} {h : Graph} (same : MarkZeroRules g h) where
  pub way_path : (u v : Event) (w : MarkZeroWay g u v) → (p : Path h u.0 v.0) × (steps p ≡ templates_on w)
  way_path u v empty = (stay, refl)
  way_path u v (along {v = x} j l m from to w) =
      let (i, is_rule, source_is, target_is) = same.has_rule j l m in
      let (p, as_many) = way_path x v w in
      (step i is_rule (source_is ∙ ap (λ (e : Event). e.0) from) (target_is ∙ ap (λ (e : Event). e.0) to) p, ap suc as_many)

  pub path_way : {x y : ℕ} (p : Path h x y) (u v : Event) → u.0 ≡ x → v.0 ≡ y → (w : MarkZeroWay g u v) × (templates_on w ≡ steps p)
  path_way stay u v eu ev = subst (λ (x : Event). (w : MarkZeroWay g u x) × (templates_on w ≡ 0)) (event_same u v (eu ∙ sym ev)) (empty, refl)
  path_way (step i is_rule leaves enters p) u v eu ev =
      let (j, l, m, source_is, target_is) = same.of_template i is_rule in
      let (w, as_many) = path_way p (target g j) v (sym target_is ∙ enters) ev in
      (along j l m (event_same (source g j) u (sym source_is ∙ leaves ∙ sym eu)) refl w, ap suc as_many)

  pub on_cycle_exactly : (v : Event) → OnMarkZeroCycle g v ↔ ((p : Path h v.0 v.0) × (0 < steps p))
  on_cycle_exactly v = (
    λ c. let (p, as_many) = way_path v v c.0 in (p, let some = c.1 in omega (arith, as_many, some)),
    λ c. let (w, as_many) = path_way c.0 v v refl refl in (w, let some = c.1 in omega (arith, as_many, some)),
  )

  pub ranked_of : (rank : ℕ → ℕ) → ((i : ℕ) → i < rules h → rank (rule.source h i) < rank (rule.target h i)) → Ranked g rank
  ranked_of rank higher j l m =
      let (i, is_rule, source_is, target_is) = same.has_rule j l m in
      let up = higher i is_rule in
      omega (arith, up, ap rank source_is, ap rank target_is)
