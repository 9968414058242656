-- The graph unfolded in full is sound, however many copies there are.
--     Fit g               what is left of a process graph where refusals 2, 3, 5, 6 and 7 do not apply
--     unfolded_delays     each rule of the unfolding has delays inside
--     unfolded_ends       and events that exist
--     template_rule, template_enters   template j at k is a rule, and leads to occurrence k of its target
--     unfolded_sound      so the unfolding is sound
-- Why every event is reachable. A template targets its process event, so every event but the root has a rule into it; ranks fall going back along rules, and
-- so one arrives at the root. Assumes nothing.
use mathlib.Core.Path.{◌≡◌, refl, sym, ap, subst, ◌∙◌}
use Prim.Native.Nat.{ℕ, zero, suc, ◌+◌, ◌*◌, ◌<◌}
use native.Mathlib.Decide.{ℕ_discrete}
use native.Mathlib.Nat.{not-suc-le-zero, le_refl}
use native.Mathlib.Omega.{arith}
use lib.IntN.{ℤ}
use Rattle.graphs.specs.Graph as rule
use Rattle.graphs.specs.Graph.{Graph, rules}
use Rattle.graphs.specs.Path.{Path, stay, HasCycle}
use Rattle.graphs.specs.Limits.{EndsKept, DelaysKept, SoundGraph}
use Rattle.graphs.proofs.Paths.{along}
use Rattle.graphs.proofs.Rank.{rank_of}
use Rattle.refusals.specs.Faults.{InsideDelays}
use Rattle.processes.specs.Process.{templates, source, target, mark, occurrence, Node, number, ProcessGraph, start_least, start_most, Instance, together, onward, start}
use Rattle.processes.specs.Ways.{MarkZeroCycle}
use Rattle.processes.proofs.Numbers.{place_below}
use Rattle.processes.proofs.Occurrences.{OneOccurrence, occurrence_below, occurrence_found}
use Rattle.processes.proofs.Refusals.{TemplatesKept}
use Rattle.processes.proofs.Exactly.{instance_enters, place_of, rule_at_place}
use Rattle.levels.proofs.Folds.{folds_to_cycle}
use Rattle.processes.specs.Unfolding.{RuleAt, Unfolds}

pub record Fit (g : ProcessGraph) : Type 0 where
  pub each : TemplatesKept g
  pub starts : (j : ℕ) → j < templates g → mark g j ≡ 1 → InsideDelays (start_least g j) (start_most g j)
  pub no_cycle : MarkZeroCycle g → ⊥
  pub targeted : (v : ℕ) → v < g.events → (j : ℕ) × (j < templates g) × ((target g j).0 ≡ v)

record InstanceSized (n : ℕ) (u v : Node) (d D : ℤ) : Type 0 where
  pub from_known : number u < n
  pub to_known : number v < n
  pub delays : InsideDelays d D

instance_sized : {g : ProcessGraph} {K k j : ℕ} {u v : Node} {d D : ℤ} → Fit g → k < K → j < templates g → Instance g k j u v d D
    → InstanceSized (1 + g.events * K) u v d D
instance_sized {g} {K} {k} {j} fit below l (together m) =
    let e = fit.each.ends j l in
    let h = fit.each.delays j l in
    record {
      from_known = occurrence_below g K k (source g j) e.source_known below;
      to_known = occurrence_below g K k (target g j) e.target_known below;
      delays = record { least_within = h.least_within; most_within = h.most_within; ordered = h.ordered };
    }
instance_sized {g} {K} {k} {j} fit below l (onward b m is_next) =
    let e = fit.each.ends j l in
    let h = fit.each.delays j l in
    record {
      from_known = occurrence_below g K b (source g j) e.source_known (omega arith);
      to_known = occurrence_below g K k (target g j) e.target_known below;
      delays = record { least_within = h.least_within; most_within = h.most_within; ordered = h.ordered };
    }
instance_sized {g} {K} {k} {j} fit below l (start m first) =
    record {
      from_known = omega arith;
      to_known = occurrence_below g K k (target g j) (fit.each.ends j l).target_known below;
      delays = fit.starts j l m;
    }

module _ {g : ProcessGraph} {K : ℕ} {graph : Graph} (fit : Fit g) (unfolds : Unfolds g K graph) where
  rule_sized : (i : ℕ) → i < rules graph → (EndsKept graph i) × (DelaysKept 1000000 graph i)
  rule_sized i l =
      let p = place_of unfolds i l in
      let r = rule_at_place unfolds i p in
      let s = instance_sized fit p.row_below p.within_below r.instance in (
        record {
          source_known = omega (arith, r.from_number, s.from_known, unfolds.event_count);
          target_known = omega (arith, r.to_number, s.to_known, unfolds.event_count);
        },
        record { least_within = s.delays.least_within; most_within = s.delays.most_within; ordered = s.delays.ordered },
      )

  pub unfolded_ends : (i : ℕ) → i < rules graph → EndsKept graph i
  unfolded_ends i l = (rule_sized i l).0

  pub unfolded_delays : (i : ℕ) → i < rules graph → DelaysKept 1000000 graph i
  unfolded_delays i l = (rule_sized i l).1

  -- template j at k leads to occurrence k of its target
  pub template_enters : (k j : ℕ) → k < K → j < templates g
      → rule.target graph (k * templates g + j) ≡ (occurrence g k (target g j)).0
  template_enters k j below h =
      let r : RuleAt g k j graph (k * templates g + j) = unfolds.each k j below h in
      r.to_number ∙ ap number (instance_enters r.instance)

  pub template_rule : (k j : ℕ) → k < K → j < templates g → k * templates g + j < rules graph
  template_rule k j below h = omega (arith, place_below (templates g) K k j below h, unfolds.sources_count)

  -- a rule into each event but the root
  rule_into : (v : ℕ) → v < graph.events → (v ≡ 0 → ⊥) → (i : ℕ) × (i < rules graph) × (rule.target graph i ≡ v)
  rule_into v l other = by (occurrence_found g K v (omega arith) (omega (arith, unfolds.event_count)))
    where
      by : OneOccurrence g K v → (i : ℕ) × (i < rules graph) × (rule.target graph i ≡ v)
      by o =
          let (j, h, to) = fit.targeted o.event.0 o.is_event in (
            o.k * templates g + j,
            template_rule o.k j o.k_below h,
            template_enters o.k j o.k_below h ∙ ap (λ (x : ℕ). 1 + o.k * g.events + x) to ∙ o.its_number,
          )

  module _ (rank : ℕ → ℕ) (higher : (i : ℕ) → i < rules graph → rank (rule.source graph i) < rank (rule.target graph i)) where
    reached_at : (v : ℕ) → v < graph.events → ((i : ℕ) → i < rules graph → rule.target graph i ≡ v → Path graph 0 (rule.source graph i))
        → Dec (v ≡ 0) → Path graph 0 v
    reached_at v l before (yes e) = subst (Path graph 0) (sym e) stay
    reached_at v l before (no n) =
        let (i, h, to) = rule_into v l n in
        along (before i h to) i h refl to

    reached_below : (k v : ℕ) → rank v < k → v < graph.events → Path graph 0 v
    reached_below zero v r l = absurd (not-suc-le-zero r)
    reached_below (suc k) v r l =
        reached_at v l (λ i h to. reached_below k (rule.source graph i) (omega (arith, higher i h, ap rank to)) (unfolded_ends i h).source_known) (ℕ_discrete v 0)

  pub unfolded_sound : SoundGraph graph
  unfolded_sound =
      let no_cycle : HasCycle graph → ⊥ = λ c. fit.no_cycle (folds_to_cycle unfolds fit.each.ends c) in
      let (rank, higher, below) = rank_of graph unfolded_ends no_cycle in
      record {
        some_event = omega (arith, unfolds.event_count);
        ends = unfolded_ends;
        ordered = λ i l. (unfolded_delays i l).ordered;
        acyclic = no_cycle;
        reachable = λ v l. reached_below rank higher (suc (rank v)) v (le_refl (suc (rank v))) l;
      }
