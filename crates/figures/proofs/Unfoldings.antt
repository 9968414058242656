-- The test that a graph is a process graph, unfolded K times.
--     unfolds_to g K graph     the test: the counts are right, and each template's rule at each k stands in its place
--     unfolds_to_lem              where it passes, the graph is the unfolding
-- A template with mark 0 gives one rule at every k. One with mark 1 gives the start rule at 0, and above 0 the rule from the occurrence before.
-- Assumes nothing.
use mathlib.Core.Path.{◌≡◌, refl, sym, subst}
use mathlib.Core.Bool.{Bool, ◌&&◌, ◌||◌}
use mathlib.Core.Logic.{◌⊎◌, inl, inr}
use Prim.Native.Nat.{ℕ, zero, suc, ◌+◌, ◌*◌}
use lib.IntN.{ℤ}
use lib.ListN.{length}
use lib.Dec.{T, eqb, eqb→eq}
use Rattle.graphs.specs.Graph as rule
use Rattle.graphs.specs.Graph.{Graph}
use Rattle.processes.specs.Process.{ProcessGraph, templates, source, target, least, most, mark, start_least, start_most, occurrence, Node, number, Instance}
use Rattle.processes.specs.Process.Node.{root, at}
use Rattle.processes.specs.Process.Instance.{together, onward, start}
use Rattle.processes.specs.Unfolding.{RuleAt, Unfolds}
use Rattle.figures.proofs.Tests.{both_pass, one_passes, all_below, all_pass, eq_z, eq_z_passes}

-- ---- one rule

-- rule i leads from u to v with delay [d, D]
abbrev is_rule : Graph → ℕ → Node → Node → ℤ → ℤ → Bool
is_rule graph i u v d D =
    (eqb (rule.source graph i) (number u) && eqb (rule.target graph i) (number v)) && (eq_z (rule.least graph i) d && eq_z (rule.most graph i) D)

-- from u, where the mark says so: the rule that template j gives at k ends at occurrence k of the target
abbrev is_marked : ProcessGraph → ℕ → ℕ → Graph → ℕ → ℕ → Node → ℤ → ℤ → Bool
is_marked g k j graph i offset u d D = eqb (mark g j) offset && is_rule graph i u (at (occurrence g k (target g j))) d D

abbrev is_together : ProcessGraph → ℕ → ℕ → Graph → ℕ → Bool
is_together g k j graph i = is_marked g k j graph i 0 (at (occurrence g k (source g j))) (least g j) (most g j)

abbrev is_later : ProcessGraph → ℕ → ℕ → Graph → ℕ → Bool
is_later g zero j graph i = is_marked g zero j graph i 1 root (start_least g j) (start_most g j)
is_later g (suc before) j graph i = is_marked g (suc before) j graph i 1 (at (occurrence g before (source g j))) (least g j) (most g j)

abbrev is_instance : ProcessGraph → Graph → ℕ → ℕ → Bool
is_instance g graph k j = is_together g k j graph (k * templates g + j) || is_later g k j graph (k * templates g + j)

module _ (g : ProcessGraph) (j : ℕ) (graph : Graph) (i : ℕ) where
  rule_passes_lem : (k : ℕ) (u v : Node) (d D : ℤ) → Instance g k j u v d D → T (is_rule graph i u v d D) → RuleAt g k j graph i
  rule_passes_lem k u v d D instance t =
      let (ends, delays) = both_pass (eqb (rule.source graph i) (number u) && eqb (rule.target graph i) (number v)) _ t in
      let (from, to) = both_pass (eqb (rule.source graph i) (number u)) _ ends in
      let (low, high) = both_pass (eq_z (rule.least graph i) d) _ delays in
      record {
        from = u;
        to = v;
        from_number = eqb→eq (rule.source graph i) (number u) from;
        to_number = eqb→eq (rule.target graph i) (number v) to;
        instance =
            subst (λ x. Instance g k j u v x (rule.most graph i)) (sym (eq_z_passes (rule.least graph i) d low))
            (subst (λ x. Instance g k j u v d x) (sym (eq_z_passes (rule.most graph i) D high)) instance);
      }

  marked_passes : (k offset : ℕ) (u : Node) (d D : ℤ) → (mark g j ≡ offset → Instance g k j u (at (occurrence g k (target g j))) d D) → T (is_marked g k j graph i offset u d D) → RuleAt g k j graph i
  marked_passes k offset u d D gives t =
      let (marked, stands) = both_pass (eqb (mark g j) offset) _ t in
      rule_passes_lem k u (at (occurrence g k (target g j))) d D (gives (eqb→eq (mark g j) offset marked)) stands

  together_passes : (k : ℕ) → T (is_together g k j graph i) → RuleAt g k j graph i
  together_passes k = marked_passes k 0 (at (occurrence g k (source g j))) (least g j) (most g j) together

  later_passes : (k : ℕ) → T (is_later g k j graph i) → RuleAt g k j graph i
  later_passes zero = marked_passes zero 1 root (start_least g j) (start_most g j) (λ marked. start marked refl)
  later_passes (suc before) =
      marked_passes (suc before) 1 (at (occurrence g before (source g j))) (least g j) (most g j) (λ marked. onward before marked refl)

instance_passes : (g : ProcessGraph) (graph : Graph) (k j : ℕ) → T (is_instance g graph k j) → RuleAt g k j graph (k * templates g + j)
instance_passes g graph k j t = by (one_passes (is_together g k j graph (k * templates g + j)) (is_later g k j graph (k * templates g + j)) t)
  where
    by : T (is_together g k j graph (k * templates g + j)) ⊎ T (is_later g k j graph (k * templates g + j)) → RuleAt g k j graph (k * templates g + j)
    by (inl same) = together_passes g j graph (k * templates g + j) k same
    by (inr later) = later_passes g j graph (k * templates g + j) k later

-- ---- all rules

abbrev counts_unfold : ProcessGraph → ℕ → Graph → Bool
counts_unfold g K graph =
    eqb graph.events (1 + g.events * K) &&
    ((eqb (length graph.sources) (templates g * K) && eqb (length graph.targets) (templates g * K)) &&
    (eqb (length graph.leasts) (templates g * K) && eqb (length graph.mosts) (templates g * K)))

abbrev pub unfolds_to : ProcessGraph → ℕ → Graph → Bool
unfolds_to g K graph = counts_unfold g K graph && all_below K (λ k. all_below (templates g) (is_instance g graph k))

pub unfolds_to_lem : (g : ProcessGraph) (K : ℕ) (graph : Graph) → T (unfolds_to g K graph) → Unfolds g K graph
unfolds_to_lem g K graph t =
    let (counts, rules) = both_pass (counts_unfold g K graph) _ t in
    let (n-events, lists) = both_pass (eqb graph.events (1 + g.events * K)) _ counts in
    let (ends, delays) = both_pass (eqb (length graph.sources) (templates g * K) && eqb (length graph.targets) (templates g * K)) _ lists in
    let (n-sources, n-targets) = both_pass (eqb (length graph.sources) (templates g * K)) _ ends in
    let (n-leasts, n-mosts) = both_pass (eqb (length graph.leasts) (templates g * K)) _ delays in
    record {
      event_count = eqb→eq graph.events (1 + g.events * K) n-events;
      sources_count = eqb→eq (length graph.sources) (templates g * K) n-sources;
      targets_count = eqb→eq (length graph.targets) (templates g * K) n-targets;
      leasts_count = eqb→eq (length graph.leasts) (templates g * K) n-leasts;
      mosts_count = eqb→eq (length graph.mosts) (templates g * K) n-mosts;
      each =
          λ k j below is_template.
          instance_passes g graph k j
          (all_pass (templates g) (is_instance g graph k) (all_pass K (λ l. all_below (templates g) (is_instance g graph l)) rules k below) j is_template);
    }
