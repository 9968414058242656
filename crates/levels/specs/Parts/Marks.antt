-- The mark-0 templates as the rules of an event graph with the process events, in any order: what is ordered once for all levels.
--     MarkZeroRules g h       == the rules of h are the mark-0 templates of g, each with its source and target
-- Assumes nothing.
use Rattle.std.specs.Prelude.{◌≡◌, ℕ, ◌<◌}
use Rattle.graphs.specs.Graph as rule
use Rattle.graphs.specs.Graph.{Graph, rules}
use Rattle.processes.specs.Process.{templates, source, target, mark, ProcessGraph}

pub record MarkZeroRules (g : ProcessGraph) (h : Graph) : Type 0 where
  pub events_same : h.events ≡ g.events
  pub of_template :
      (i : ℕ) → i < rules h
      → (j : ℕ) × (j < templates g) × (mark g j ≡ 0) × (rule.source h i ≡ (source g j).0) × (rule.target h i ≡ (target g j).0)
  pub has_rule :
      (j : ℕ) → j < templates g → mark g j ≡ 0
      → (i : ℕ) × (i < rules h) × (rule.source h i ≡ (source g j).0) × (rule.target h i ≡ (target g j).0)
