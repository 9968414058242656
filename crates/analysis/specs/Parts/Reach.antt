-- Which events the root reaches.
--     Arranged n ss ts heads nexts order == the rules are chained by target, and the events are in an order where targets come first
--     Led n heads                        == every event but the root has a rule into it
--     Marked g marks v                   == marks[v] says whether v is reachable: 0 where it isn't
--     SourceMarked ss ts marks v b       == b says whether the source of a rule into v is marked
--     MarkOf ss ts marks v r             == r is the mark of v: 1 for the root and where such a source is marked, else 0
--     AllMarked n ss ts marks            == each event is marked or not as it should be
-- Assumes nothing.
use Rattle.std.specs.Prelude.{◌≡◌, Bool, true, false, List, ℕ, ◌<◌, ◌≤◌, ℤ, length, get_or}
use Rattle.graphs.specs.Graph.{Graph, graph_of}
use Rattle.graphs.specs.Path.{Reachable}
use Rattle.analysis.specs.Parts.Chains.{ChainLists}
use Rattle.analysis.specs.Parts.Order.{Order}
use Rattle.analysis.specs.Parts.Rules.{RulesKept}

pub record Arranged (n : ℕ) (ss ts heads nexts order : List ℕ) : Type 0 where
  pub kept : RulesKept n ss ts
  pub chains : ChainLists n ts heads nexts
  pub order_room : n ≤ length order
  pub rank : ℕ → ℕ
  pub ordered : Order n ss ts order rank

abbrev pub Led : ℕ → List ℕ → Type 0
Led n heads = (v : ℕ) → 0 < v → v < n → 0 < get_or heads v 0

pub record Marked (g : Graph) (marks : List ℕ) (v : ℕ) : Type 0 where
  pub reaches : 0 < get_or marks v 0 → Reachable g v
  pub no_path : get_or marks v 0 ≡ 0 → Reachable g v → ⊥

pub record SourceMarked (ss ts marks : List ℕ) (v : ℕ) (b : Bool) : Type 0 where
  pub some : b ≡ true → (i : ℕ) × (i < length ts) × (get_or ts i 0 ≡ v) × (0 < get_or marks (get_or ss i 0) 0)
  pub none : b ≡ false → (i : ℕ) → i < length ts → get_or ts i 0 ≡ v → get_or marks (get_or ss i 0) 0 ≡ 0

pub data MarkOf (ss ts marks : List ℕ) (v r : ℕ) : Type 0 where
  at_root : v ≡ 0 → r ≡ 1 → MarkOf ss ts marks v r
  marked : r ≡ 1 → SourceMarked ss ts marks v true → MarkOf ss ts marks v r
  unmarked : (v ≡ 0 → ⊥) → r ≡ 0 → SourceMarked ss ts marks v false → MarkOf ss ts marks v r

abbrev pub AllMarked : ℕ → List ℕ → List ℕ → List ℕ → Type 0
AllMarked n ss ts marks = (ds Ds : List ℤ) (v : ℕ) → v < n → Marked (graph_of n ss ts ds Ds) marks v
