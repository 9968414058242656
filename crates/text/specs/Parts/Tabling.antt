-- The table of a text's graph, before it is written.
--     Tabled bs entries n       == bs is a text that is not refused, of n events, and the table holds the separations of its graph
-- Assumes nothing.
use Rattle.std.specs.Prelude.{◌≡◌, List, ℕ, ◌≤◌, ℤ, length}
use Rattle.graphs.specs.Limits.{EventGraph}
use Rattle.table.specs.Table.{RowsFilled}
use Rattle.text.specs.Grammar.{Rule, Text}
use Rattle.text.specs.Reading.{events, graph_of_rules}
use Rattle.text.specs.Output.{PairsVerdict}

pub record Tabled (bs : List ℕ) (entries : List ℤ) (n : ℕ) : Type 0 where
  pub rs : List Rule
  pub text : Text bs rs
  pub event_count : n ≡ events rs
  pub few : n ≤ 64
  pub long : length entries ≡ 4096
  pub graph : EventGraph 1000000 (graph_of_rules rs)
  pub filled : RowsFilled (graph_of_rules rs) n entries
  pub verdict : PairsVerdict bs 0 0
