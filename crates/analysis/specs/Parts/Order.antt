-- An order of the events in which targets come first: from the sinks to the root.
--     Order n ss ts order rank == order lists the events 0 to n − 1, each once, event v at place rank v, and the target of each rule before its source
--     Ordered n ss ts order b  == b is true and order is such an order, or b is false and the graph has a cycle
-- ss and ts are the sources and the targets of the rules. Assumes nothing.
use Rattle.std.specs.Prelude.{◌≡◌, Bool, true, false, List, ℕ, ◌<◌, ℤ, length, get_or}
use Rattle.graphs.specs.Graph.{graph_of}
use Rattle.graphs.specs.Path.{HasCycle}

pub record Order (n : ℕ) (ss ts order : List ℕ) (rank : ℕ → ℕ) : Type 0 where
  pub rank_below : (v : ℕ) → v < n → rank v < n
  pub order_rank : (v : ℕ) → v < n → get_or order (rank v) 0 ≡ v
  pub order_below : (k : ℕ) → k < n → get_or order k 0 < n
  pub rank_order : (k : ℕ) → k < n → rank (get_or order k 0) ≡ k
  pub targets_first : (i : ℕ) → i < length ss → rank (get_or ts i 0) < rank (get_or ss i 0)

pub record Ordered (n : ℕ) (ss ts order : List ℕ) (b : Bool) : Type 0 where
  pub ordered : b ≡ true → (rank : ℕ → ℕ) × Order n ss ts order rank
  pub cyclic : b ≡ false → (ds Ds : List ℤ) → HasCycle (graph_of n ss ts ds Ds)
