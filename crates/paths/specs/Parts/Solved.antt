-- All caps and all fully pruned sets of a graph, against s and towards t: what a sweep is to find, event by event.
--     Numbered T             == every l of T is a number
--     Full g cap t v T       == T is the fully pruned set over all paths from v to t
--     Fully g cap t full     == so is full v, for every v
--     Solved g s t cap full  == cap v is the cap of v, and full v its fully pruned set, for every v
-- Every number v counts, whether it is an event or not: from one that is none, no path leads on. Assumes nothing.
use Rattle.std.specs.Prelude.{◌≡◌, List, ℕ, ℤ}
use Rattle.graphs.specs.Graph.{Graph}
use Rattle.sets.specs.Limit.{Limit, number}
use Rattle.sets.specs.Pair.{Pair}
use Rattle.sets.specs.Set.{◌∈◌}
use Rattle.sets.specs.Family.{Closes}
use Rattle.paths.specs.Cap.{CapOf}
use Rattle.paths.specs.PathPair.{PathPairs}

pub record Numbered (T : List Pair) : Type 0 where
  pub number_of : (q : Pair) → q ∈ T → (a : ℤ) × (q.l ≡ number a)

pub record Full (g : Graph) (cap : ℕ → Limit) (t v : ℕ) (T : List Pair) : Type 0 where
  pub closes : Closes T (PathPairs g cap t v)
  pub numbered : Numbered T

pub record Fully (g : Graph) (cap : ℕ → Limit) (t : ℕ) (full : ℕ → List Pair) : Type 0 where
  pub each : (v : ℕ) → Full g cap t v (full v)

pub record Solved (g : Graph) (s t : ℕ) (cap : ℕ → Limit) (full : ℕ → List Pair) : Type 0 where
  pub caps : (v : ℕ) → CapOf g s v (cap v)
  pub sets : Fully g cap t full
