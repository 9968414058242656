-- The cap of an event: its m as a limit. Document 01, section "Executions": "Events with no path to s have no m". Document 02, request 7: "where w may be
-- unlimited".
--     CapOf g s v c          == c is m(v), or unlimited where there is no path from v to s
--     Caps g s cap           == cap v is the cap of v, for every event v
-- Assumes nothing.
use Rattle.std.specs.Prelude.{ℕ, ◌<◌, ℤ}
use Rattle.graphs.specs.Graph.{Graph}
use Rattle.graphs.specs.Path.{Path}
use Rattle.executions.specs.Steps.{M}
use Rattle.sets.specs.Limit.{Limit, number, unlimited}

pub data CapOf (g : Graph) (s v : ℕ) : Limit → Type 0 where
  at_m : (x : ℤ) → M g s v x → CapOf g s v (number x)
  no_m : (Path g v s → ⊥) → CapOf g s v unlimited

pub record Caps (g : Graph) (s : ℕ) (cap : ℕ → Limit) : Type 0 where
  pub each : (v : ℕ) → v < g.events → CapOf g s v (cap v)
