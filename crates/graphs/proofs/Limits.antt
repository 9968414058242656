-- From the rules with limits to those without.
--     sound_of      an event graph is sound, whatever its limits
-- Assumes nothing.
use Prim.Native.Nat.{ℕ}
use Rattle.graphs.specs.Graph.{Graph}
use Rattle.graphs.specs.Limits.{EventGraph, SoundGraph}

pub sound_of : {b : ℕ} {g : Graph} → EventGraph b g → SoundGraph g
sound_of eg =
    record {
      some_event = eg.sized.counts.some_event;
      ends = eg.sized.ends;
      ordered = λ i l. (eg.sized.delays i l).ordered;
      acyclic = eg.acyclic;
      reachable = eg.reachable;
    }
