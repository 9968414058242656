-- The rules that a graph must keep. Document 01, section "Event graphs".
--     EventGraph b g     == g keeps every rule of the section, with delays from −b to b
--     SoundGraph g       == g keeps them apart from the limits on numbers: what executions need of a graph
-- 01 has b = 1,000,000; a rounded graph passes that by less than 1,000 ("Coarse form"), so the bound is an argument.
-- Assumes nothing.
use Rattle.std.specs.Prelude.{◌≡◌, ℕ, ◌<◌, ◌≤◌, ◌≤ℤ◌, length}
use Rattle.integers.specs.Within.{Within}
use Rattle.graphs.specs.Graph.{Graph, rules, source, target, least, most}
use Rattle.graphs.specs.Path.{HasCycle, Reachable}

-- "1 ≤ n ≤ 1,024", "0 ≤ r ≤ 4,096", and one entry for each rule in each of the four lists
pub record CountsKept (g : Graph) : Type 0 where
  pub some_event : 1 ≤ g.events
  pub few_events : g.events ≤ 1024
  pub few_rules : rules g ≤ 4096
  pub targets_match : length g.targets ≡ rules g
  pub leasts_match : length g.leasts ≡ rules g
  pub mosts_match : length g.mosts ≡ rules g

-- the events that rule i names exist
pub record EndsKept (g : Graph) (i : ℕ) : Type 0 where
  pub source_known : source g i < g.events
  pub target_known : target g i < g.events

-- "−1,000,000 ≤ d ≤ D ≤ 1,000,000" of rule i
pub record DelaysKept (b : ℕ) (g : Graph) (i : ℕ) : Type 0 where
  pub least_within : Within b (least g i)
  pub most_within : Within b (most g i)
  pub ordered : least g i ≤ℤ most g i

-- what is asked before paths are looked at
pub record Sized (b : ℕ) (g : Graph) : Type 0 where
  pub counts : CountsKept g
  pub ends : (i : ℕ) → i < rules g → EndsKept g i
  pub delays : (i : ℕ) → i < rules g → DelaysKept b g i

-- the whole section
pub record EventGraph (b : ℕ) (g : Graph) : Type 0 where
  pub sized : Sized b g
  pub acyclic : HasCycle g → ⊥
  pub reachable : (v : ℕ) → v < g.events → Reachable g v

-- the section without its limits, which the report's model does not have
pub record SoundGraph (g : Graph) : Type 0 where
  pub some_event : 1 ≤ g.events
  pub ends : (i : ℕ) → i < rules g → EndsKept g i
  pub ordered : (i : ℕ) → i < rules g → least g i ≤ℤ most g i
  pub acyclic : HasCycle g → ⊥
  pub reachable : (v : ℕ) → v < g.events → Reachable g v
