-- The start intervals, compared: with document 01's unfolding, in which every start rule has delay [0, 0], and with other entries that are not to be read.
-- The promise of the unfolding is in Unfolding.antt; the theorems are in proofs/Starts.antt. Document 01, section "Process graphs and their unfolding"; 02, wish 1.
--     ZeroStarts g               == each template with mark 1 has the start interval [0, 0]
--     ZeroInstance g k j u v d D == the rule that template j gives at k, by 01 alone
--     ZeroRuleAt g k j graph i   == rule i of the graph is that rule
--     ZeroUnfolds g K graph      == the graph is the unfolding, by 01 alone
--     ZeroDelayOutside g j       == refusal 3, by 01 alone
--     restarted g es Es          == g, with the start lists es and Es
--     StartsAlike g es Es        == they are as long as those of g, and differ from them in no entry of a template with mark 1
-- Assumes nothing.
use Rattle.std.specs.Prelude.{◌≡◌, List, ℕ, suc, ◌+◌, ◌*◌, ◌<◌, ℤ, pos, length, get_or}
use Rattle.graphs.specs.Graph as rule
use Rattle.graphs.specs.Graph.{Graph}
use Rattle.graphs.specs.Refusal.{OutsideDelays}
use Rattle.processes.specs.Process.{ProcessGraph, process_of, templates, source, target, least, most, mark, start_least, start_most, occurrence, Node, root, at, number}

-- 02: "in place of [0, 0]"
abbrev pub ZeroStarts : ProcessGraph → Type 0
ZeroStarts g = (j : ℕ) → j < templates g → mark g j ≡ 1 → (start_least g j ≡ pos 0) × (start_most g j ≡ pos 0)

-- the three cases of 01, word for word
pub data ZeroInstance (g : ProcessGraph) (k j : ℕ) : Node → Node → ℤ → ℤ → Type 0 where
  -- "mark 0: from occurrence k of the source to occurrence k of the target, [d, D]"
  zero_together : mark g j ≡ 0 → ZeroInstance g k j (at (occurrence g k (source g j))) (at (occurrence g k (target g j))) (least g j) (most g j)
  -- "mark 1 and k ≥ 1: from occurrence k − 1 of the source to occurrence k of the target, [d, D]"
  zero_onward : (before : ℕ) → mark g j ≡ 1 → k ≡ suc before →
      ZeroInstance g k j (at (occurrence g before (source g j))) (at (occurrence g k (target g j))) (least g j) (most g j)
  -- "mark 1 and k = 0: a start rule from the root to occurrence 0 of the target, with delay [0, 0]"
  zero_start : mark g j ≡ 1 → k ≡ 0 → ZeroInstance g k j root (at (occurrence g k (target g j))) (pos 0) (pos 0)

pub record ZeroRuleAt (g : ProcessGraph) (k j : ℕ) (graph : Graph) (i : ℕ) : Type 0 where
  pub from : Node
  pub to : Node
  pub from_number : rule.source graph i ≡ number from
  pub to_number : rule.target graph i ≡ number to
  pub instance : ZeroInstance g k j from to (rule.least graph i) (rule.most graph i)

pub record ZeroUnfolds (g : ProcessGraph) (K : ℕ) (graph : Graph) : Type 0 where
  pub event_count : graph.events ≡ 1 + g.events * K
  pub sources_count : length graph.sources ≡ templates g * K
  pub targets_count : length graph.targets ≡ templates g * K
  pub leasts_count : length graph.leasts ≡ templates g * K
  pub mosts_count : length graph.mosts ≡ templates g * K
  pub each : (k j : ℕ) → k < K → j < templates g → ZeroRuleAt g k j graph (k * templates g + j)

-- "a delay is out of range, or d > D"
pub record ZeroDelayOutside (g : ProcessGraph) (j : ℕ) : Type 0 where
  pub is_template : j < templates g
  pub outside : OutsideDelays (least g j) (most g j)

abbrev pub restarted : ProcessGraph → List ℤ → List ℤ → ProcessGraph
restarted g es Es = process_of g.events g.sources g.targets g.leasts g.mosts g.marks es Es

-- 02: "an entry for another mark is neither read nor checked"
pub record StartsAlike (g : ProcessGraph) (es Es : List ℤ) : Type 0 where
  pub least_lengths : length g.start_leasts ≡ length es
  pub most_lengths : length g.start_mosts ≡ length Es
  pub least_alike : (j : ℕ) → mark g j ≡ 1 → start_least g j ≡ get_or es j (pos 0)
  pub most_alike : (j : ℕ) → mark g j ≡ 1 → start_most g j ≡ get_or Es j (pos 0)
