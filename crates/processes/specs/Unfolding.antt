-- The promise of the unfolding. Document 01, sections "Process graphs and their unfolding" and "Refusal numbers"; demand 2, last sentence; 02, wishes 1 and 3.
--     TemplatesOutside g               == refusal 22: the templates are more than their limit, or the template lists differ in length
--     UnfoldingOutside g K             == refusal 24: K is 0, or the unfolding is beyond its limits
--     ShortRuleLists …                 == refusal 23 of the lent lists: one has fewer than templates × K places
--     UnknownTemplateEvent g j         == refusal 2: template j names an event that doesn't exist
--     TemplateDelayOutside g j         == refusal 3: a delay of template j is out of range, or d > D; or so its start interval, where its mark is 1
--     MarkOutside g j                  == refusal 7: the offset mark of template j is neither 0 nor 1
--     process_checks g K Short          == the refusals 21, 22, 24, 23, 2, 3, 7, in this order
--     UnfoldingVerdict g K Short       == the first of them that applies
--     RuleAt g k j graph i             == rule i of the graph is the instance of template j at k
--     Unfolds g K graph                == the graph holds exactly the occurrences and rules of the unfolding, in 01's order
--     UnfoldingAnswered g K Short a    == a is the answer: the verdict's number and place, and both counts where nothing is refused
--     UnfoldingWritten g K a olds news == what the four lent lists hold after
-- Refusal 21 is `EventsOutside` of graphs/specs/Refusal.antt, with 1,023 for the limit. Assumes nothing.
use Rattle.std.specs.Prelude.{◌≡◌, ◌⊎◌, List, [], ◌∷◌, ℕ, ◌+◌, ◌*◌, ◌<◌, ◌≤◌, ℤ, length, take, drop}
use Rattle.graphs.specs.Graph as rule
use Rattle.graphs.specs.Graph.{Graph, graph_of}
use Rattle.verdicts.specs.Verdict.{Check, check, FirstOf, AtZero, Lowest}
use Rattle.graphs.specs.Refusal.{EventsOutside, OutsideDelays}
use Rattle.processes.specs.declared.Unfolded.{Unfolded}
use Rattle.processes.specs.Process.{ProcessGraph, templates, source, target, least, most, mark, start_least, start_most, Node, number, Instance}

-- 02: "rule or template count above 4,096 or unequal lists 22"
pub data TemplatesOutside (g : ProcessGraph) : Type 0 where
  many_templates : 4096 < templates g → TemplatesOutside g
  targets_differ : (length g.targets ≡ templates g → ⊥) → TemplatesOutside g
  leasts_differ : (length g.leasts ≡ templates g → ⊥) → TemplatesOutside g
  mosts_differ : (length g.mosts ≡ templates g → ⊥) → TemplatesOutside g
  marks_differ : (length g.marks ≡ templates g → ⊥) → TemplatesOutside g
  start_leasts_differ : (length g.start_leasts ≡ templates g → ⊥) → TemplatesOutside g
  start_mosts_differ : (length g.start_mosts ≡ templates g → ⊥) → TemplatesOutside g

-- 02: "K = 0 or an unfolding beyond its limits 24"; 01: "1 + p × K ≤ 1,024 and templates × K ≤ 4,096"
pub data UnfoldingOutside (g : ProcessGraph) (K : ℕ) : Type 0 where
  no_copies : K ≡ 0 → UnfoldingOutside g K
  many_occurrences : 1024 < 1 + g.events * K → UnfoldingOutside g K
  many_rules : 4096 < templates g * K → UnfoldingOutside g K

-- "each of the four output lists needs that many places"
pub data ShortRuleLists (g : ProcessGraph) (K : ℕ) (ss ts : List ℕ) (ds Ds : List ℤ) : Type 0 where
  short_sources : length ss < templates g * K → ShortRuleLists g K ss ts ds Ds
  short_targets : length ts < templates g * K → ShortRuleLists g K ss ts ds Ds
  short_leasts : length ds < templates g * K → ShortRuleLists g K ss ts ds Ds
  short_mosts : length Ds < templates g * K → ShortRuleLists g K ss ts ds Ds

pub record UnknownTemplateEvent (g : ProcessGraph) (j : ℕ) : Type 0 where
  pub is_template : j < templates g
  pub unknown : (g.events ≤ (source g j).0) ⊎ (g.events ≤ (target g j).0)

-- 02: "3 covers the start interval too, same template as place", "an entry for another mark is neither read nor checked"
pub record TemplateDelayOutside (g : ProcessGraph) (j : ℕ) : Type 0 where
  pub is_template : j < templates g
  pub outside : OutsideDelays (least g j) (most g j) ⊎ ((mark g j ≡ 1) × OutsideDelays (start_least g j) (start_most g j))

pub record MarkOutside (g : ProcessGraph) (j : ℕ) : Type 0 where
  pub is_template : j < templates g
  pub not_zero : mark g j ≡ 0 → ⊥
  pub not_one : mark g j ≡ 1 → ⊥

-- "unfolding 1, 2, 3, 7"; 02: "process-event count of 0 or above 1,023, 21", "checked 21, 22, 24, 23 where 1 stood"
abbrev pub process_checks : ProcessGraph → ℕ → Type 0 → List Check
process_checks g K Short =
    check 21 (AtZero (EventsOutside 1023 g.events)) ∷ check 22 (AtZero (TemplatesOutside g)) ∷ check 24 (AtZero (UnfoldingOutside g K)) ∷ check 23 (AtZero Short) ∷
    check 2 (Lowest (UnknownTemplateEvent g)) ∷ check 3 (Lowest (TemplateDelayOutside g)) ∷ check 7 (Lowest (MarkOutside g)) ∷ []

abbrev pub UnfoldingVerdict : ProcessGraph → ℕ → Type 0 → ℕ → ℕ → Type 0
UnfoldingVerdict g K Short = FirstOf (process_checks g K Short)

-- rule i is the instance of template j at k
pub record RuleAt (g : ProcessGraph) (k j : ℕ) (graph : Graph) (i : ℕ) : Type 0 where
  pub from : Node
  pub to : Node
  pub from_number : rule.source graph i ≡ number from
  pub to_number : rule.target graph i ≡ number to
  pub instance : Instance g k j from to (rule.least graph i) (rule.most graph i)

-- "Rules are written for k = 0, then 1, and so on; within one k, one rule per template in template order": template j at k is rule k × templates + j
pub record Unfolds (g : ProcessGraph) (K : ℕ) (graph : Graph) : Type 0 where
  pub event_count : graph.events ≡ 1 + g.events * K
  pub sources_count : length graph.sources ≡ templates g * K
  pub targets_count : length graph.targets ≡ templates g * K
  pub leasts_count : length graph.leasts ≡ templates g * K
  pub mosts_count : length graph.mosts ≡ templates g * K
  pub each : (k j : ℕ) → k < K → j < templates g → RuleAt g k j graph (k * templates g + j)

-- "The answer carries the event count 1 + p × K and the rule count, both 0 when refused"
pub record UnfoldingAnswered (g : ProcessGraph) (K : ℕ) (Short : Type 0) (a : Unfolded) : Type 0 where
  pub verdict : UnfoldingVerdict g K Short a.refusal a.place
  pub event_count : a.refusal ≡ 0 → a.events ≡ 1 + g.events * K
  pub rule_count : a.refusal ≡ 0 → a.rules ≡ templates g * K
  pub no_events : (a.refusal ≡ 0 → ⊥) → a.events ≡ 0
  pub no_rules : (a.refusal ≡ 0 → ⊥) → a.rules ≡ 0

-- "places beyond keep what they held"; refused, "every lent list keeps its contents"
pub record UnfoldingWritten (g : ProcessGraph) (K : ℕ) (a : Unfolded) (ss₀ ts₀ : List ℕ) (ds₀ Ds₀ : List ℤ) (ss ts : List ℕ) (ds Ds : List ℤ) : Type 0 where
  pub unfolds :
      a.refusal ≡ 0 →
      Unfolds g K
      (graph_of (1 + g.events * K) (take (templates g * K) ss) (take (templates g * K) ts) (take (templates g * K) ds) (take (templates g * K) Ds))
  pub sources_beyond : a.refusal ≡ 0 → drop (templates g * K) ss ≡ drop (templates g * K) ss₀
  pub targets_beyond : a.refusal ≡ 0 → drop (templates g * K) ts ≡ drop (templates g * K) ts₀
  pub leasts_beyond : a.refusal ≡ 0 → drop (templates g * K) ds ≡ drop (templates g * K) ds₀
  pub mosts_beyond : a.refusal ≡ 0 → drop (templates g * K) Ds ≡ drop (templates g * K) Ds₀
  pub sources_kept : (a.refusal ≡ 0 → ⊥) → ss ≡ ss₀
  pub targets_kept : (a.refusal ≡ 0 → ⊥) → ts ≡ ts₀
  pub leasts_kept : (a.refusal ≡ 0 → ⊥) → ds ≡ ds₀
  pub mosts_kept : (a.refusal ≡ 0 → ⊥) → Ds ≡ Ds₀
  pub lengths_kept : (length ss ≡ length ss₀) × (length ts ≡ length ts₀) × (length ds ≡ length ds₀) × (length Ds ≡ length Ds₀)
