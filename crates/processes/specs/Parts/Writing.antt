-- What one rule of the unfolding is, and what the writing of all rules leaves in the four lent lists.
--     TemplateTurn g k j        == what the rule of template j at k may count on: its numbers are small
--     InstanceSource p k m i x  == x is the number of the source of the rule that a template with mark m and source i gives at k
--     InstanceDelay k m d e x   == x is the delay of that rule where the template's is d and its start delay e
--     InstanceRule g k j s t d D == s, t, d and D are the rule of template j at k
--     InstancesWritten g K …    == the four lists hold all rules, in order, and what they held beyond
-- ss₀, ts₀, ds₀, Ds₀ are the lists before, ss, ts, ds, Ds after. Assumes nothing.
use Rattle.std.specs.Prelude.{◌≡◌, List, ℕ, suc, ◌+◌, ◌*◌, ◌<◌, ℤ, length, drop}
use Rattle.graphs.specs.Graph.{graph_of}
use Rattle.processes.specs.Process.{ProcessGraph, templates, source, target, least, most, mark, start_least, start_most, occurrence}
use Rattle.processes.specs.Unfolding.{RuleAt}
use Rattle.processes.specs.Parts.Checks.{ListsKept, MarkKept}

pub record TemplateTurn (g : ProcessGraph) (k j : ℕ) : Type 0 where
  pub lists : ListsKept g
  pub is_template : j < templates g
  pub source_small : k * g.events + (source g j).0 < 1024
  pub target_small : k * g.events + (target g j).0 < 1024
  pub marked : MarkKept g.marks j

pub record InstanceSource (p k m i x : ℕ) : Type 0 where
  pub together : m ≡ 0 → x ≡ 1 + k * p + i
  pub onward : (before : ℕ) → m ≡ 1 → k ≡ suc before → x ≡ 1 + before * p + i
  pub start : m ≡ 1 → k ≡ 0 → x ≡ 0

pub record InstanceDelay (k m : ℕ) (d e x : ℤ) : Type 0 where
  pub together : m ≡ 0 → x ≡ d
  pub onward : (before : ℕ) → m ≡ 1 → k ≡ suc before → x ≡ d
  pub start : m ≡ 1 → k ≡ 0 → x ≡ e

pub record InstanceRule (g : ProcessGraph) (k j : ℕ) (s t : ℕ) (d D : ℤ) : Type 0 where
  pub source_at : InstanceSource g.events k (mark g j) (source g j).0 s
  pub target_at : t ≡ (occurrence g k (target g j)).0
  pub least_at : InstanceDelay k (mark g j) (least g j) (start_least g j) d
  pub most_at : InstanceDelay k (mark g j) (most g j) (start_most g j) D

pub record InstancesWritten (g : ProcessGraph) (K : ℕ) (ss₀ ts₀ : List ℕ) (ds₀ Ds₀ : List ℤ) (ss ts : List ℕ) (ds Ds : List ℤ) : Type 0 where
  pub each : (k j : ℕ) → k < K → j < templates g → RuleAt g k j (graph_of (1 + g.events * K) ss ts ds Ds) (k * templates g + j)
  pub sources_beyond : drop (templates g * K) ss ≡ drop (templates g * K) ss₀
  pub targets_beyond : drop (templates g * K) ts ≡ drop (templates g * K) ts₀
  pub leasts_beyond : drop (templates g * K) ds ≡ drop (templates g * K) ds₀
  pub mosts_beyond : drop (templates g * K) Ds ≡ drop (templates g * K) Ds₀
  pub lengths_kept : (length ss ≡ length ss₀) × (length ts ≡ length ts₀) × (length ds ≡ length ds₀) × (length Ds ≡ length Ds₀)
