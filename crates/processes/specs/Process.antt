-- A process graph, and the occurrences and rules that the report lists for it. Document 01, section "Process graphs and their unfolding"; 02, wish 1;
-- report, sections 2.1 and 2.2.
--     ProcessGraph          == p events and seven template lists: source, target, least delay, most delay, offset mark, least start delay, most start delay
--     templates g           == how many templates g has
--     source g j, target g j == the process events of template j
--     least g j, most g j, mark g j == its interval [d, D] and its offset mark
--     start_least g j, start_most g j == its start interval, of which only a template with mark 1 makes use
--     occurrence g k u      == occurrence k of process event u: number 1 + k × p + i for event i
--     Node, number          == the root or an occurrence, and its number in the event graph: the root's is 0
--     Instance g k j u v d D == the rule that template j gives at k: from u to v with delay [d, D]
--     Rules g K u v d D     == 01's list, by the target's occurrence: u to v [d, D] is the instance of some template at some k below K
--     R g K u v d D         == R of the report, by the source's occurrence, cut off at K
-- `Event` is a process event's number and `Occurrence` an occurrence's: neither stands for the other. Assumes nothing.
use Rattle.std.specs.Prelude.{◌≡◌, List, ℕ, suc, ◌+◌, ◌*◌, ◌<◌, ℤ, pos, length, get_or}
use Rattle.processes.specs.declared.Event.{Event}
use Rattle.processes.specs.declared.Occurrence.{Occurrence}

-- "A process graph has p events, p ≥ 1, and templates: source, target, d, D and an offset mark of 0 or 1"; 02: "Each template with mark 1 gets its own start
-- interval". The start lists have an entry for each template, whatever its mark
pub record ProcessGraph : Type 0 where
  pub events : ℕ
  pub sources : List ℕ
  pub targets : List ℕ
  pub leasts : List ℤ
  pub mosts : List ℤ
  pub marks : List ℕ
  pub start_leasts : List ℤ
  pub start_mosts : List ℤ

abbrev pub process_of : ℕ → List ℕ → List ℕ → List ℤ → List ℤ → List ℕ → List ℤ → List ℤ → ProcessGraph
process_of p ss ts ds Ds ms es Es =
    record { events = p; sources = ss; targets = ts; leasts = ds; mosts = Ds; marks = ms; start_leasts = es; start_mosts = Es }

abbrev pub templates : ProcessGraph → ℕ
templates g = length g.sources

abbrev pub source : ProcessGraph → ℕ → Event
source g j = record { 0 = get_or g.sources j 0 }

abbrev pub target : ProcessGraph → ℕ → Event
target g j = record { 0 = get_or g.targets j 0 }

abbrev pub least : ProcessGraph → ℕ → ℤ
least g j = get_or g.leasts j (pos 0)

abbrev pub most : ProcessGraph → ℕ → ℤ
most g j = get_or g.mosts j (pos 0)

abbrev pub mark : ProcessGraph → ℕ → ℕ
mark g j = get_or g.marks j 0

abbrev pub start_least : ProcessGraph → ℕ → ℤ
start_least g j = get_or g.start_leasts j (pos 0)

abbrev pub start_most : ProcessGraph → ℕ → ℤ
start_most g j = get_or g.start_mosts j (pos 0)

-- "Occurrence k of event i, k from 0 to K − 1, has number 1 + k × p + i"
abbrev pub occurrence : ProcessGraph → ℕ → Event → Occurrence
occurrence g k u = record { 0 = 1 + k * g.events + u.0 }

-- "E = {u_k | u ∈ E', k ≥ 0} ∪ {root}"
pub data Node : Type 0 where
  root : Node
  at : Occurrence → Node

abbrev pub number : Node → ℕ
number root = 0
number (at o) = o.0

-- the three cases of 01, the last with the start interval of 02
pub data Instance (g : ProcessGraph) (k j : ℕ) : Node → Node → ℤ → ℤ → Type 0 where
  -- "mark 0: from occurrence k of the source to occurrence k of the target, [d, D]"
  together : mark g j ≡ 0 → Instance g k j (at (occurrence g k (source g j))) (at (occurrence g k (target g j))) (least g j) (most g j)
  -- "mark 1 and k ≥ 1: from occurrence k − 1 of the source to occurrence k of the target, [d, D]"
  onward : (before : ℕ) → mark g j ≡ 1 → k ≡ suc before → Instance g k j (at (occurrence g before (source g j))) (at (occurrence g k (target g j))) (least g j) (most g j)
  -- "mark 1 and k = 0: a start rule from the root to occurrence 0 of the target"; 02: "its own start interval, used in its start rule in place of [0, 0]"
  start : mark g j ≡ 1 → k ≡ 0 → Instance g k j root (at (occurrence g k (target g j))) (start_least g j) (start_most g j)

-- "Rules are written for k = 0, then 1, and so on; within one k, one rule per template", up to K − 1
pub record Rules (g : ProcessGraph) (K : ℕ) (u v : Node) (d D : ℤ) : Type 0 where
  pub k : ℕ
  pub k_below : k < K
  pub template : ℕ
  pub is_template : template < templates g
  pub instance : Instance g k template u v d D

-- report, section 2.2: "R = {⟨u_k, v_{k+ε}, [d, D]⟩ | ⟨u, v, [d, D], ε⟩ ∈ R', k ≥ 0} ∪ {⟨root, v_0, [d, D]⟩ | ⟨u, v, [d, D], 1⟩ ∈ R'}". Cut off at K: of these
-- rules the ones that lead to an occurrence below K. The marks of g are ε, its templates R'
pub data R (g : ProcessGraph) (K : ℕ) : Node → Node → ℤ → ℤ → Type 0 where
  -- "instantiating each rule template of R' at each occurrence index"
  instantiated : (j k : ℕ) → j < templates g → k + mark g j < K → R g K (at (occurrence g k (source g j))) (at (occurrence g (k + mark g j) (target g j))) (least g j) (most g j)
  -- "special startup rules for each rule in R' with ε = 1. The delay values for these rules are additional inputs": the start intervals
  startup : (j : ℕ) → j < templates g → mark g j ≡ 1 → 0 < K → R g K root (at (occurrence g 0 (target g j))) (start_least g j) (start_most g j)
