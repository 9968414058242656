-- What the checks on a process graph find, and what holds once they have passed.
--     ListsKept g                    == the templates are within their limit, and the seven lists have one entry for each
--     ProcessCountsKept g K          == the counts of g and K are within their limits, and the lists are kept
--     process_count_checks g K         == the refusals 21, 22, 24: those of the counts
--     MarkKept ms j, MarkBroken ms j == the offset mark of template j is 0 or 1, or neither
--     StartKept ms es Es j, StartBroken ms es Es j == the start interval of template j is inside where its mark is 1, or its mark is 1 and it is not
--     IntervalsKept …, IntervalsBroken … == the delays of template j and its start interval are kept, or one of the two is not
--     TemplateKept g j, TemplateBroken g j == the same of template j of g
--     ProcessKept g K n              == nothing is refused: the counts, the events and the marks are kept, and n places are enough
--     ProcessChecked g K n a         == a is the answer where the shortest lent list has n places
-- Templates with delays ds and Ds, marks ms and start delays es and Es, K copies. Events and delays are checked as those of a graph, by the crate refusals.
-- Assumes nothing.
use Rattle.std.specs.Prelude.{◌≡◌, ◌⊎◌, List, [], ◌∷◌, ℕ, ◌+◌, ◌*◌, ◌<◌, ◌≤◌, ℤ, length, get_or}
use Rattle.verdicts.specs.Verdict.{Check, check, AtZero}
use Rattle.graphs.specs.Refusal.{EventsOutside}
use Rattle.refusals.specs.Faults.{EndsKnown, DelaysInside, DelaysOutside}
use Rattle.processes.specs.declared.Unfolded.{Unfolded}
use Rattle.processes.specs.Process.{ProcessGraph, templates}
use Rattle.processes.specs.Unfolding.{TemplatesOutside, UnfoldingOutside, UnfoldingAnswered}

pub record ListsKept (g : ProcessGraph) : Type 0 where
  pub few_templates : templates g ≤ 4096
  pub targets_match : length g.targets ≡ templates g
  pub leasts_match : length g.leasts ≡ templates g
  pub mosts_match : length g.mosts ≡ templates g
  pub marks_match : length g.marks ≡ templates g
  pub start_leasts_match : length g.start_leasts ≡ templates g
  pub start_mosts_match : length g.start_mosts ≡ templates g

pub record ProcessCountsKept (g : ProcessGraph) (K : ℕ) : Type 0 where
  pub some_event : 0 < g.events
  pub some_copy : 0 < K
  pub few_occurrences : 1 + g.events * K ≤ 1024
  pub few_rules : templates g * K ≤ 4096
  pub lists : ListsKept g

abbrev pub process_count_checks : ProcessGraph → ℕ → List Check
process_count_checks g K = check 21 (AtZero (EventsOutside 1023 g.events)) ∷ check 22 (AtZero (TemplatesOutside g)) ∷ check 24 (AtZero (UnfoldingOutside g K)) ∷ []

abbrev pub MarkKept : List ℕ → ℕ → Type 0
MarkKept ms j = (get_or ms j 0 ≡ 0) ⊎ (get_or ms j 0 ≡ 1)

pub record MarkBroken (ms : List ℕ) (j : ℕ) : Type 0 where
  pub not_zero : get_or ms j 0 ≡ 0 → ⊥
  pub not_one : get_or ms j 0 ≡ 1 → ⊥

abbrev pub StartKept : List ℕ → List ℤ → List ℤ → ℕ → Type 0
StartKept ms es Es j = get_or ms j 0 ≡ 1 → DelaysInside es Es j

pub record StartBroken (ms : List ℕ) (es Es : List ℤ) (j : ℕ) : Type 0 where
  pub marked : get_or ms j 0 ≡ 1
  pub outside : DelaysOutside es Es j

pub record IntervalsKept (ds Ds : List ℤ) (ms : List ℕ) (es Es : List ℤ) (j : ℕ) : Type 0 where
  pub delays : DelaysInside ds Ds j
  pub start : StartKept ms es Es j

abbrev pub IntervalsBroken : List ℤ → List ℤ → List ℕ → List ℤ → List ℤ → ℕ → Type 0
IntervalsBroken ds Ds ms es Es j = DelaysOutside ds Ds j ⊎ StartBroken ms es Es j

abbrev pub TemplateKept : ProcessGraph → ℕ → Type 0
TemplateKept g = IntervalsKept g.leasts g.mosts g.marks g.start_leasts g.start_mosts

abbrev pub TemplateBroken : ProcessGraph → ℕ → Type 0
TemplateBroken g = IntervalsBroken g.leasts g.mosts g.marks g.start_leasts g.start_mosts

pub record ProcessKept (g : ProcessGraph) (K n : ℕ) : Type 0 where
  pub counts : ProcessCountsKept g K
  pub known : (j : ℕ) → j < templates g → EndsKnown g.events g.sources g.targets j
  pub marked : (j : ℕ) → j < templates g → MarkKept g.marks j
  pub room : templates g * K ≤ n

pub record ProcessChecked (g : ProcessGraph) (K n : ℕ) (a : Unfolded) : Type 0 where
  pub answered : UnfoldingAnswered g K (n < templates g * K) a
  pub kept : a.refusal ≡ 0 → ProcessKept g K n
