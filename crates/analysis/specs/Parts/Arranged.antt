-- What the parts of the analysis hand to one another.
--     Computed g s t us₀ us d       == the graph has no cycle and every event is reachable; us holds U, and d both depths
--     PathsOutcome g s t us₀ us x   == x is an answer, and it and us hold what was computed; or x is a refusal, and us is as it was
--     PathsAnalysed g s t us₀ us x  == x is refusal 5 or 6, or such an answer
--     InputKept limit g s t         == none of the refusals 21, 22 and 2 to 4 applies
-- Assumes nothing.
use Rattle.std.specs.Prelude.{◌≡◌, Result, Ok, Err, List, ℕ, ◌<◌, ℤ}
use Rattle.verdicts.specs.Verdict.{FirstOf}
use Rattle.graphs.specs.Graph.{Graph}
use Rattle.graphs.specs.Path.{HasCycle, Reachable, Depth}
use Rattle.graphs.specs.Refusal.{question_checks_to, path_checks}
use Rattle.refusals.specs.Question.{delay_limit}
use Rattle.refusals.specs.Numbers.{number_in, place_in}
use Rattle.refusals.specs.declared.Refusal.{Refusal}
use Rattle.analysis.specs.declared.Depths.{Depths}
use Rattle.analysis.specs.Parts.Latest.{LatestFound}

pub record Computed (g : Graph) (s t : ℕ) (us₀ us : List ℤ) (d : Depths) : Type 0 where
  pub acyclic : HasCycle g → ⊥
  pub reachable : (v : ℕ) → v < g.events → Reachable g v
  pub latest : LatestFound g s us₀ us
  pub depth_of_source : Depth g s d.source
  pub depth_of_target : Depth g t d.target

abbrev pub PathsOutcome : Graph → ℕ → ℕ → List ℤ → List ℤ → Result Depths Refusal → Type 0
PathsOutcome g s t us₀ us (Ok d) = Computed g s t us₀ us d
PathsOutcome g s t us₀ us (Err r) = us ≡ us₀

pub record PathsAnalysed (g : Graph) (s t : ℕ) (us₀ us : List ℤ) (x : Result Depths Refusal) : Type 0 where
  pub verdict : FirstOf (path_checks g) (number_in x) (place_in x)
  pub outcome : PathsOutcome g s t us₀ us x

abbrev pub InputKept : ℕ → Graph → ℕ → ℕ → Type 0
InputKept limit g s t = FirstOf (question_checks_to (delay_limit limit) g s t ⊥) 0 0
