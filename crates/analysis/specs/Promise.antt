-- The promise of the analysis: the refusals of a question, or U of every event and the depths of both ends. Document 01, sections "Executions",
-- "Steps" and "Refusal numbers".
--     AnalysisVerdict limit g s t Short == the refusals 21, 22, 23 and 2 to 6, in 01's order; Short says when the lent list is too short
--     AnalysisFound b g s t us₀ us d    == what an answer that is no refusal holds: the lent list, which held us₀, holds U, and d the depths
--     AnalysisOutcome b g s t us₀ us x  == x is such an answer; or a refusal, and the lent list holds what it held
--     Analysed limit g s t us₀ us x     == the answer, and what the lent list holds after
-- `delay_limit` is in refusals/specs/Question.antt: delays go up to the limit that the caller names, and never beyond 1,001,000. 2,050,048,000 is
-- 2 · 1024 · 1001000: m takes up to 1024 delays and U up to 1024 more. Assumes nothing.
use Rattle.std.specs.Prelude.{◌≡◌, Result, Ok, Err, List, ℕ, ◌<◌, ℤ, pos, length, get_or, drop}
use Rattle.integers.specs.Within.{Within}
use Rattle.verdicts.specs.Verdict.{FirstThen, FirstOf}
use Rattle.graphs.specs.Graph.{Graph}
use Rattle.graphs.specs.Path.{Depth}
use Rattle.graphs.specs.Limits.{EventGraph}
use Rattle.graphs.specs.Refusal.{question_checks_to, path_checks}
use Rattle.refusals.specs.Question.{delay_limit}
use Rattle.executions.specs.Steps.{U}
use Rattle.refusals.specs.Numbers.{number_in, place_in}
use Rattle.refusals.specs.declared.Refusal.{Refusal}
use Rattle.analysis.specs.declared.Depths.{Depths}

-- "analysis 1, 2, 3, 4, … 5, 6"; 02, wish 3: "21, 22, 24, 23 where 1 stood"
abbrev pub AnalysisVerdict : ℕ → Graph → ℕ → ℕ → Type 0 → ℕ → ℕ → Type 0
AnalysisVerdict limit g s t Short = FirstThen (question_checks_to (delay_limit limit) g s t Short) (FirstOf (path_checks g))

-- "U(v) is the lesser of m(v) and the greatest U(source) + D"; "An answer carries the depths of s and t"; "places beyond keep what they held"
pub record AnalysisFound (b : ℕ) (g : Graph) (s t : ℕ) (us₀ us : List ℤ) (d : Depths) : Type 0 where
  pub graph : EventGraph b g
  pub source_known : s < g.events
  pub target_known : t < g.events
  pub steps : U g s (λ v. get_or us v (pos 0))
  pub within : (v : ℕ) → v < g.events → Within 2050048000 (get_or us v (pos 0))
  pub beyond : drop g.events us ≡ drop g.events us₀
  pub depth_of_source : Depth g s d.source
  pub depth_of_target : Depth g t d.target

-- refused, "every lent list keeps its contents"
abbrev pub AnalysisOutcome : ℕ → Graph → ℕ → ℕ → List ℤ → List ℤ → Result Depths Refusal → Type 0
AnalysisOutcome b g s t us₀ us (Ok d) = AnalysisFound b g s t us₀ us d
AnalysisOutcome b g s t us₀ us (Err r) = us ≡ us₀

pub record Analysed (limit : ℕ) (g : Graph) (s t : ℕ) (us₀ us : List ℤ) (x : Result Depths Refusal) : Type 0 where
  pub verdict : AnalysisVerdict limit g s t (length us₀ < g.events) (number_in x) (place_in x)
  pub outcome : AnalysisOutcome (delay_limit limit) g s t us₀ us x
  pub same_length : length us ≡ length us₀
