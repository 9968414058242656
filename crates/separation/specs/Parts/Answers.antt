-- The answer of the analysis, with the separation read off.
--     AnswerFound b g s t us a      == what an answer that is no refusal holds: us holds U, and a its value at t and both depths
--     AnswerAnalysed limit g s t us a == a is one of the refusals, or holds what was found
-- Assumes nothing.
use Rattle.std.specs.Prelude.{◌≡◌, List, ℕ, ◌<◌, ℤ}
use Rattle.integers.specs.Within.{Within}
use Rattle.graphs.specs.Graph.{Graph}
use Rattle.graphs.specs.Path.{Depth}
use Rattle.graphs.specs.Limits.{EventGraph}
use Rattle.refusals.specs.Question.{delay_limit}
use Rattle.executions.specs.Steps.{U}
use Rattle.analysis.specs.Promise.{AnalysisVerdict}
use Rattle.separation.specs.declared.Answer.{Answer}
use Rattle.separation.specs.Promise.{Nothing, at}

pub record AnswerFound (b : ℕ) (g : Graph) (s t : ℕ) (us : List ℤ) (a : Answer) : Type 0 where
  pub graph : EventGraph b g
  pub source_known : s < g.events
  pub target_known : t < g.events
  pub steps : U g s (at us)
  pub within : (v : ℕ) → v < g.events → Within 2050048000 (at us v)
  pub at_target : a.separation ≡ at us t
  pub depth_of_source : Depth g s a.source_depth
  pub depth_of_target : Depth g t a.target_depth

pub record AnswerAnalysed (limit : ℕ) (g : Graph) (s t : ℕ) (us : List ℤ) (a : Answer) : Type 0 where
  pub verdict : AnalysisVerdict limit g s t ⊥ a.refusal a.place
  pub found : a.refusal ≡ 0 → AnswerFound (delay_limit limit) g s t us a
  pub nothing : (a.refusal ≡ 0 → ⊥) → Nothing a
