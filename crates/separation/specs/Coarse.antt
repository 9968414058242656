-- The promise of the coarse form. Document 01, sections "Coarse form" and "Refusal numbers"; demand 3, second sentence.
--     CoarseVerdict g q s t   == the refusals 21, 22, 2, 3, 4, 9, 5, 6, in this order
--     CoarseFound g q s t a   == the values of an answer that is no refusal
--     CoarseAnswered g q s t a == a is the answer: the verdict's number and place, and the values where nothing is refused
-- `StepOutside`, refusal 9, is in rounding/specs/Promise.antt. That the answer is never below the exact maximum, and how far above it may be, is proved in proofs/CoarsePromises.antt. Assumes nothing.
use Rattle.std.specs.Prelude.{◌≡◌, ◌∷◌, ℕ, ◌<◌, ◌≤◌}
use Rattle.graphs.specs.Graph.{Graph}
use Rattle.graphs.specs.Path.{Depth}
use Rattle.graphs.specs.Limits.{EventGraph}
use Rattle.verdicts.specs.Verdict.{check, FirstOf}
use Rattle.graphs.specs.Refusal.{path_checks}
use Rattle.rounding.specs.Rounding.{CoarseSeparation}
use Rattle.rounding.specs.Promise.{StepOutside}
use Rattle.separation.specs.declared.Answer.{Answer}
use Rattle.separation.specs.Promise.{InputVerdict, Nothing}

-- "analysis 1, 2, 3, 4, 9 (coarse form only), 5, 6", with "21, 22, 24, 23 where 1 stood"; no list is lent
abbrev pub CoarseVerdict : Graph → ℕ → ℕ → ℕ → ℕ → ℕ → Type 0
CoarseVerdict g q s t = InputVerdict g s t ⊥ (FirstOf (check 9 (StepOutside q) ∷ path_checks g))

-- "The answer is the separation of the rounded graph, in ticks"; the depths are those of s and t
pub record CoarseFound (g : Graph) (q s t : ℕ) (a : Answer) : Type 0 where
  pub graph : EventGraph 1000000 g
  pub source_known : s < g.events
  pub target_known : t < g.events
  pub step_positive : 1 ≤ q
  pub step_small : q ≤ 1000
  pub greatest : CoarseSeparation q g s t a.separation
  pub depth_of_source : Depth g s a.source_depth
  pub depth_of_target : Depth g t a.target_depth

pub record CoarseAnswered (g : Graph) (q s t : ℕ) (a : Answer) : Type 0 where
  pub verdict : CoarseVerdict g q s t a.refusal a.place
  pub found : a.refusal ≡ 0 → CoarseFound g q s t a
  pub nothing : (a.refusal ≡ 0 → ⊥) → Nothing a
