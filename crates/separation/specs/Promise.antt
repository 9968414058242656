-- The promises of the public functions. Document 01, sections "Executions" and "Refusal numbers"; demands 1 and 2; 02, wish 3.
--     ShortLists g times delays == a lent list is too short: "The time list needs n places, the delay list r places"
--     InputVerdict g s t Short Rest == refusals 21, 22, 23, 2, 3, 4, in this order, then Rest; Short says when a lent list is too short
--     PathVerdict g             == refusals 5 and 6
--     Verdict g s t Short       == all these refusals
--     Found g s t a, Nothing a  == the values of an answer that is none, and of one that is a refusal
--     Answered g s t Short a    == a is the answer: the verdict's number and place, and the values where nothing is refused
--     at xs v                   == what stands at place v of a list of times or delays
--     Written g s a times₀ delays₀ times delays == what the two lent lists, which held times₀ and delays₀, hold after
-- A reader of the promises needs this file, the files of graphs/specs and executions/specs that it names, and Coarse.antt. Assumes nothing.
use Rattle.std.specs.Prelude.{◌≡◌, ◌⊎◌, List, ℕ, ◌<◌, ℤ, pos, length, get_or, drop}
use Rattle.graphs.specs.Graph.{Graph, rules}
use Rattle.graphs.specs.Path.{Depth}
use Rattle.graphs.specs.Limits.{EventGraph}
use Rattle.verdicts.specs.Verdict.{FirstThen, FirstOf}
use Rattle.graphs.specs.Refusal.{question_checks, path_checks}
use Rattle.executions.specs.Separation.{Separation}
use Rattle.executions.specs.Schedule.{Schedule}
use Rattle.separation.specs.declared.Answer.{Answer}

abbrev pub ShortLists : Graph → List ℤ → List ℤ → Type 0
ShortLists g times delays = (length times < g.events) ⊎ (length delays < rules g)

-- "analysis 1, 2, 3, 4, … 5, 6", with "21, 22, 24, 23 where 1 stood" (02, wish 3): the refusals of what is handed in, which leave the rest to Rest, and those of the paths
abbrev pub InputVerdict : Graph → ℕ → ℕ → Type 0 → (ℕ → ℕ → Type 0) → ℕ → ℕ → Type 0
InputVerdict g s t Short Rest = FirstThen (question_checks g s t Short) Rest

abbrev pub PathVerdict : Graph → ℕ → ℕ → Type 0
PathVerdict g = FirstOf (path_checks g)

abbrev pub Verdict : Graph → ℕ → ℕ → Type 0 → ℕ → ℕ → Type 0
Verdict g s t Short = InputVerdict g s t Short (PathVerdict g)

-- "the answer is the greatest t(t) − t(s) over all executions … An answer carries the depths of s and t"
pub record Found (g : Graph) (s t : ℕ) (a : Answer) : Type 0 where
  pub graph : EventGraph 1000000 g
  pub source_known : s < g.events
  pub target_known : t < g.events
  pub greatest : Separation g s t a.separation
  pub depth_of_source : Depth g s a.source_depth
  pub depth_of_target : Depth g t a.target_depth

-- "A refusal returns its number and place, separation 0, depths 0"
pub record Nothing (a : Answer) : Type 0 where
  pub no_separation : a.separation ≡ pos 0
  pub no_source_depth : a.source_depth ≡ 0
  pub no_target_depth : a.target_depth ≡ 0

pub record Answered (g : Graph) (s t : ℕ) (Short : Type 0) (a : Answer) : Type 0 where
  pub verdict : Verdict g s t Short a.refusal a.place
  pub found : a.refusal ≡ 0 → Found g s t a
  pub nothing : (a.refusal ≡ 0 → ⊥) → Nothing a

abbrev pub at : List ℤ → ℕ → ℤ
at xs v = get_or xs v (pos 0)

-- "places beyond keep what they held"; refused, "every lent list keeps its contents"
pub record Written (g : Graph) (s : ℕ) (a : Answer) (times₀ delays₀ times delays : List ℤ) : Type 0 where
  pub schedule : a.refusal ≡ 0 → Schedule g s (at delays) (at times)
  pub times_beyond : a.refusal ≡ 0 → drop g.events times ≡ drop g.events times₀
  pub delays_beyond : a.refusal ≡ 0 → drop (rules g) delays ≡ drop (rules g) delays₀
  pub times_kept : (a.refusal ≡ 0 → ⊥) → times ≡ times₀
  pub delays_kept : (a.refusal ≡ 0 → ⊥) → delays ≡ delays₀
  pub times_length : length times ≡ length times₀
  pub delays_length : length delays ≡ length delays₀
