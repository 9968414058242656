-- The promises under hard deadlines. Document 02, request 4: "We want the greatest separation there too, reached by a schedule … Refusals: 10, place 0, exactly
-- if no times meet all rules, after 6."
--     HardVerdict g s t Short   == the refusals of the analysis, in its order, then 10
--     HardFound g s t a         == the values of an answer that is no refusal
--     HardNothing a             == those of a refusal
--     HardAnswered g s t Short a == a is the answer: the verdict's number and place, and the values where nothing is refused
--     HardWritten g s a times₀ delays₀ times delays == what the two lent lists, which held times₀ and delays₀, hold after
-- `ShortLists` and `at` are in separation/specs/Promise.antt. A reader of the promises needs this file, hardtimes/specs/HardTimes.antt and the files of
-- graphs/specs that they name. Assumes nothing.
use Rattle.std.specs.Prelude.{◌≡◌, List, [], ◌∷◌, ℕ, ◌<◌, ℤ, pos, length, drop}
use Rattle.verdicts.specs.Verdict.{check, AtZero, FirstThen, FirstOf}
use Rattle.graphs.specs.Graph.{Graph, rules}
use Rattle.graphs.specs.Path.{Depth}
use Rattle.graphs.specs.Limits.{EventGraph}
use Rattle.graphs.specs.Refusal.{question_checks, path_checks}
use Rattle.hardtimes.specs.HardTimes.{NoHardTimes, HardSeparation, LeastHardSeparation, HardSchedule}
use Rattle.separation.specs.Promise.{at}
use Rattle.deadlines.specs.declared.HardAnswer.{HardAnswer}

-- "10, place 0, exactly if no times meet all rules, after 6"
abbrev pub HardVerdict : Graph → ℕ → ℕ → Type 0 → ℕ → ℕ → Type 0
HardVerdict g s t Short = FirstThen (question_checks g s t Short) (FirstThen (path_checks g) (FirstOf (check 10 (AtZero (NoHardTimes g)) ∷ [])))

-- "the greatest separation there too"; wish 2: "One answer should hold least and most … and the two depths"
pub record HardFound (g : Graph) (s t : ℕ) (a : HardAnswer) : Type 0 where
  pub graph : EventGraph 1000000 g
  pub source_known : s < g.events
  pub target_known : t < g.events
  pub lowest : LeastHardSeparation g s t a.least
  pub greatest : HardSeparation g s t a.most
  pub depth_of_source : Depth g s a.source_depth
  pub depth_of_target : Depth g t a.target_depth

-- "A refused answer holds 0 for both"; 01: "depths 0"
pub record HardNothing (a : HardAnswer) : Type 0 where
  pub no_least : a.least ≡ pos 0
  pub no_most : a.most ≡ pos 0
  pub no_source_depth : a.source_depth ≡ 0
  pub no_target_depth : a.target_depth ≡ 0

pub record HardAnswered (g : Graph) (s t : ℕ) (Short : Type 0) (a : HardAnswer) : Type 0 where
  pub verdict : HardVerdict g s t Short a.refusal a.place
  pub found : a.refusal ≡ 0 → HardFound g s t a
  pub nothing : (a.refusal ≡ 0 → ⊥) → HardNothing a

-- 01: "places beyond keep what they held"; refused, "every lent list keeps its contents"
pub record HardWritten (g : Graph) (s : ℕ) (a : HardAnswer) (times₀ delays₀ times delays : List ℤ) : Type 0 where
  pub schedule : a.refusal ≡ 0 → HardSchedule g s (at delays) (at times)
  pub times_beyond : a.refusal ≡ 0 → drop g.events times ≡ drop g.events times₀
  pub delays_beyond : a.refusal ≡ 0 → drop (rules g) delays ≡ drop (rules g) delays₀
  pub times_kept : (a.refusal ≡ 0 → ⊥) → times ≡ times₀
  pub delays_kept : (a.refusal ≡ 0 → ⊥) → delays ≡ delays₀
  pub times_length : length times ≡ length times₀
  pub delays_length : length delays ≡ length delays₀
