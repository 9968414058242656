-- What the rounds end with.
--     Starts g s xs           == the numbers that the rounds start from: no hard times are above them, against s, and that of s is not above 0
--     Settled g old new r     == from such numbers, r says whether there are hard times, and then new holds the latest gaps
--     GapsFound g s t xs d    == what an answer that is no refusal stands for
--     GapsGiven g s t xs x    == so x is no refusal, and d it holds
--     GapsAnswered g s t xs x == the refusals of the analysis and 10, or the latest gaps against s in the list and the depths of s and t
--     EndsAnswered g s t xs a == the whole answer, and the latest gaps in the list
-- `LatestGaps` is in hardtimes/specs/Parts/Gaps.antt. Assumes nothing.
use Rattle.std.specs.Prelude.{◌≡◌, Result, Ok, Err, Bool, true, false, List, ℕ, ◌<◌, ℤ, pos, ◌-ℤ◌, ◌≤ℤ◌}
use Rattle.graphs.specs.Graph.{Graph}
use Rattle.graphs.specs.Path.{Depth}
use Rattle.graphs.specs.Limits.{EventGraph}
use Rattle.refusals.specs.declared.Refusal.{Refusal}
use Rattle.refusals.specs.Numbers.{number_in, place_in}
use Rattle.analysis.specs.declared.Depths.{Depths}
use Rattle.hardtimes.specs.HardTimes.{HardTimes, NoHardTimes}
use Rattle.hardtimes.specs.Parts.Gaps.{LatestGaps}
use Rattle.separation.specs.Promise.{at}
use Rattle.deadlines.specs.declared.HardAnswer.{HardAnswer}
use Rattle.deadlines.specs.Promise.{HardVerdict, HardAnswered}
use Rattle.deadlines.specs.Parts.Rounds.{NumbersWithin}

pub record Starts (g : Graph) (s : ℕ) (xs : List ℤ) : Type 0 where
  pub is_event : s < g.events
  pub bound : (v : ℕ) → v < g.events → (time : ℕ → ℤ) → HardTimes g time → (time v -ℤ time s) ≤ℤ at xs v
  pub not_late : at xs s ≤ℤ pos 0

pub record Settled (g : Graph) (old new : List ℤ) (r : Bool) : Type 0 where
  pub gaps : (s : ℕ) → Starts g s old → r ≡ true → LatestGaps g s (at new)
  pub none : (s : ℕ) → Starts g s old → r ≡ false → NoHardTimes g
  pub within : NumbersWithin g.events new

pub record GapsFound (g : Graph) (s t : ℕ) (xs : List ℤ) (d : Depths) : Type 0 where
  pub graph : EventGraph 1000000 g
  pub source_known : s < g.events
  pub target_known : t < g.events
  pub gaps : LatestGaps g s (at xs)
  pub within : NumbersWithin g.events xs
  pub depth_of_source : Depth g s d.source
  pub depth_of_target : Depth g t d.target

abbrev pub GapsGiven : Graph → ℕ → ℕ → List ℤ → Result Depths Refusal → Type 0
GapsGiven g s t xs (Ok d) = GapsFound g s t xs d
GapsGiven g s t xs (Err r) = Unit {0}

pub record GapsAnswered (g : Graph) (s t : ℕ) (xs : List ℤ) (x : Result Depths Refusal) : Type 0 where
  pub verdict : HardVerdict g s t ⊥ (number_in x) (place_in x)
  pub found : GapsGiven g s t xs x

pub record EndsAnswered (g : Graph) (s t : ℕ) (xs : List ℤ) (a : HardAnswer) : Type 0 where
  pub answer : HardAnswered g s t ⊥ a
  pub gaps : a.refusal ≡ 0 → LatestGaps g s (at xs)
  pub within : a.refusal ≡ 0 → NumbersWithin g.events xs
