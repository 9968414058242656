-- The latest gaps against s are the greatest separations from s over all hard times, and what the rounds end with.
--     gap_separation       a latest gap is the greatest separation
--     gap_schedule         brought to 0 at the root they are the schedule
--     latest_gaps          numbers that meet every arc and bound all hard times, and are not above 0 at s, are the latest gaps
-- Assumes nothing.
use mathlib.Core.Path.{◌≡◌}
use Prim.Native.Nat.{ℕ, ◌<◌}
use lib.IntN.{ℤ, pos, ◌-ℤ◌}
use lib.Signed.{◌≤ℤ◌}
use Rattle.integers.proofs.Integer.{linear, difference}
use Rattle.graphs.specs.Graph.{Graph, rules, source, target}
use Rattle.graphs.specs.Limits.{SoundGraph}
use Rattle.hardtimes.specs.HardTimes.{HardTimes, HardSeparation, HardSchedule}
use Rattle.hardtimes.specs.Parts.Gaps.{MeetsArcs, LatestGaps}
use Rattle.hardtimes.proofs.Arcs.{hard_of, hard_shifted}

module _ {g : Graph} (sound : SoundGraph g) {s : ℕ} {x : ℕ → ℤ} where
  pub latest_gaps : s < g.events → MeetsArcs g x → ((v : ℕ) → v < g.events → (time : ℕ → ℤ) → HardTimes g time → (time v -ℤ time s) ≤ℤ x v) → x s ≤ℤ pos 0 → LatestGaps g s x
  latest_gaps is_event arcs bound not_late =
      record {
        arcs = arcs;
        bound = bound;
        at_s = omega (linear, not_late, bound s is_event (λ v. x v -ℤ x 0) (hard_of sound.ends sound.some_event arcs), difference (x s -ℤ x 0) (x s -ℤ x 0));
      }

  module _ (gaps : LatestGaps g s x) where
    pub gap_separation : (v : ℕ) → v < g.events → HardSeparation g s v (x v)
    gap_separation v h =
        record {
          reached = (
            λ u. x u -ℤ x 0,
            hard_of sound.ends sound.some_event gaps.arcs,
            omega (linear, gaps.at_s, difference (x v) (x 0), difference (x s) (x 0), difference (x v -ℤ x 0) (x s -ℤ x 0)),
          );
          bound = gaps.bound v h;
        }

    pub gap_schedule : s < g.events → {delay time : ℕ → ℤ} → ((v : ℕ) → v < g.events → time v ≡ x v -ℤ x 0) → ((i : ℕ) → i < rules g → delay i ≡ time (target g i) -ℤ time (source g i)) → HardSchedule g s delay time
    gap_schedule is_event {delay} {time} times delays =
        record {
          times = hard_shifted sound.ends sound.some_event gaps.arcs times;
          latest = λ v h other hard.
              omega (
                linear,
                gaps.bound v h other hard,
                gaps.at_s,
                times v h,
                times s is_event,
                difference (x v) (x 0),
                difference (x s) (x 0),
                difference (time v) (time s),
              );
          delays = delays;
        }
