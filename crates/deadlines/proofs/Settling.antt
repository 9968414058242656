-- The rounds, until nothing changes: where there are hard times, the n-th round changes nothing.
--     Rounded g s k xs        what k rounds leave: no hard times are passed, and an event that at most k exact arcs reach has its latest gap
--     RoundsDone g k old new  so it is of every s that the numbers started from
--     rounds_none, rounds_more     before the first round, and after one more that changed something
--     rounds_settled          a round that changes nothing leaves the latest gaps, or has cut off a number: then there are no hard times
--     rounds_late             nor are there any where n rounds have changed something
-- The idea. The latest gaps y against s, if there are hard times at all, are met exactly along arcs that lead from s to each event, n − 1 at most
-- (`tight_within`). A round carries "at most y" one arc on. So after n − 1 rounds every number is at most y, and not below it, since no hard times are passed:
-- another round can't lower one. Hard times lie above the floor by 01's sizes, so no number that is cut off is one of theirs. Assumes nothing.
use mathlib.Core.Path.{◌≡◌, sym}
use mathlib.Core.Bool.{Bool, true, false, true≢false}
use mathlib.Core.Logic.{⊎_elim}
use mathlib.Core.List.{List}
use Prim.Native.Nat.{ℕ, suc, ◌+◌, ◌<◌, ◌≤◌}
use native.Mathlib.Omega.{arith}
use lib.IntN.{ℤ, pos, neg_ℤ, ◌+ℤ◌, ◌-ℤ◌}
use lib.Signed.{◌≤ℤ◌, ◌<ℤ◌}
use Rattle.integers.proofs.Integer.{linear, sum, difference}
use Rattle.graphs.specs.Graph.{Graph, rules, source, target, least, most}
use Rattle.graphs.specs.Limits.{EventGraph}
use Rattle.graphs.proofs.Limits.{sound_of}
use Rattle.hardtimes.specs.HardTimes.{HardTimes, NoHardTimes}
use Rattle.hardtimes.specs.Parts.Gaps.{Arc, forth, back, LatestGaps}
use Rattle.hardtimes.proofs.Arcs.{arcs_of}
use Rattle.hardtimes.proofs.Rules.{hard_within}
use Rattle.hardtimes.proofs.Gaps.{gap_separation, latest_gaps}
use Rattle.hardtimes.proofs.Lowering.{gaps_exist}
use Rattle.hardtimes.proofs.Tight.{Tight, here, on, tight_within}
use Rattle.separation.specs.Promise.{at}
use Rattle.deadlines.specs.Parts.Rounds.{floor, Below, NumbersWithin, Meets, RulesHeld, FloorChecked}
use Rattle.deadlines.specs.Parts.Gaps.{Starts, Settled}

pub record Rounded (g : Graph) (s k : ℕ) (xs : List ℤ) : Type 0 where
  pub is_event : s < g.events
  pub bound : (v : ℕ) → v < g.events → (time : ℕ → ℤ) → HardTimes g time → (time v -ℤ time s) ≤ℤ at xs v
  pub not_late : at xs s ≤ℤ pos 0
  pub near : (y : ℕ → ℤ) → LatestGaps g s y → (j v : ℕ) → j ≤ k → Tight g s y j v → at xs v ≤ℤ y v
  pub late : k ≡ g.events → NoHardTimes g

pub record RoundsDone (g : Graph) (k : ℕ) (old new : List ℤ) : Type 0 where
  pub few : k ≤ g.events
  pub rounded : (s : ℕ) → Starts g s old → Rounded g s k new
  pub within : NumbersWithin g.events new

module _ {g : Graph} (eg : EventGraph 1000000 g) where
  -- hard times are above the floor
  above_floor : {s v : ℕ} → s < g.events → v < g.events → {time : ℕ → ℤ} → HardTimes g time → floor <ℤ (time v -ℤ time s)
  above_floor hs hv hard = omega (linear, (hard_within eg hs hv hard).above)

  gaps_above : {s v : ℕ} → s < g.events → v < g.events → {y : ℕ → ℤ} → LatestGaps g s y → floor <ℤ y v
  gaps_above hs hv gaps =
      let (time, hard, same) = (gap_separation (sound_of eg) gaps _ hv).reached in
      omega (linear, above_floor hs hv hard, same)

  pub rounds_none : {xs : List ℤ} → NumbersWithin g.events xs → RoundsDone g 0 xs xs
  rounds_none {xs} within =
      record {
        few = omega arith;
        rounded = λ s starts.
            record {
              is_event = starts.is_event;
              bound = starts.bound;
              not_late = starts.not_late;
              near = λ y gaps j v few way. at_start s starts gaps few way;
              late = λ e. absurd (let none : ⊥ = omega (arith, eg.sized.counts.some_event) in none);
            };
        within = within;
      }
    where
      at_start : (s : ℕ) → Starts g s xs → {y : ℕ → ℤ} → LatestGaps g s y → {j v : ℕ} → j ≤ 0 → Tight g s y j v → at xs v ≤ℤ y v
      at_start s starts gaps few here = omega (linear, starts.not_late, gaps.at_s)
      at_start s starts gaps few (on way arc exact) = absurd (let none : ⊥ = omega arith in none)

  -- ---- one round

  module _ {s k : ℕ} {xs ys : List ℤ} {c : Bool} (old : Rounded g s k xs) (round : RulesHeld g (rules g) xs ys c) where
    meets_of : {time : ℕ → ℤ} → HardTimes g time → (i : ℕ) → i < rules g → Meets (λ v. time v -ℤ time s) (source g i) (target g i) (least g i) (most g i)
    meets_of {time} hard i l =
        let S : ℕ = source g i in
        let T : ℕ = target g i in
        let d = difference (time S) (time s) in
        let e = difference (time T) (time s) in
        record {
          forth = omega (linear, (arcs_of hard).meets (forth i l), d, e, sum (time S) (most g i), sum (time S -ℤ time s) (most g i));
          back = omega (linear, (arcs_of hard).meets (back i l), d, e, sum (time T) (neg_ℤ (least g i)), sum (time T -ℤ time s) (neg_ℤ (least g i)));
          source_above = above_floor old.is_event (eg.sized.ends i l).source_known hard;
          target_above = above_floor old.is_event (eg.sized.ends i l).target_known hard;
        }

    bound_kept : (v : ℕ) → v < g.events → (time : ℕ → ℤ) → HardTimes g time → (time v -ℤ time s) ≤ℤ at ys v
    bound_kept v h time hard = round.safe (λ u. time u -ℤ time s) (meets_of hard) (λ u l. old.bound u l time hard) v h

    -- an arc is held, or its end was cut off
    arc_held : {a b : ℕ} {w : ℤ} → Arc g a b w → Below (at ys b) (at xs a +ℤ w)
    arc_held (forth i l) = round.forth i l
    arc_held (back i l) = round.back i l

    near_on : {y : ℕ → ℤ} → LatestGaps g s y → {j v : ℕ} → j ≤ suc k → Tight g s y j v → at ys v ≤ℤ y v
    near_on gaps few here = omega (linear, round.not_raised s, old.not_late, gaps.at_s)
    near_on {y} gaps few (on {a = a} {b = b} {w = w} way arc exact) =
        let before : at xs a ≤ℤ y a = old.near y gaps _ a (omega arith) way in
        ⊎_elim
        (λ (l : at ys b ≤ℤ (at xs a +ℤ w)). omega (linear, before, exact, sum (at xs a) w, sum (y a) w))
        (λ (l : at ys b ≤ℤ floor). omega (linear, gaps_above old.is_event (known arc) gaps))
        (arc_held arc)
      where
        known : {u v : ℕ} {d : ℤ} → Arc g u v d → v < g.events
        known (forth i l) = (eg.sized.ends i l).target_known
        known (back i l) = (eg.sized.ends i l).source_known

    -- a round that lowers a number is not the n-th
    no_more : c ≡ true → suc k ≡ g.events → NoHardTimes g
    no_more changed last time hard =
        let (y, gaps) = gaps_exist eg old.is_event hard in
        let (v, h, less) = round.lowered changed in
        let (j, few, way) = tight_within (sound_of eg) old.is_event gaps v h in
        let (latest, its-hard, same) = (gap_separation (sound_of eg) gaps v h).reached in
        omega (linear, less, bound_kept v h latest its-hard, same, old.near y gaps j v (omega arith) way)

    rounded_more : c ≡ true → Rounded g s (k + 1) ys
    rounded_more changed =
        record {
          is_event = old.is_event;
          bound = bound_kept;
          not_late = omega (linear, round.not_raised s, old.not_late);
          near = λ y gaps j v few way. near_on gaps (omega arith) way;
          late = λ e. no_more changed (omega arith);
        }

  module _ {k : ℕ} {start xs ys : List ℤ} {c : Bool} (done : RoundsDone g k start xs) (round : RulesHeld g (rules g) xs ys c) where
    pub rounds_more : c ≡ true → k < g.events → RoundsDone g (k + 1) start ys
    rounds_more changed l =
        record {
          few = omega arith;
          rounded = λ s starts. rounded_more (done.rounded s starts) round changed;
          within = round.within;
        }

    -- nothing changed: every arc is met where no number is cut off
    pub rounds_settled : c ≡ false → {r : Bool} → FloorChecked g.events ys r → Settled g start ys r
    rounds_settled same {r} floors =
        record {
          gaps = λ s starts above.
              let old : Rounded g s k xs = done.rounded s starts in
              latest_gaps (sound_of eg) old.is_event (record { meets = λ arc. met old (floors.above above) arc })
              (bound_kept old round)
              (omega (linear, round.not_raised s, old.not_late));
          none = λ s starts cut time hard.
              let old : Rounded g s k xs = done.rounded s starts in
              let (v, h, low) = floors.cut_off cut in
              omega (linear, low, bound_kept old round v h time hard, above_floor old.is_event h hard);
          within = round.within;
        }
      where
        met : {s : ℕ} → Rounded g s k xs → ((v : ℕ) → v < g.events → floor <ℤ at ys v) → {a b : ℕ} {w : ℤ} → Arc g a b w → at ys b ≤ℤ (at ys a +ℤ w)
        met old above {a} {b} {w} arc =
            let unchanged : at ys a ≡ at xs a = λ i. at (round.kept same i) a in
            ⊎_elim
            (λ (l : at ys b ≤ℤ (at xs a +ℤ w)). omega (linear, unchanged, sum (at xs a) w, sum (at ys a) w))
            (λ (l : at ys b ≤ℤ floor). absurd (let no : ⊥ = omega (linear, above b (known arc)) in no))
            (arc_held old round arc)
          where
            known : {u v : ℕ} {d : ℤ} → Arc g u v d → v < g.events
            known (forth i l) = (eg.sized.ends i l).target_known
            known (back i l) = (eg.sized.ends i l).source_known

  pub rounds_late : {k : ℕ} {start xs : List ℤ} → RoundsDone g k start xs → g.events ≤ k → Settled g start xs false
  rounds_late done l =
      record {
        gaps = λ s starts e. absurd (true≢false (sym e));
        none = λ s starts _. (done.rounded s starts).late (omega (arith, done.few));
        within = done.within;
      }
