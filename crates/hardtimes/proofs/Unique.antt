-- What the definitions say of hard times is said of one number, and of one schedule.
--     hard_separation_unique, least_hard_unique    the greatest and the least separation
--     least_hard_exchanged, exchanged_hard         the least is minus the greatest for s and t exchanged, both ways
--     least_not_above                              the least is never above the greatest
--     same_event_hard                              of an event and itself they are 0
--     hard_times_unique, hard_delays_unique        the times and the delays of the schedule
--     hard_schedule_reaches                        and it reaches the greatest separation of every event from s
-- Assumes nothing.
use mathlib.Core.Path.{◌≡◌, refl}
use Prim.Native.Nat.{ℕ, ◌<◌}
use lib.IntN.{ℤ, pos, neg_ℤ, ◌-ℤ◌}
use lib.Signed.{◌≤ℤ◌}
use Rattle.integers.proofs.Integer.{linear, difference, negation}
use Rattle.graphs.specs.Graph.{Graph, rules, source, target}
use Rattle.graphs.specs.Limits.{SoundGraph}
use Rattle.hardtimes.specs.HardTimes.{HardSeparation, LeastHardSeparation, HardSchedule}

module _ {g : Graph} {s t : ℕ} where
  not_above : {x y : ℤ} → HardSeparation g s t x → HardSeparation g s t y → x ≤ℤ y
  not_above a b = let (time, hard, same) = a.reached in omega (linear, same, b.bound time hard)

  pub hard_separation_unique : {x y : ℤ} → HardSeparation g s t x → HardSeparation g s t y → x ≡ y
  hard_separation_unique a b = omega (linear, not_above a b, not_above b a)

  -- "The least value is minus the answer for s and t exchanged"
  pub least_hard_exchanged : {x : ℤ} → HardSeparation g t s x → LeastHardSeparation g s t (neg_ℤ x)
  least_hard_exchanged {x} a =
      let (time, hard, same) = a.reached in
      record {
        reached = (time, hard, omega (linear, same, negation x, difference (time t) (time s), difference (time s) (time t)));
        bound = λ other its. omega (linear, a.bound other its, negation x, difference (other t) (other s), difference (other s) (other t));
      }

  pub exchanged_hard : {x : ℤ} → LeastHardSeparation g s t x → HardSeparation g t s (neg_ℤ x)
  exchanged_hard {x} a =
      let (time, hard, same) = a.reached in
      record {
        reached = (time, hard, omega (linear, same, negation x, difference (time t) (time s), difference (time s) (time t)));
        bound = λ other its. omega (linear, a.bound other its, negation x, difference (other t) (other s), difference (other s) (other t));
      }

  not_under : {x y : ℤ} → LeastHardSeparation g s t x → LeastHardSeparation g s t y → x ≤ℤ y
  not_under a b = let (time, hard, same) = b.reached in omega (linear, same, a.bound time hard)

  pub least_hard_unique : {x y : ℤ} → LeastHardSeparation g s t x → LeastHardSeparation g s t y → x ≡ y
  least_hard_unique a b = omega (linear, not_under a b, not_under b a)

  pub least_not_above : {x y : ℤ} → LeastHardSeparation g s t x → HardSeparation g s t y → x ≤ℤ y
  least_not_above a b = let (time, hard, same) = a.reached in omega (linear, same, b.bound time hard)

pub same_event_hard : {g : Graph} {s : ℕ} {x : ℤ} → HardSeparation g s s x → x ≡ pos 0
same_event_hard {g} {s} a = let (time, hard, same) = a.reached in omega (linear, same, difference (time s) (time s))

-- ---- the schedule

module _ {g : Graph} (sound : SoundGraph g) {s : ℕ} {delay time delay' time' : ℕ → ℤ} (a : HardSchedule g s delay time) (b : HardSchedule g s delay' time') where
  -- each is as late as the other at every event, so also at the root, where both are 0
  pub hard_times_unique : (v : ℕ) → v < g.events → time v ≡ time' v
  hard_times_unique v h =
      omega (
        linear,
        a.latest v h time' b.times,
        b.latest v h time a.times,
        a.latest 0 sound.some_event time' b.times,
        b.latest 0 sound.some_event time a.times,
        a.times.root,
        b.times.root,
        difference (time v) (time s),
        difference (time' v) (time' s),
        difference (time 0) (time s),
        difference (time' 0) (time' s),
      )

  pub hard_delays_unique : (i : ℕ) → i < rules g → delay i ≡ delay' i
  hard_delays_unique i l =
      omega (
        linear,
        a.delays i l,
        b.delays i l,
        hard_times_unique (source g i) (sound.ends i l).source_known,
        hard_times_unique (target g i) (sound.ends i l).target_known,
        difference (time (target g i)) (time (source g i)),
        difference (time' (target g i)) (time' (source g i)),
      )

pub hard_schedule_reaches : {g : Graph} {s : ℕ} {delay time : ℕ → ℤ} → HardSchedule g s delay time → (v : ℕ) → v < g.events → HardSeparation g s v (time v -ℤ time s)
hard_schedule_reaches {time = time} a v h = record { reached = (time, a.times, refl); bound = a.latest v h }
