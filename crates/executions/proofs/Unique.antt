-- What the definitions say is said of one number, and of one schedule. Each law: two that are allowed are equal.
--     separation_unique, least_unique           the greatest and the least separation
--     u_unique                                  U, for every event
--     latest_unique, greatest_delays_unique     the times and the delays of the whole latest schedule: "Both lists are fixed by this"
--     least_is_exchanged                        "The least value is minus the answer for s and t exchanged"
--     same_event                                s may equal t, and the answer is then 0
-- U is fixed because it is the greatest separation (`separation_of`); the times are fixed by U, and the delays by the times.
-- Assumes nothing.
use mathlib.Core.Path.{◌≡◌, sym}
use Prim.Native.Nat.{ℕ, ◌<◌}
use lib.IntN.{ℤ, pos, neg_ℤ}
use lib.Signed.{◌≤ℤ◌}
use Rattle.integers.proofs.Integer.{linear, sum, difference, negation}
use Rattle.graphs.specs.Graph.{Graph, rules, source, target}
use Rattle.graphs.specs.Limits.{SoundGraph}
use Rattle.executions.specs.Separation.{Separation, LeastSeparation}
use Rattle.executions.specs.Steps.{U}
use Rattle.executions.specs.Schedule.{Latest, GreatestDelay}
use Rattle.executions.proofs.Schedules.{separation_of}

module _ {g : Graph} {s t : ℕ} where
  not_above : {x y : ℤ} → Separation g s t x → Separation g s t y → x ≤ℤ y
  not_above {x} {y} a b =
      let r = a.reached in
      omega (linear, r.3, b.bound r.0 r.1 r.2)

  pub separation_unique : {x y : ℤ} → Separation g s t x → Separation g s t y → x ≡ y
  separation_unique a b = omega (linear, not_above a b, not_above b a)

  pub least_is_exchanged : {x : ℤ} → Separation g t s x → LeastSeparation g s t (neg_ℤ x)
  least_is_exchanged {x} a =
      record {
        reached =
            let r = a.reached in
            (r.0, r.1, r.2, omega (linear, r.3, negation x, difference (r.1 t) (r.1 s), difference (r.1 s) (r.1 t)));
        bound = λ delay time e. omega (linear, a.bound delay time e, negation x, difference (time t) (time s), difference (time s) (time t));
      }

  not_under : {x y : ℤ} → LeastSeparation g s t x → LeastSeparation g s t y → x ≤ℤ y
  not_under {x} {y} a b =
      let r = b.reached in
      omega (linear, r.3, a.bound r.0 r.1 r.2)

  pub least_unique : {x y : ℤ} → LeastSeparation g s t x → LeastSeparation g s t y → x ≡ y
  least_unique a b = omega (linear, not_under a b, not_under b a)

pub same_event : {g : Graph} {s : ℕ} {x : ℤ} → Separation g s s x → x ≡ pos 0
same_event {g} {s} {x} a =
    let r = a.reached in
    omega (linear, r.3, difference (r.1 s) (r.1 s))

-- ---- the whole latest schedule

greatest_delay_not_above : {g : Graph} {time time' : ℕ → ℤ} {i : ℕ} {x y : ℤ} → time (source g i) ≡ time' (source g i) → time (target g i) ≡ time' (target g i) → GreatestDelay g time i x → GreatestDelay g time' i y → x ≤ℤ y
greatest_delay_not_above {g} {time} {time'} {i} {x} {y} es et a b =
    b.greatest x a.from_least a.to_most
    (omega (linear, a.in_time, es, et, sum (time (source g i)) x, sum (time' (source g i)) x))

module _ {g : Graph} (sound : SoundGraph g) {s : ℕ} (is_event : s < g.events) where
  pub u_unique : {u u' : ℕ → ℤ} → U g s u → U g s u' → (v : ℕ) → v < g.events → u v ≡ u' v
  u_unique a a' v h = separation_unique (separation_of sound is_event a v h) (separation_of sound is_event a' v h)

  module _ {time time' : ℕ → ℤ} (a : Latest g s time) (a' : Latest g s time') where
    pub latest_unique : (v : ℕ) → v < g.events → time v ≡ time' v
    latest_unique v h =
        omega (
          linear,
          a.times v h,
          a'.times v h,
          u_unique a.steps a'.steps v h,
          u_unique a.steps a'.steps 0 sound.some_event,
          difference (a.u v) (a.u 0),
          difference (a'.u v) (a'.u 0),
        )

    pub greatest_delays_unique : {delay delay' : ℕ → ℤ} → ((i : ℕ) → i < rules g → GreatestDelay g time i (delay i)) → ((i : ℕ) → i < rules g → GreatestDelay g time' i (delay' i)) → (i : ℕ) → i < rules g → delay i ≡ delay' i
    greatest_delays_unique {delay} {delay'} x y i h =
        let es : time (source g i) ≡ time' (source g i) = latest_unique (source g i) (sound.ends i h).source_known in
        let et : time (target g i) ≡ time' (target g i) = latest_unique (target g i) (sound.ends i h).target_known in
        let one : delay i ≤ℤ delay' i = greatest_delay_not_above es et (x i h) (y i h) in
        let other : delay' i ≤ℤ delay i = greatest_delay_not_above (sym es) (sym et) (y i h) (x i h) in
        omega linear
