-- 01's steps give the greatest separation and the whole latest schedule: demand 2.
--     greatest_delay_of    where times are `Latest`, the lesser of a rule's most delay and the time between its two events is its greatest delay
--     schedule_of          times that are `Latest` and the greatest delays are the schedule, with all that demand 2 says of it
--     separation_of        "The answer is U(t)": U(v) is the greatest separation of v from s
-- What is to be shown stands in Latest.antt and Readings.antt; here it is put together. Assumes nothing.
use mathlib.Core.Path.{◌≡◌, refl, sym, subst}
use Prim.Native.Nat.{ℕ, ◌<◌}
use lib.IntN.{ℤ, ◌+ℤ◌, ◌-ℤ◌}
use lib.Signed.{◌≤ℤ◌}
use Rattle.integers.proofs.Integer.{linear, sum, difference}
use Rattle.graphs.specs.Graph.{Graph, rules, source, target, least, most}
use Rattle.graphs.specs.Limits.{SoundGraph}
use Rattle.executions.specs.Execution.{Execution}
use Rattle.executions.specs.Separation.{Separation}
use Rattle.executions.specs.Steps.{Lesser, U}
use Rattle.executions.specs.Schedule.{Latest, GreatestDelay, Schedule}
use Rattle.executions.proofs.Rules.{KeepsLeast, Reaches}
use Rattle.executions.proofs.Latest.{below_u, u_keeps_least, u_reaches, u_at_s}
use Rattle.executions.proofs.Readings.{lesser_min, greatest_delay, executes}

module _ {g : Graph} (sound : SoundGraph g) {s : ℕ} where
  module _ {time : ℕ → ℤ} (latest : Latest g s time) where
    keeps : KeepsLeast g time
    keeps = record { keeps = at }
      where
        at : (i : ℕ) → i < rules g → (time (source g i) +ℤ least g i) ≤ℤ time (target g i)
        at i h =
            let u : ℕ → ℤ = latest.u in
            let S : ℕ = source g i in
            let T : ℕ = target g i in
            omega (
              linear,
              (u_keeps_least sound latest.steps).keeps i h,
              latest.times S (sound.ends i h).source_known,
              latest.times T (sound.ends i h).target_known,
              sum (u S) (least g i),
              sum (time S) (least g i),
              difference (u S) (u 0),
              difference (u T) (u 0),
            )

    reaches : (v : ℕ) → v < g.events → (v ≡ 0 → ⊥) → Reaches g time v
    reaches v h n =
        let u : ℕ → ℤ = latest.u in
        let r : Reaches g u v = u_reaches sound latest.steps v h n in
        let S : ℕ = source g r.rule in
        record {
          rule = r.rule;
          is_rule = r.is_rule;
          into = r.into;
          late =
              omega (
                linear,
                r.late,
                latest.times v h,
                latest.times S (sound.ends r.rule r.is_rule).source_known,
                sum (u S) (most g r.rule),
                sum (time S) (most g r.rule),
                difference (u v) (u 0),
                difference (u S) (u 0),
              );
        }

    pub greatest_delay_of : {i : ℕ} {x : ℤ} → i < rules g → Lesser (time (target g i) -ℤ time (source g i)) (most g i) x → GreatestDelay g time i x
    greatest_delay_of {i} h lesser = greatest_delay (keeps.keeps i h) (sound.ordered i h) lesser

    module _ (is_event : s < g.events) {delay : ℕ → ℤ} (delays : (i : ℕ) → i < rules g → GreatestDelay g time i (delay i)) where
      execution : Execution g delay time
      execution =
          executes sound (omega (linear, latest.times 0 sound.some_event, difference (latest.u 0) (latest.u 0))) keeps reaches delays

      against_s : (v : ℕ) → v < g.events → time v -ℤ time s ≡ latest.u v
      against_s v h =
          let u : ℕ → ℤ = latest.u in
          omega (
            linear,
            latest.times v h,
            latest.times s is_event,
            u_at_s sound latest.steps is_event,
            difference (u v) (u 0),
            difference (u s) (u 0),
            difference (time v) (time s),
          )

      reached_and_bound : (v : ℕ) → v < g.events → Separation g s v (latest.u v)
      reached_and_bound v h =
          record {
            reached = (delay, time, execution, against_s v h);
            bound = λ delay' time' x. below_u sound latest.steps x v h;
          }

      pub schedule_of : Schedule g s delay time
      schedule_of =
          record {
            times = latest;
            delays = delays;
            execution = execution;
            latest = λ v h. subst (Separation g s v) (sym (against_s v h)) (reached_and_bound v h);
          }

  -- the schedule of u itself, with the lesser delays, reaches u
  pub separation_of : s < g.events → {u : ℕ → ℤ} → U g s u → (v : ℕ) → v < g.events → Separation g s v (u v)
  separation_of is_event {u} steps =
      let times : Latest g s (λ v. u v -ℤ u 0) = record { u = u; steps = steps; times = λ v h. refl } in
      reached_and_bound times is_event
      (λ i h. greatest_delay_of times h (lesser_min ((u (target g i) -ℤ u 0) -ℤ (u (source g i) -ℤ u 0)) (most g i)))
