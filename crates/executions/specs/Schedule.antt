-- The whole latest schedule against s. Document 01, section "Executions", "Schedule"; demand 2.
--     Latest g s time         == time v is U(v) − m(root), for every event v
--     GreatestDelay g time i x == x is the greatest delay in rule i's interval that doesn't carry its source past its target's time
--     Schedule g s delay time == both lists of the schedule, as 01's sentence fixes them, and what demand 2 says of them
-- "Both lists are fixed by this": by `times` and `delays` of a Schedule alone (`latest_unique` and `greatest_delays_unique`, proofs/Unique.antt); what demand 2
-- says of them follows (`schedule_of`, proofs/Schedules.antt). Assumes nothing.
use Rattle.std.specs.Prelude.{◌≡◌, ℕ, ◌<◌, ℤ, ◌+ℤ◌, ◌-ℤ◌, ◌≤ℤ◌}
use Rattle.graphs.specs.Graph.{Graph, rules, source, target, least, most}
use Rattle.executions.specs.Execution.{Execution}
use Rattle.executions.specs.Separation.{Separation}
use Rattle.executions.specs.Steps.{U}

-- "event v gets time U(v) − m(root)"; U(root) is m(root)
pub record Latest (g : Graph) (s : ℕ) (time : ℕ → ℤ) : Type 0 where
  pub u : ℕ → ℤ
  pub steps : U g s u
  pub times : (v : ℕ) → v < g.events → time v ≡ u v -ℤ u 0

-- "each rule gets the greatest delay in its interval that doesn't carry its source past its target's time"
pub record GreatestDelay (g : Graph) (time : ℕ → ℤ) (i : ℕ) (x : ℤ) : Type 0 where
  pub from_least : least g i ≤ℤ x
  pub to_most : x ≤ℤ most g i
  pub in_time : (time (source g i) +ℤ x) ≤ℤ time (target g i)
  pub greatest : (y : ℤ) → least g i ≤ℤ y → y ≤ℤ most g i → (time (source g i) +ℤ y) ≤ℤ time (target g i) → y ≤ℤ x

pub record Schedule (g : Graph) (s : ℕ) (delay time : ℕ → ℤ) : Type 0 where
  pub times : Latest g s time
  pub delays : (i : ℕ) → i < rules g → GreatestDelay g time i (delay i)
  -- "The schedule is an execution that reaches it, every event as late against the source as any execution has it"
  pub execution : Execution g delay time
  pub latest : (v : ℕ) → v < g.events → Separation g s v (time v -ℤ time s)
