-- The separation of two events. Document 01, section "Executions", "Separation"; report, section 2.3.
--     Separation g s t x        == x is the greatest t(t) − t(s) over all executions of g
--     LeastSeparation g s t x   == x is the least of them
--     SameRules g h             == g and h have the same events and, rule by rule, the same source and target
--     Near e a b                == a and b differ by at most e
--     DelaysNear e g h          == "no least and no most delay differing by more than e"
-- Assumes nothing.
use Rattle.std.specs.Prelude.{◌≡◌, ℕ, ◌<◌, ℤ, pos, ◌+ℤ◌, ◌-ℤ◌, ◌≤ℤ◌}
use Rattle.graphs.specs.Graph.{Graph, rules, least, most}
use Rattle.executions.specs.Execution.{Execution}

-- "the answer is the greatest t(t) − t(s) over all executions"
pub record Separation (g : Graph) (s t : ℕ) (x : ℤ) : Type 0 where
  pub reached : (delay : ℕ → ℤ) × (time : ℕ → ℤ) × Execution g delay time × (time t -ℤ time s ≡ x)
  pub bound : (delay time : ℕ → ℤ) → Execution g delay time → (time t -ℤ time s) ≤ℤ x

-- "The least value"
pub record LeastSeparation (g : Graph) (s t : ℕ) (x : ℤ) : Type 0 where
  pub reached : (delay : ℕ → ℤ) × (time : ℕ → ℤ) × Execution g delay time × (time t -ℤ time s ≡ x)
  pub bound : (delay time : ℕ → ℤ) → Execution g delay time → x ≤ℤ (time t -ℤ time s)

-- demand 3: "Two … graphs with the same events and rules"
pub record SameRules (g h : Graph) : Type 0 where
  pub events_same : h.events ≡ g.events
  pub sources_same : h.sources ≡ g.sources
  pub targets_same : h.targets ≡ g.targets

pub record Near (e : ℕ) (a b : ℤ) : Type 0 where
  pub not_above : a ≤ℤ (b +ℤ pos e)
  pub not_below : b ≤ℤ (a +ℤ pos e)

pub record DelaysNear (e : ℕ) (g h : Graph) : Type 0 where
  pub leasts_near : (i : ℕ) → i < rules g → Near e (least g i) (least h i)
  pub mosts_near : (i : ℕ) → i < rules g → Near e (most g i) (most h i)
