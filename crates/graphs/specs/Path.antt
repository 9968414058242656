-- Paths of a graph, and what is said of events by them. Document 01, sections "Event graphs" and "Executions" (Steps, Depth).
--     Path g u v       == a way from event u to event v along rules; the empty way from v to v is one
--     steps p          == how many rules stand on p
--     least_sum p       == the sum of the least delays on p
--     OnCycle g v      == event v lies on a cycle: there is a path from v to itself on which a rule stands
--     HasCycle g       == some event lies on a cycle
--     Reachable g v    == there is a path from the root to v
--     Depth g v k      == k is the greatest number of rules on a path from the root to v
-- Assumes nothing.
use Rattle.std.specs.Prelude.{◌≡◌, ℕ, suc, ◌<◌, ◌≤◌, ℤ, pos, ◌+ℤ◌}
use Rattle.graphs.specs.Graph.{Graph, rules, source, target, least}

pub data Path (g : Graph) : ℕ → ℕ → Type 0 where
  stay : {v : ℕ} → Path g v v
  step : {u v w : ℕ} (i : ℕ) → i < rules g → source g i ≡ u → target g i ≡ v → Path g v w → Path g u w

abbrev pub steps : {g : Graph} {u v : ℕ} → Path g u v → ℕ
steps stay = 0
steps (step i h e f p) = suc (steps p)

-- report, section 2.4: "d(h) is sum of the d values of the edges on the path h"
abbrev pub least_sum : {g : Graph} {u v : ℕ} → Path g u v → ℤ
least_sum stay = pos 0
least_sum {g} (step i h e f p) = least g i +ℤ least_sum p

-- 02, wish 3: an "event that lies on a cycle". "A rule from an event to itself is a cycle"
abbrev pub OnCycle : Graph → ℕ → Type 0
OnCycle g v = (p : Path g v v) × (0 < steps p)

-- "The graph must have no cycle"
abbrev pub HasCycle : Graph → Type 0
HasCycle g = (v : ℕ) × OnCycle g v

-- "every event must be reachable from the root"
abbrev pub Reachable : Graph → ℕ → Type 0
Reachable g v = Path g 0 v

-- "The depth of an event is the greatest number of rules on a path from the root to it"
pub record Depth (g : Graph) (v k : ℕ) : Type 0 where
  pub reached : (p : Path g 0 v) × (steps p ≡ k)
  pub bound : (p : Path g 0 v) → steps p ≤ k
