-- What an execution is, in the two readings of document 01, section "Executions"; report, section 2.2 and equation (1).
--     Execution g delay time   == rule i takes delay i, and event v happens at time v: the reading by delays
--     Bounded g time           == the same times, told by bounds and no delays
-- That the two admit the same times is proved in proofs/Readings.antt. Assumes nothing.
use Rattle.std.specs.Prelude.{◌≡◌, ℕ, ◌<◌, ℤ, pos, ◌+ℤ◌, ◌≤ℤ◌}
use Rattle.graphs.specs.Graph.{Graph, rules, source, least, most, Greatest}

-- "Each rule takes one delay from d to D. The root is at time 0. Every other event is at the greatest value of (time of source + delay taken) over
-- its incoming rules."
pub record Execution (g : Graph) (delay time : ℕ → ℤ) : Type 0 where
  pub from_least : (i : ℕ) → i < rules g → least g i ≤ℤ delay i
  pub to_most : (i : ℕ) → i < rules g → delay i ≤ℤ most g i
  pub root : time 0 ≡ pos 0
  pub others : (v : ℕ) → v < g.events → (v ≡ 0 → ⊥) → Greatest g v (λ i. time (source g i) +ℤ delay i) (time v)

-- "for each event other than the root, the greatest (time of source + d) ≤ its time ≤ the greatest (time of source + D)"
pub record Between (g : Graph) (time : ℕ → ℤ) (v : ℕ) : Type 0 where
  pub earliest : ℤ
  pub earliest_greatest : Greatest g v (λ i. time (source g i) +ℤ least g i) earliest
  pub latest : ℤ
  pub latest_greatest : Greatest g v (λ i. time (source g i) +ℤ most g i) latest
  pub after : earliest ≤ℤ time v
  pub before : time v ≤ℤ latest

pub record Bounded (g : Graph) (time : ℕ → ℤ) : Type 0 where
  pub root : time 0 ≡ pos 0
  pub others : (v : ℕ) → v < g.events → (v ≡ 0 → ⊥) → Between g time v
