-- Hard deadlines. Document 02, request 4: "There every rule binds on its own: time of target − time of source lies from d to D, for every rule."
--     HardTimes g time            == the root stands at 0, and the times meet every rule: hard times
--     NoHardTimes g               == no times meet all rules
--     HardSeparation g s t x      == x is the greatest t(t) − t(s) over all hard times of g
--     LeastHardSeparation g s t x == x is the least of them
--     HardSchedule g s delay time == hard times that have every event as late against s as any hard times do, each rule's delay the difference of its two times
--     hard_limit e n               == how far the maxima of two graphs of n events may differ whose delays differ by at most e
-- Hard times are an execution, so the ordinary maximum is never below (`hard_executes`, `hard_not_above`: proofs/Rules.antt). Assumes nothing.
use Rattle.std.specs.Prelude.{◌≡◌, ℕ, ◌-◌, ◌*◌, ◌<◌, ℤ, pos, ◌-ℤ◌, ◌≤ℤ◌}
use Rattle.graphs.specs.Graph.{Graph, rules, source, target, least, most}

-- "time of target − time of source lies from d to D, for every rule"; "the root stands at 0"
pub record HardTimes (g : Graph) (time : ℕ → ℤ) : Type 0 where
  pub root : time 0 ≡ pos 0
  pub from_least : (i : ℕ) → i < rules g → least g i ≤ℤ (time (target g i) -ℤ time (source g i))
  pub to_most : (i : ℕ) → i < rules g → (time (target g i) -ℤ time (source g i)) ≤ℤ most g i

-- "no times meet all rules"
abbrev pub NoHardTimes : Graph → Type 0
NoHardTimes g = (time : ℕ → ℤ) → HardTimes g time → ⊥

-- "We want the greatest separation there too"
pub record HardSeparation (g : Graph) (s t : ℕ) (x : ℤ) : Type 0 where
  pub reached : (time : ℕ → ℤ) × HardTimes g time × (time t -ℤ time s ≡ x)
  pub bound : (time : ℕ → ℤ) → HardTimes g time → (time t -ℤ time s) ≤ℤ x

pub record LeastHardSeparation (g : Graph) (s t : ℕ) (x : ℤ) : Type 0 where
  pub reached : (time : ℕ → ℤ) × HardTimes g time × (time t -ℤ time s ≡ x)
  pub bound : (time : ℕ → ℤ) → HardTimes g time → x ≤ℤ (time t -ℤ time s)

-- "reached by a schedule, with every event as late against s as these bounds allow; … each rule's delay is the difference of its two times"
pub record HardSchedule (g : Graph) (s : ℕ) (delay time : ℕ → ℤ) : Type 0 where
  pub times : HardTimes g time
  pub latest : (v : ℕ) → v < g.events → (other : ℕ → ℤ) → HardTimes g other → (other v -ℤ other s) ≤ℤ (time v -ℤ time s)
  pub delays : (i : ℕ) → i < rules g → delay i ≡ time (target g i) -ℤ time (source g i)

-- "where both graphs have a schedule, the maxima differ by at most e × (n − 1)"
abbrev pub hard_limit : ℕ → ℕ → ℕ
hard_limit e n = e * (n - 1)
