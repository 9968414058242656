-- What hard times are, seen as an execution.
--     hard_executes       hard times, with the differences as delays, are an execution
--     hard_not_above      so the greatest separation over hard times is never above the ordinary one
--     hard_gap            nor is any of theirs
--     hard_within         and they have 01's sizes
-- Every rule reaches its target exactly, so the time of an event is the greatest arrival, whichever rule is looked at. Assumes nothing.
use mathlib.Core.Path.{◌≡◌, ap}
use Prim.Native.Nat.{ℕ, ◌*◌, ◌<◌}
use lib.IntN.{ℤ, ◌+ℤ◌, ◌-ℤ◌}
use lib.Signed.{◌≤ℤ◌}
use Rattle.integers.specs.Within.{Within}
use Rattle.integers.proofs.Integer.{linear, sum, difference}
use Rattle.graphs.specs.Graph.{Graph, source, target, Greatest}
use Rattle.graphs.specs.Limits.{SoundGraph, EventGraph}
use Rattle.graphs.proofs.Limits.{sound_of}
use Rattle.graphs.proofs.Greatest.{incoming}
use Rattle.executions.specs.Execution.{Execution}
use Rattle.executions.specs.Separation.{Separation}
use Rattle.executions.proofs.Sizes.{gap_within}
use Rattle.hardtimes.specs.HardTimes.{HardTimes, HardSeparation}

abbrev pub delays_of : Graph → (ℕ → ℤ) → ℕ → ℤ
delays_of g time i = time (target g i) -ℤ time (source g i)

arrival : (g : Graph) (time : ℕ → ℤ) (i : ℕ) → time (source g i) +ℤ delays_of g time i ≡ time (target g i)
arrival g time i =
    omega (linear, sum (time (source g i)) (delays_of g time i), difference (time (target g i)) (time (source g i)))

pub hard_executes : {g : Graph} {time : ℕ → ℤ} → SoundGraph g → HardTimes g time → Execution g (delays_of g time) time
hard_executes {g} {time} sound hard =
    record { from_least = hard.from_least; to_most = hard.to_most; root = hard.root; others = at }
  where
    at : (v : ℕ) → v < g.events → (v ≡ 0 → ⊥) → Greatest g v (λ i. time (source g i) +ℤ delays_of g time i) (time v)
    at v h n =
        let (i, l, to) = incoming sound h n in
        record {
          reached = (i, l, to, omega (linear, arrival g time i, ap time to));
          bound = λ j k into. omega (linear, arrival g time j, ap time into);
        }

pub hard_gap : {g : Graph} → SoundGraph g → {s t : ℕ} {y : ℤ} → Separation g s t y → {time : ℕ → ℤ} → HardTimes g time → (time t -ℤ time s) ≤ℤ y
hard_gap {g} sound a {time} hard = a.bound (delays_of g time) time (hard_executes sound hard)

-- "the ordinary maximum is never below"
pub hard_not_above : {g : Graph} → SoundGraph g → {s t : ℕ} {x y : ℤ} → HardSeparation g s t x → Separation g s t y → x ≤ℤ y
hard_not_above sound a b =
    let (time, hard, same) = a.reached in
    omega (linear, same, hard_gap sound b hard)

pub hard_within : {b : ℕ} {g : Graph} → EventGraph b g → {s t : ℕ} → s < g.events → t < g.events → {time : ℕ → ℤ} → HardTimes g time → Within (2046 * b) (time t -ℤ time s)
hard_within eg {s} {t} hs ht hard = gap_within eg.sized eg.acyclic (hard_executes (sound_of eg) hard) s t hs ht
