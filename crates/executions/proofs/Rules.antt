-- What an execution says of a rule and of a path.
--     KeepsLeast g time     every rule's target is at least its least delay after its source
--     Reaches g time v      some rule into v has its most delay end no earlier than v
--     keeps_least           so it is in an execution of a sound graph
--     path_bound            then the end of a path is at least the sum of its least delays after its start
-- Assumes nothing.
use mathlib.Core.Path.{◌≡◌, refl, ap}
use Prim.Native.Nat.{ℕ, ◌<◌}
use lib.IntN.{ℤ, pos, ◌+ℤ◌}
use lib.Signed.{◌≤ℤ◌}
use Rattle.integers.proofs.Integer.{linear, sum}
use Rattle.graphs.specs.Graph.{Graph, rules, source, target, least, most}
use Rattle.graphs.specs.Path.{Path, least_sum}
use Rattle.graphs.specs.Path.Path.{stay, step}
use Rattle.graphs.specs.Limits.{SoundGraph}
use Rattle.graphs.proofs.Greatest.{root_has_no_rule}
use Rattle.executions.specs.Execution.{Execution}

pub record KeepsLeast (g : Graph) (time : ℕ → ℤ) : Type 0 where
  pub keeps : (i : ℕ) → i < rules g → (time (source g i) +ℤ least g i) ≤ℤ time (target g i)

pub record Reaches (g : Graph) (time : ℕ → ℤ) (v : ℕ) : Type 0 where
  pub rule : ℕ
  pub is_rule : rule < rules g
  pub into : target g rule ≡ v
  pub late : time v ≤ℤ (time (source g rule) +ℤ most g rule)

module _ {g : Graph} (sound : SoundGraph g) where
  pub target_is_other : (i : ℕ) → i < rules g → target g i ≡ 0 → ⊥
  target_is_other i h e = root_has_no_rule sound i h e

  pub keeps_least : {delay time : ℕ → ℤ} → Execution g delay time → KeepsLeast g time
  keeps_least {delay} {time} x = record { keeps = at }
    where
      at : (i : ℕ) → i < rules g → (time (source g i) +ℤ least g i) ≤ℤ time (target g i)
      at i h =
          let after : (time (source g i) +ℤ delay i) ≤ℤ time (target g i) =
          (x.others (target g i) (sound.ends i h).target_known (target_is_other i h)).bound i h refl
          in
          omega (linear, after, x.from_least i h, sum (time (source g i)) (delay i), sum (time (source g i)) (least g i))

pub path_bound : {g : Graph} {time : ℕ → ℤ} → KeepsLeast g time → {v w : ℕ} (p : Path g v w) → (time v +ℤ least_sum p) ≤ℤ time w
path_bound {g} {time} k {v} stay = omega (linear, sum (time v) (pos 0))
path_bound {g} {time} k (step {u} {v} {w} i h e f p) =
    let rest : (time v +ℤ least_sum p) ≤ℤ time w = path_bound k p in
    omega (
      linear,
      rest,
      k.keeps i h,
      ap time e,
      ap time f,
      sum (time u) (least g i +ℤ least_sum p),
      sum (least g i) (least_sum p),
      sum (time (source g i)) (least g i),
      sum (time v) (least_sum p),
    )
