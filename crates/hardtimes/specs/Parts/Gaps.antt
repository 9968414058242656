-- A rule binds both ways: its target comes at most its most delay after its source, and its source at most −(its least delay) after its target. Each of the
-- two is an arc, and times meet the rules where they meet every arc.
--     Arc g a b w          == by some rule, b comes at most w after a
--     MeetsArcs g x        == the numbers x meet every arc: whatever is added to all of them, they do
--     LatestGaps g s x     == x meets every arc, is 0 at s, and is passed by no hard times: x v is the greatest t(v) − t(s) over all of them
-- Assumes nothing.
use Rattle.std.specs.Prelude.{◌≡◌, ℕ, ◌<◌, ℤ, pos, neg_ℤ, ◌+ℤ◌, ◌-ℤ◌, ◌≤ℤ◌}
use Rattle.graphs.specs.Graph.{Graph, rules, source, target, least, most}
use Rattle.hardtimes.specs.HardTimes.{HardTimes}

pub data Arc (g : Graph) : ℕ → ℕ → ℤ → Type 0 where
  forth : (i : ℕ) → i < rules g → Arc g (source g i) (target g i) (most g i)
  back : (i : ℕ) → i < rules g → Arc g (target g i) (source g i) (neg_ℤ (least g i))

pub record MeetsArcs (g : Graph) (x : ℕ → ℤ) : Type 0 where
  pub meets : {a b : ℕ} {w : ℤ} → Arc g a b w → x b ≤ℤ (x a +ℤ w)

pub record LatestGaps (g : Graph) (s : ℕ) (x : ℕ → ℤ) : Type 0 where
  pub arcs : MeetsArcs g x
  pub bound : (v : ℕ) → v < g.events → (time : ℕ → ℤ) → HardTimes g time → (time v -ℤ time s) ≤ℤ x v
  pub at_s : x s ≡ pos 0
