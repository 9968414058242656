-- The steps of the analysis, as definitions. Document 01, section "Executions", "Steps"; report, section 2.4 and figure 2.
--     M g s v x         == x is m(v): the least of −(sum of d) over paths from v to s. Where there is no such path no x is m(v)
--     Lesser a b c      == c is the lesser of a and b
--     Capped g s v a y  == y is the lesser of m(v) and a; a itself where there is no m(v)
--     UOf g s u v       == u v is U(v), got from u at the sources of the rules into v
--     U g s u           == u v is U(v) for every event v
-- That u v is the greatest separation of v from s is `separation_of` in proofs/Schedules.antt; that it is one number, `u_unique` in proofs/Unique.antt.
-- Assumes nothing.
use Rattle.std.specs.Prelude.{◌≡◌, ◌⊎◌, ℕ, ◌<◌, ℤ, neg_ℤ, ◌+ℤ◌, ◌≤ℤ◌}
use Rattle.graphs.specs.Graph.{Graph, source, most, Greatest}
use Rattle.graphs.specs.Path.{Path, least_sum}

-- "m(v) is the least of −(sum of d) over paths from v to s; m(s) is 0, by the empty path"
pub record M (g : Graph) (s v : ℕ) (x : ℤ) : Type 0 where
  pub reached : (p : Path g v s) × (neg_ℤ (least_sum p) ≡ x)
  pub bound : (p : Path g v s) → x ≤ℤ neg_ℤ (least_sum p)

pub record Lesser (a b c : ℤ) : Type 0 where
  pub left : c ≤ℤ a
  pub right : c ≤ℤ b
  pub one : (c ≡ a) ⊎ (c ≡ b)

-- "the lesser of m(v) and the greatest U(source) + D … Events with no path to s have no m": y is capped by m(v) where there is one
pub data Capped (g : Graph) (s v : ℕ) (arrival y : ℤ) : Type 0 where
  with_m : (x : ℤ) → M g s v x → Lesser x arrival y → Capped g s v arrival y
  without_m : (Path g v s → ⊥) → y ≡ arrival → Capped g s v arrival y

-- "U(root) = m(root). For other events in an order where sources come first, U(v) is the lesser of m(v) and the greatest U(source) + D"
pub record UOf (g : Graph) (s : ℕ) (u : ℕ → ℤ) (v : ℕ) : Type 0 where
  pub arrival : ℤ
  pub arrival_greatest : Greatest g v (λ i. u (source g i) +ℤ most g i) arrival
  pub capped : Capped g s v arrival (u v)

pub record U (g : Graph) (s : ℕ) (u : ℕ → ℤ) : Type 0 where
  pub root : M g s 0 (u 0)
  pub others : (v : ℕ) → v < g.events → (v ≡ 0 → ⊥) → UOf g s u v
