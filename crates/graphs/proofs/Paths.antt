-- Paths put together and taken apart, and what bounds them.
--     join p q, along p i …      q after p; rule i after p. Each with its number of rules and its sum of least delays
--     start_at, end_at           a path again, between events that equal its ends
--     first_rule, last_rule      a path is empty, or a rule and the path after it, or a path and the rule after it
--     empty_ends, empty_sum      a path with no rules leads from an event to itself, and its sum is 0
--     path_rank                  where each rule leads to a higher rank, a path has no more rules than the ranks of its ends allow
--     ranked_acyclic             and there is no cycle
--     acyclic_stays              without a cycle, a path from an event to itself is empty
--     least_sum_within            where each least delay lies within b, the sum of a path lies within b times its number of rules
-- Assumes nothing.
use mathlib.Core.Path.{◌≡◌, refl, sym, ap, subst, ◌∙◌}
use Prim.Native.Nat.{ℕ, suc, ◌+◌, ◌*◌, ◌≤◌, ◌<◌}
use native.Mathlib.Nat.{mul-suc}
use native.Mathlib.Decide.{dec_lt}
use native.Mathlib.Omega.{arith}
use lib.IntN.{pos, ◌+ℤ◌}
use Rattle.integers.specs.Within.{Within}
use Rattle.integers.proofs.Integer.{linear, sum, negation}
use Rattle.integers.proofs.Word.{within_sum, within_wider}
use Rattle.graphs.specs.Graph.{Graph, rules, source, target, least}
use Rattle.graphs.specs.Path.{Path, stay, step, steps, least_sum, HasCycle}

-- ---- one path after another

abbrev pub join : {g : Graph} {u v w : ℕ} → Path g u v → Path g v w → Path g u w
join stay q = q
join (step i h e f p) q = step i h e f (join p q)

pub steps_join : {g : Graph} {u v w : ℕ} (p : Path g u v) (q : Path g v w) → steps (join p q) ≡ steps p + steps q
steps_join stay q = omega arith
steps_join (step i h e f p) q = omega (arith, steps_join p q)

pub least_sum_join : {g : Graph} {u v w : ℕ} (p : Path g u v) (q : Path g v w) → least_sum (join p q) ≡ least_sum p +ℤ least_sum q
least_sum_join stay q = omega (linear, sum (pos 0) (least_sum q))
least_sum_join {g} (step i h e f p) q =
    omega (
      linear,
      least_sum_join p q,
      sum (least_sum p) (least_sum q),
      sum (least g i) (least_sum p),
      sum (least g i) (least_sum (join p q)),
      sum (least g i +ℤ least_sum p) (least_sum q),
    )

-- ---- one more rule at the end

abbrev pub along : {g : Graph} {u v w : ℕ} → Path g u v → (i : ℕ) → i < rules g → source g i ≡ v → target g i ≡ w → Path g u w
along p i h e f = join p (step i h e f stay)

module _ {g : Graph} {u v w : ℕ} (p : Path g u v) (i : ℕ) (h : i < rules g) (e : source g i ≡ v) (f : target g i ≡ w) where
  pub steps_along : steps (along p i h e f) ≡ suc (steps p)
  steps_along = omega (arith, steps_join p (step i h e f stay))

  pub least_sum_along : least_sum (along p i h e f) ≡ least_sum p +ℤ least g i
  least_sum_along =
      omega (
        linear,
        least_sum_join p (step i h e f stay),
        sum (least_sum p) (least g i),
        sum (least g i) (pos 0),
        sum (least_sum p) (least g i +ℤ pos 0),
      )

-- ---- a path with no rules

pub empty_ends : {g : Graph} {u v : ℕ} (p : Path g u v) → steps p ≡ 0 → u ≡ v
empty_ends stay none = refl
empty_ends (step i h e f p) none = absurd (let no_path : ⊥ = omega arith in no_path)

pub empty_sum : {g : Graph} {u v : ℕ} (p : Path g u v) → steps p ≡ 0 → least_sum p ≡ pos 0
empty_sum stay none = refl
empty_sum (step i h e f p) none = absurd (let no_path : ⊥ = omega arith in no_path)

-- ---- the first and the last rule

-- a path again, from an event that equals its first, or to one that equals its last
pub start_at : {g : Graph} {t u v : ℕ} → t ≡ u → (p : Path g u v) → (q : Path g t v) × (steps q ≡ steps p) × (least_sum q ≡ least_sum p)
start_at {g} {t} {u} {v} e p = subst (λ (x : ℕ). (q : Path g x v) × (steps q ≡ steps p) × (least_sum q ≡ least_sum p)) (sym e) (p, refl, refl)

pub end_at : {g : Graph} {u v w : ℕ} → v ≡ w → (p : Path g u v) → (q : Path g u w) × (steps q ≡ steps p) × (least_sum q ≡ least_sum p)
end_at {g} {u} {v} {w} e p = subst (λ (x : ℕ). (q : Path g u x) × (steps q ≡ steps p) × (least_sum q ≡ least_sum p)) e (p, refl, refl)

pub data FirstRule (g : Graph) (u w : ℕ) (p : Path g u w) : Type 0 where
  no_first : u ≡ w → steps p ≡ 0 → least_sum p ≡ pos 0 → FirstRule g u w p
  first :
      (i : ℕ) → i < rules g → source g i ≡ u → (q : Path g (target g i) w)
      → steps p ≡ suc (steps q) → least_sum p ≡ least g i +ℤ least_sum q → FirstRule g u w p

pub data LastRule (g : Graph) (u w : ℕ) (p : Path g u w) : Type 0 where
  no_last : u ≡ w → steps p ≡ 0 → least_sum p ≡ pos 0 → LastRule g u w p
  last :
      (i : ℕ) → i < rules g → target g i ≡ w → (q : Path g u (source g i))
      → steps p ≡ suc (steps q) → least_sum p ≡ least_sum q +ℤ least g i → LastRule g u w p

pub first_rule : {g : Graph} {u w : ℕ} (p : Path g u w) → FirstRule g u w p
first_rule stay = no_first refl refl refl
first_rule {g} (step i h e f p) =
    let (q, same-steps, same_sum) = start_at f p in
    first i h e q (omega arith) (omega (linear, sum (least g i) (least_sum q), sum (least g i) (least_sum p)))

pub last_rule : {g : Graph} {u w : ℕ} (p : Path g u w) → LastRule g u w p
last_rule stay = no_last refl refl refl
last_rule {g} {u} {w} (step {v = v} i h e f p) = behind (last_rule p)
  where
    behind : LastRule g v w p → LastRule g u w (step i h e f p)
    behind (no_last same none zero-sum) =
        let (q, same-steps, same_sum) = end_at (sym e) stay in
        last i h (f ∙ same) q (omega arith) (omega (linear, sum (least g i) (least_sum p), sum (least_sum q) (least g i)))
    behind (last j k to q one_more its-sum) =
        last j k to (step i h e f q) (omega arith)
        (omega (
          linear,
          sum (least g i) (least_sum p),
          sum (least_sum q) (least g j),
          sum (least g i) (least_sum q),
          sum (least g i +ℤ least_sum q) (least g j),
        ))

-- ---- ranks

module _ {g : Graph} (rank : ℕ → ℕ) (higher : (i : ℕ) → i < rules g → rank (source g i) < rank (target g i)) where
  pub path_rank : {u v : ℕ} (p : Path g u v) → steps p + rank u ≤ rank v
  path_rank stay = omega arith
  path_rank (step i h e f p) = omega (arith, path_rank p, higher i h, ap rank e, ap rank f)

  pub ranked_acyclic : HasCycle g → ⊥
  ranked_acyclic (v, (p, l)) = omega (arith, path_rank p)

-- ---- without a cycle

pub acyclic_stays : {g : Graph} → (HasCycle g → ⊥) → {v : ℕ} (p : Path g v v) → (steps p ≡ 0) × (least_sum p ≡ pos 0)
acyclic_stays acyclic {v} p =
    let none : steps p ≡ 0 = no_steps (dec_lt 0 (steps p)) in
    (none, empty_sum p none)
  where
    no_steps : Dec (0 < steps p) → steps p ≡ 0
    no_steps (yes l) = absurd (acyclic (v, (p, l)))
    no_steps (no h) = omega arith

-- ---- the size of a sum

pub least_sum_within :
    {g : Graph} {b : ℕ} → ((i : ℕ) → i < rules g → Within b (least g i))
    → {u v : ℕ} (p : Path g u v) → Within (b * steps p) (least_sum p)
least_sum_within {b = b} within stay = record { above = omega (linear, negation (pos (b * 0))); below = omega linear }
least_sum_within {b = b} within (step i h e f p) =
    within_wider (omega (arith, mul-suc b (steps p))) (within_sum (within i h) (least_sum_within within p))
