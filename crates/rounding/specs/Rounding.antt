-- The rounded graph. Document 01, section "Coarse form"; demand 3, second sentence.
--     Multiple q y       == y is a multiple of q
--     Down q x y         == y is the multiple of q to which x goes down: the greatest that is not above x
--     Up q x y           == y is the multiple of q to which x goes up: the least that is not below x
--     Rounded q g h      == h is g with each least delay gone down and each most delay gone up to a multiple of q
--     CoarseSeparation q g s t x == x is the separation of the rounded graph
--     Costs q a d x y    == what rounding may cost: y is from x to x + (q − 1) × (a + d)
-- Below zero too: with q = 2, −3 goes down to −4 and −1 goes up to 0. Assumes nothing.
use Rattle.std.specs.Prelude.{◌≡◌, ℕ, ◌+◌, ◌-◌, ◌*◌, ◌<◌, ℤ, pos, ◌+ℤ◌, ◌*ℤ◌, ◌≤ℤ◌, ◌<ℤ◌, length}
use Rattle.graphs.specs.Graph.{Graph, rules, least, most}
use Rattle.executions.specs.Separation.{Separation, SameRules}

pub record Multiple (q : ℕ) (y : ℤ) : Type 0 where
  pub times : ℤ
  pub product : y ≡ times *ℤ pos q

-- "Each least delay goes down to a multiple of q"
pub record Down (q : ℕ) (x y : ℤ) : Type 0 where
  pub multiple : Multiple q y
  pub not_above : y ≤ℤ x
  pub next_above : x <ℤ (y +ℤ pos q)

-- "each most delay goes up to one"
pub record Up (q : ℕ) (x y : ℤ) : Type 0 where
  pub multiple : Multiple q y
  pub not_below : x ≤ℤ y
  pub next_below : y <ℤ (x +ℤ pos q)

pub record Rounded (q : ℕ) (g h : Graph) : Type 0 where
  pub same : SameRules g h
  pub as_many_leasts : length h.leasts ≡ length g.leasts
  pub as_many_mosts : length h.mosts ≡ length g.mosts
  pub down : (i : ℕ) → i < rules g → Down q (least g i) (least h i)
  pub up : (i : ℕ) → i < rules g → Up q (most g i) (most h i)

-- "The answer is the separation of the rounded graph, in ticks"
pub record CoarseSeparation (q : ℕ) (g : Graph) (s t : ℕ) (x : ℤ) : Type 0 where
  pub graph : Graph
  pub rounded : Rounded q g graph
  pub greatest : Separation graph s t x

-- demand 3: "Rounded outward to steps of q, the answer is never below the exact maximum and at most (q − 1) × that sum above it": y is the coarse answer, x
-- the exact maximum, a and d are the depths of source and target
pub record Costs (q a d : ℕ) (x y : ℤ) : Type 0 where
  pub never_below_exact : x ≤ℤ y
  pub at_most_above : y ≤ℤ (x +ℤ pos ((q - 1) * (a + d)))
