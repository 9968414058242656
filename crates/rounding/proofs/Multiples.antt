-- Going down and up to a multiple of q.
--     down_unique, up_unique     a number goes down to one multiple, and up to one
--     down_near, up_near         it moves by q − 1 at most
--     down_within, up_within     so a delay passes 1,000,000 by less than 1,000
--     down_one, up_one           every number is a multiple of 1 and stays where it is
--     quotient_beside            x / q × q, with the division that rounds toward zero, is a multiple less than q away from x
--     beside_within              such a multiple lies little further out than x
--     beside_down, step_down     from it, where x goes down to: itself, or where it lies above x one step less
--     beside_up, step_up         and where x goes up to: itself, or where it lies below x one step more
--     down_negated               where −x goes down to y, x goes up to −y
-- The idea. Two multiples of q that are less than q apart are equal. Where x goes down to y and to z, both lie above x − q and not above x. The division that
-- rounds toward zero gives a multiple less than q away from x, on the side of zero; where that is the wrong side, one more step of q mends it. Assumes nothing.
use mathlib.Core.Path.{◌≡◌, refl, ap, sym, ◌∙◌}
use Prim.Native.Nat.{ℕ, zero, suc, ◌+◌, ◌-◌, ◌≤◌}
use lib.IntN.{ℤ, pos, ◌+ℤ◌, ◌-ℤ◌, ◌*ℤ◌, negsuc, neg_ℤ, suc_ℤ, pred_ℤ, suc_ℤ-*ℤ, pred_ℤ-*ℤ}
use lib.Signed.{◌≤ℤ◌, ◌<ℤ◌, quot_z}
use Rattle.integers.specs.Within.{Within}
use Rattle.integers.proofs.Integer.{linear, sum, difference, negation}
use Rattle.integers.proofs.Division.{product, multiple_not_above, quotient_near}
use Rattle.executions.specs.Separation.{Near}
use Rattle.rounding.specs.Rounding.{Multiple, Down, Up}
use Rattle.rounding.specs.Parts.Beside.{Beside}

-- ---- one multiple

not_above : {q : ℕ} {y z : ℤ} → Multiple q y → Multiple q z → y <ℤ (z +ℤ pos q) → y ≤ℤ z
not_above {q} {y} {z} a b l =
    let scaled : (a.times *ℤ pos q) <ℤ ((b.times *ℤ pos q) +ℤ pos q) =
    omega (linear, a.product, b.product, sum z (pos q), sum (b.times *ℤ pos q) (pos q))
    in
    omega (linear, a.product, b.product, multiple_not_above q a.times b.times scaled)

module _ {q : ℕ} {x y z : ℤ} where
  pub down_unique : Down q x y → Down q x z → y ≡ z
  down_unique a b =
      let one : y ≤ℤ z = not_above a.multiple b.multiple (omega (linear, a.not_above, b.next_above)) in
      let other : z ≤ℤ y = not_above b.multiple a.multiple (omega (linear, b.not_above, a.next_above)) in
      omega linear

  pub up_unique : Up q x y → Up q x z → y ≡ z
  up_unique a b =
      let one : y ≤ℤ z = not_above a.multiple b.multiple (omega (linear, a.next_below, b.not_below, sum x (pos q), sum z (pos q))) in
      let other : z ≤ℤ y = not_above b.multiple a.multiple (omega (linear, b.next_below, a.not_below, sum x (pos q), sum y (pos q))) in
      omega linear

-- ---- how far a number moves

module _ {q : ℕ} {x y : ℤ} where
  pub down_near : Down q x y → Near (q - 1) x y
  down_near a =
      record {
        not_above = omega (linear, a.next_above, sum y (pos q), sum y (pos (q - 1)));
        not_below = omega (linear, a.not_above, sum x (pos (q - 1)));
      }

  pub up_near : Up q x y → Near (q - 1) x y
  up_near a =
      record {
        not_above = omega (linear, a.not_below, sum y (pos (q - 1)));
        not_below = omega (linear, a.next_below, sum x (pos q), sum x (pos (q - 1)));
      }

-- "A rounded bound may pass 1,000,000 by less than 1,000"
module _ {q : ℕ} {x y : ℤ} (small : q ≤ 1000) (k : Within 1000000 x) where
  pub down_within : Down q x y → Within 1000999 y
  down_within a =
      record {
        above = omega (linear, a.next_above, k.above, sum y (pos q), negation (pos 1000000), negation (pos 1000999));
        below = omega (linear, a.not_above, k.below);
      }

  pub up_within : Up q x y → Within 1000999 y
  up_within a =
      record {
        above = omega (linear, a.not_below, k.above, negation (pos 1000000), negation (pos 1000999));
        below = omega (linear, a.next_below, k.below, sum x (pos q));
      }

module _ {x y : ℤ} where
  pub down_one : Down 1 x y → x ≡ y
  down_one a = omega (linear, a.not_above, a.next_above, sum y (pos 1))

  pub up_one : Up 1 x y → x ≡ y
  up_one a = omega (linear, a.not_below, a.next_below, sum x (pos 1))

-- ---- as the code finds them

pub quotient_beside : (x : ℤ) (q : ℕ) → 1 ≤ q → Beside q x (quot_z x (pos q) *ℤ pos q)
quotient_beside x q some =
    let near = quotient_near x q some in
    record {
      multiple = record { times = quot_z x (pos q); product = refl };
      next_above = near.0;
      next_below = near.1;
    }

module _ {q : ℕ} {x y : ℤ} (a : Beside q x y) where
  pub beside_within : {b : ℕ} → Within b x → Within (b + q) y
  beside_within {b} k =
      record {
        above = omega (linear, a.next_above, k.above, sum y (pos q), negation (pos b), negation (pos (b + q)));
        below = omega (linear, a.next_below, k.below, sum x (pos q));
      }

  pub beside_down : y ≤ℤ x → Down q x y
  beside_down l = record { multiple = a.multiple; not_above = l; next_above = a.next_above }

  pub step_down : x <ℤ y → Down q x (y -ℤ pos q)
  step_down l =
      record {
        multiple =
            record {
              times = pred_ℤ a.multiple.times;
              product = ap (λ (z : ℤ). z -ℤ pos q) a.multiple.product ∙ sym (pred_ℤ-*ℤ a.multiple.times (pos q));
            };
        not_above = omega (linear, a.next_below, sum x (pos q), difference y (pos q));
        next_above = omega (linear, sum (y -ℤ pos q) (pos q), difference y (pos q));
      }

  pub beside_up : x ≤ℤ y → Up q x y
  beside_up l = record { multiple = a.multiple; not_below = l; next_below = a.next_below }

  pub step_up : y <ℤ x → Up q x (y +ℤ pos q)
  step_up l =
      record {
        multiple =
            record {
              times = suc_ℤ a.multiple.times;
              product = ap (λ (z : ℤ). z +ℤ pos q) a.multiple.product ∙ sym (suc_ℤ-*ℤ a.multiple.times (pos q));
            };
        not_below = omega (linear, a.next_above, sum y (pos q));
        next_below = omega (linear, sum y (pos q), sum x (pos q));
      }

negated_product : (t : ℤ) (q : ℕ) → neg_ℤ t *ℤ pos q ≡ pos 0 -ℤ (t *ℤ pos q)
negated_product (pos zero) q = omega (linear, product (pos zero) q, difference (pos 0) (pos zero *ℤ pos q))
negated_product (pos (suc n)) q = omega (linear, product (negsuc n) q, product (pos (suc n)) q, difference (pos 0) (pos (suc n) *ℤ pos q))
negated_product (negsuc n) q = omega (linear, product (negsuc n) q, product (pos (suc n)) q, difference (pos 0) (negsuc n *ℤ pos q))

-- where −x goes down to y, x goes up to −y
pub down_negated : {q : ℕ} {x y : ℤ} → Down q (pos 0 -ℤ x) y → Up q x (pos 0 -ℤ y)
down_negated {q} {x} {y} a =
    record {
      multiple = record { times = neg_ℤ a.multiple.times; product = rw a.multiple.product (sym (negated_product a.multiple.times q)) };
      not_below = omega (linear, a.not_above, difference (pos 0) x, difference (pos 0) y);
      next_below = omega (linear, a.next_above, difference (pos 0) x, difference (pos 0) y, sum x (pos q), sum y (pos q));
    }
