-- Multiples, and the division that rounds toward zero.
--     product               what `omega` is told of a term t *ℤ pos q, beside `linear`
--     multiple_not_above    a multiple of q that is less than q above another is not above it
--     quotient_near         x / q × q, with the division that rounds toward zero, is less than q away from x, either side
--     quotient_within       x / q keeps the bounds of x
-- Assumes nothing.
use mathlib.Core.Path.{◌≡◌, refl}
use Prim.Native.Nat.{ℕ, zero, suc, ◌+◌, ◌*◌, ◌/◌, ◌≤◌, ◌<◌}
use native.Mathlib.Nat.{lt_of_mul-lt-mul_right, mul-le-mul_right, div-mul-le_self, div-le_self, lt-div-mul-add, add-mul, suc-mul}
use native.Mathlib.Omega.{arith}
use lib.IntN.{ℤ, pos, negsuc, neg_ℤ, ◌+ℤ◌, ◌*ℤ◌}
use lib.Signed.{◌≤ℤ◌, ◌<ℤ◌, quot_z}
use Rattle.integers.specs.Within.{Within}
use Rattle.integers.proofs.Integer.{P, N, linear, sum, negation}

pub product : (t : ℤ) (q : ℕ) → (P (t *ℤ pos q) ≡ P t * q) × (N (t *ℤ pos q) ≡ N t * q)
product (pos a) q = (refl, omega arith)
product (negsuc a) q = (omega (arith, negation (pos (suc a * q))), omega (arith, negation (pos (suc a * q))))

pub multiple_not_above : (q : ℕ) (t u : ℤ) → (t *ℤ pos q) <ℤ ((u *ℤ pos q) +ℤ pos q) → (t *ℤ pos q) ≤ℤ (u *ℤ pos q)
multiple_not_above q t u l =
    let split : (P t + N u) * q ≡ P t * q + N u * q = add-mul (P t) (N u) q in
    let split' : (P u + N t) * q ≡ P u * q + N t * q = add-mul (P u) (N t) q in
    let scaled : (P t + N u) * q < suc (P u + N t) * q =
    omega (linear, product t q, product u q, sum (u *ℤ pos q) (pos q), suc-mul (P u + N t) q)
    in
    let less : P t + N u < suc (P u + N t) = lt_of_mul-lt-mul_right q scaled in
    omega (linear, product t q, product u q, mul-le-mul_right {m = P t + N u} {n = P u + N t} q (omega arith))

negative_product : (m q : ℕ) → (P (neg_ℤ (pos m) *ℤ pos q) ≡ 0) × (N (neg_ℤ (pos m) *ℤ pos q) ≡ m * q)
negative_product zero q = (omega arith, omega arith)
negative_product (suc m) q = (omega (arith, product (negsuc m) q), omega (arith, product (negsuc m) q))

pub quotient_near : (x : ℤ) (q : ℕ) → 1 ≤ q → (x <ℤ ((quot_z x (pos q) *ℤ pos q) +ℤ pos q)) × ((quot_z x (pos q) *ℤ pos q) <ℤ (x +ℤ pos q))
quotient_near (pos a) q l = (omega (linear, lt-div-mul-add {a = a} l), omega (linear, div-mul-le_self a q))
quotient_near (negsuc a) q l = (
  omega (linear, div-mul-le_self (suc a) q, negative_product (suc a / q) q, sum (neg_ℤ (pos (suc a / q)) *ℤ pos q) (pos q)),
  omega (linear, lt-div-mul-add {a = suc a} l, negative_product (suc a / q) q, sum (negsuc a) (pos q)),
)

pub quotient_within : {b : ℕ} (x : ℤ) (q : ℕ) → Within b x → Within b (quot_z x (pos q))
quotient_within {b} (pos a) q k =
    record { above = omega (linear, negation (pos b)); below = omega (linear, k.below, div-le_self a q) }
quotient_within {b} (negsuc a) q k =
    record {
      above = omega (linear, k.above, negation (pos b), div-le_self (suc a) q, negation (pos (suc a / q)));
      below = omega (linear, negation (pos (suc a / q)));
    }
