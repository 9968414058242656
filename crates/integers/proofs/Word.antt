-- Signed machine words. A local of the code holds bits, and `to_z w` reads the number back. Stated once for every width w.
--     within_fits      a number between −b and b fits a width that holds b
--     read_back        and its bits are read back as the number
--     within_sum, within_difference, within_negation, within_wider     bounds of a sum, a difference, a negation, and a looser bound
--     read_difference, difference_fits, difference_back     what the code forms of two words' bits is their difference; it fits, and its bits are read back
--     read_sum, sum_fits, sum_back    the same of a sum
-- Assumes nothing.
use mathlib.Core.Path.{◌≡◌}
use Prim.Native.Nat.{ℕ, ◌+◌, ◌<◌, ◌≤◌, ◌^◌}
use native.Mathlib.Omega.{arith}
use lib.IntN.{ℤ, pos, negsuc, neg_ℤ, ◌+ℤ◌, ◌-ℤ◌}
use lib.Signed.{mag}
use mir.Syntax.{Width}
use mir.Val.{SFits, hbits, to_z, of_z}
use mir.ValLaws.{to_z-of_z}
use Rattle.integers.specs.Within.{Within}
use Rattle.integers.proofs.Integer.{linear, sum, difference, negation}

mag_below : (b : ℕ) (z : ℤ) {h : ℕ} → b < h → Within b z → mag z < h
mag_below b (pos n) l w = omega (linear, negation (pos b))
mag_below b (negsuc n) l w = omega (linear, negation (pos b))

pub within_fits : (w : Width) (b : ℕ) (z : ℤ) → b < 2 ^ hbits w → Within b z → SFits w z
within_fits w b z l k = record { sfits = mag_below b z l k }

pub read_back : (w : Width) (b : ℕ) (z : ℤ) → b < 2 ^ hbits w → Within b z → to_z w (of_z w z) ≡ z
read_back w b z l k = to_z-of_z w z (within_fits w b z l k)

pub within_wider : {a b : ℕ} {z : ℤ} → a ≤ b → Within a z → Within b z
within_wider {a} {b} {z} l k = record { above = omega (linear, negation (pos a), negation (pos b)); below = omega (linear, negation (pos a)) }

pub within_sum : {a b : ℕ} {x y : ℤ} → Within a x → Within b y → Within (a + b) (x +ℤ y)
within_sum {a} {b} {x} {y} h k =
    record { above = omega (linear, sum x y, negation (pos a), negation (pos b), negation (pos (a + b))); below = omega (linear, sum x y) }

pub within_difference : {a b : ℕ} {x y : ℤ} → Within a x → Within b y → Within (a + b) (x -ℤ y)
within_difference {a} {b} {x} {y} h k =
    record { above = omega (linear, difference x y, negation (pos a), negation (pos b), negation (pos (a + b))); below = omega (linear, difference x y, negation (pos b)) }

-- ---- a difference of two words, as the code forms it: both are read back from their bits
pub read_difference : (w : Width) (a b : ℕ) (x y : ℤ) → a + b < 2 ^ hbits w → Within a x → Within b y → to_z w (of_z w x) -ℤ to_z w (of_z w y) ≡ x -ℤ y
read_difference w a b x y l h k = rw (read_back w a x (omega arith) h, read_back w b y (omega arith) k)

pub difference_fits : (w : Width) (a b : ℕ) (x y : ℤ) → a + b < 2 ^ hbits w → Within a x → Within b y → SFits w (to_z w (of_z w x) -ℤ to_z w (of_z w y))
difference_fits w a b x y l h k = rw (read_difference w a b x y l h k) (within_fits w (a + b) (x -ℤ y) l (within_difference h k))

pub difference_back : (w : Width) (a b : ℕ) (x y : ℤ) → a + b < 2 ^ hbits w → Within a x → Within b y → to_z w (of_z w (to_z w (of_z w x) -ℤ to_z w (of_z w y))) ≡ x -ℤ y
difference_back w a b x y l h k = rw (read_difference w a b x y l h k) (read_back w (a + b) (x -ℤ y) l (within_difference h k))

pub within_negation : {a : ℕ} {x : ℤ} → Within a x → Within a (neg_ℤ x)
within_negation {a} {x} h = record { above = omega (linear, negation x, negation (pos a)); below = omega (linear, negation x, negation (pos a)) }

-- what is said of two words read back is said of the numbers
pub read_pair : (w : Width) (R : ℤ → ℤ → Type 0) (x y : ℤ) → mag x < 2 ^ hbits w → mag y < 2 ^ hbits w → R (to_z w (of_z w x)) (to_z w (of_z w y)) → R x y
read_pair w R x y f g h =
    let e : to_z w (of_z w x) ≡ x = to_z-of_z w x (record { sfits = f }) in
    let k : to_z w (of_z w y) ≡ y = to_z-of_z w y (record { sfits = g }) in
    rw (e, k) at h

-- ---- a sum of two words, as the code forms it

pub read_sum : (w : Width) (a b : ℕ) (x y : ℤ) → a + b < 2 ^ hbits w → Within a x → Within b y → to_z w (of_z w x) +ℤ to_z w (of_z w y) ≡ x +ℤ y
read_sum w a b x y l h k = rw (read_back w a x (omega arith) h, read_back w b y (omega arith) k)

pub sum_fits : (w : Width) (a b : ℕ) (x y : ℤ) → a + b < 2 ^ hbits w → Within a x → Within b y → SFits w (to_z w (of_z w x) +ℤ to_z w (of_z w y))
sum_fits w a b x y l h k = rw (read_sum w a b x y l h k) (within_fits w (a + b) (x +ℤ y) l (within_sum h k))

pub sum_back : (w : Width) (a b : ℕ) (x y : ℤ) → a + b < 2 ^ hbits w → Within a x → Within b y → to_z w (of_z w (to_z w (of_z w x) +ℤ to_z w (of_z w y))) ≡ x +ℤ y
sum_back w a b x y l h k = rw (read_sum w a b x y l h k) (read_back w (a + b) (x +ℤ y) l (within_sum h k))

-- ---- a word of one width put into another: the number that it holds fits both
