-- Linear arithmetic over ℤ by `omega`, which reads natural numbers alone.
--     P z, N z      the positive and the negative part of z: one of them is 0, and z is P z − N z
--     linear        the set to hand to `omega`: it turns each order, equation and test over ℤ into one over ℕ
--     sum, difference, negation, lesser, greater    what `omega` is told of a term a +ℤ b, a -ℤ b, neg_ℤ a, min_ℤ a b, max_ℤ a b: an entry each
-- So `omega (linear, sum a b)` proves a linear fact in which a +ℤ b stands. Assumes nothing.
use mathlib.Core.Path.{◌≡◌, refl, ap, sym, subst}
use mathlib.Core.Bool.{Bool, true, false, not, cond}
use Prim.Native.Nat.{ℕ, zero, suc, ◌+◌, ◌-◌, ◌≤◌, ◌<◌}
use native.Mathlib.Omega.{arith}
use lib.IntN.{ℤ, pos, negsuc, neg_ℤ, ◌+ℤ◌, ◌-ℤ◌}
use lib.Signed.{◌≤ℤ◌, ◌<ℤ◌, le_z, lt_z}
use lib.Dec.{T, ltb, leb→le, le→leb, ltb→lt, lt→ltb, nltb→le, nleb→lt}

abbrev pub P : ℤ → ℕ
P (pos n) = n
P (negsuc n) = 0

abbrev pub N : ℤ → ℕ
N (pos n) = 0
N (negsuc n) = suc n

-- ---- the order

le_to : (a b : ℤ) → T (le_z a b) → P a + N b ≤ P b + N a
le_to (pos a) (pos b) t = omega (arith, leb→le a b t)
le_to (pos a) (negsuc b) t = absurd t
le_to (negsuc a) (pos b) t = omega arith
le_to (negsuc a) (negsuc b) t = omega (arith, leb→le b a t)

le_from : (a b : ℤ) → P a + N b ≤ P b + N a → T (le_z a b)
le_from (pos a) (pos b) h = le→leb a b (omega arith)
le_from (pos a) (negsuc b) h = absurd (let e : ⊥ = omega arith in e)
le_from (negsuc a) (pos b) h = tt
le_from (negsuc a) (negsuc b) h = le→leb b a (omega arith)

pub ≤ℤ-to : {a b : ℤ} → a ≤ℤ b → P a + N b ≤ P b + N a
≤ℤ-to {a} {b} h = le_to a b h.le

pub ≤ℤ-from : {a b : ℤ} → P a + N b ≤ P b + N a → a ≤ℤ b
≤ℤ-from {a} {b} h = record { le = le_from a b h }

lt_to : (a b : ℤ) → T (lt_z a b) → P a + N b < P b + N a
lt_to (pos a) (pos b) t = omega (arith, ltb→lt a b t)
lt_to (pos a) (negsuc b) t = absurd t
lt_to (negsuc a) (pos b) t = omega arith
lt_to (negsuc a) (negsuc b) t = omega (arith, ltb→lt b a t)

lt_from : (a b : ℤ) → P a + N b < P b + N a → T (lt_z a b)
lt_from (pos a) (pos b) h = lt→ltb a b (omega arith)
lt_from (pos a) (negsuc b) h = absurd (let e : ⊥ = omega arith in e)
lt_from (negsuc a) (pos b) h = tt
lt_from (negsuc a) (negsuc b) h = lt→ltb b a (omega arith)

pub <ℤ-to : {a b : ℤ} → a <ℤ b → P a + N b < P b + N a
<ℤ-to {a} {b} h = lt_to a b h.lt

pub <ℤ-from : {a b : ℤ} → P a + N b < P b + N a → a <ℤ b
<ℤ-from {a} {b} h = record { lt = lt_from a b h }

-- ---- equations

pub ≡ℤ-to : {a b : ℤ} → a ≡ b → P a + N b ≡ P b + N a
≡ℤ-to {a} e = subst (λ (x : ℤ). P a + N x ≡ P x + N a) e refl

eq_from : (a b : ℤ) → P a + N b ≡ P b + N a → a ≡ b
eq_from (pos a) (pos b) h = ap pos (omega arith)
eq_from (pos a) (negsuc b) h = absurd (let e : ⊥ = omega arith in e)
eq_from (negsuc a) (pos b) h = absurd (let e : ⊥ = omega arith in e)
eq_from (negsuc a) (negsuc b) h = ap negsuc (omega arith)

pub ≡ℤ-from : {a b : ℤ} → P a + N b ≡ P b + N a → a ≡ b
≡ℤ-from {a} {b} h = eq_from a b h

-- ---- tests, as a branch of the code leaves them

pub le_z_true : (a b : ℤ) → le_z a b ≡ true → P a + N b ≤ P b + N a
le_z_true a b e = le_to a b (subst T (sym e) tt)

pub lt_z_true : (a b : ℤ) → lt_z a b ≡ true → P a + N b < P b + N a
lt_z_true a b e = lt_to a b (subst T (sym e) tt)

pub le_z_false : (a b : ℤ) → le_z a b ≡ false → P b + N a < P a + N b
le_z_false (pos a) (pos b) e = omega (arith, nleb→lt a b (subst (λ (x : Bool). T (not x)) (sym e) tt))
le_z_false (pos a) (negsuc b) e = omega arith
le_z_false (negsuc a) (pos b) e = absurd (subst T e tt)
le_z_false (negsuc a) (negsuc b) e = omega (arith, nleb→lt b a (subst (λ (x : Bool). T (not x)) (sym e) tt))

pub lt_z_false : (a b : ℤ) → lt_z a b ≡ false → P b + N a ≤ P a + N b
lt_z_false (pos a) (pos b) e = omega (arith, nltb→le a b (subst (λ (x : Bool). T (not x)) (sym e) tt))
lt_z_false (pos a) (negsuc b) e = omega arith
lt_z_false (negsuc a) (pos b) e = absurd (subst T e tt)
lt_z_false (negsuc a) (negsuc b) e = omega (arith, nltb→le b a (subst (λ (x : Bool). T (not x)) (sym e) tt))

pub ruleset linear = (≤ℤ-to, ≤ℤ-from, <ℤ-to, <ℤ-from, ≡ℤ-to, ≡ℤ-from, le_z_true, lt_z_true, le_z_false, lt_z_false, arith)

-- ---- what `omega` is told of a sum, a difference and a negation

sub_parts : (a b : ℕ) (x : Bool) → ltb a b ≡ x → P (cond x (negsuc (b - suc a)) (pos (a - b))) + b ≡ a + N (cond x (negsuc (b - suc a)) (pos (a - b)))
sub_parts a b true e = omega (arith, ltb→lt a b (subst T (sym e) tt))
sub_parts a b false e = omega (arith, nltb→le a b (subst (λ (x : Bool). T (not x)) (sym e) tt))

pub sum : (a b : ℤ) → P (a +ℤ b) + (N a + N b) ≡ (P a + P b) + N (a +ℤ b)
sum (pos a) (pos b) = omega arith
sum (pos a) (negsuc b) = omega (arith, sub_parts a (suc b) (ltb a (suc b)) refl)
sum (negsuc a) (pos b) = omega (arith, sub_parts b (suc a) (ltb b (suc a)) refl)
sum (negsuc a) (negsuc b) = omega arith

pub negation : (a : ℤ) → (P (neg_ℤ a) ≡ N a) × (N (neg_ℤ a) ≡ P a)
negation (pos zero) = (refl, refl)
negation (pos (suc n)) = (refl, refl)
negation (negsuc n) = (refl, refl)

pub difference : (a b : ℤ) → P (a -ℤ b) + (N a + P b) ≡ (P a + N b) + N (a -ℤ b)
difference a b = omega (arith, sum a (neg_ℤ b), negation b)

-- ---- the lesser and the greater of two numbers, and which of the two it is

abbrev pub min_ℤ : ℤ → ℤ → ℤ
min_ℤ a b = cond (le_z a b) a b

abbrev pub max_ℤ : ℤ → ℤ → ℤ
max_ℤ a b = cond (le_z a b) b a
