-- Tests that compute, and what a test that passes says.
--     all_below k p, any_below k p     p passes at every number below k; at one of them
--     eq_z a b                        the whole numbers a and b are equal
--     both_pass, one_passes          of two tests joined by `&&` both pass, of two joined by `||` one
-- Each has its law: of a test that passes, what it says. `T b` is the type of a passed test b; at literals `tt` proves it. Assumes nothing.
use mathlib.Core.Path.{◌≡◌}
use mathlib.Core.Bool.{Bool, true, false, ◌&&◌, ◌||◌}
use mathlib.Core.Logic.{◌⊎◌, inl, inr}
use Prim.Native.Nat.{ℕ, zero, suc, ◌<◌}
use native.Mathlib.Omega.{arith}
use lib.IntN.{ℤ}
use lib.Signed.{◌≤ℤ◌, le_z}
use lib.Dec.{T}
use Rattle.integers.proofs.Integer.{linear}
use Rattle.sequences.proofs.Below.{below_next}

-- ---- two tests

pub both_pass : (a b : Bool) → T (a && b) → T a × T b
both_pass true b t = (tt, t)
both_pass false b t = absurd t

pub one_passes : (a b : Bool) → T (a || b) → T a ⊎ T b
one_passes true b t = inl tt
one_passes false b t = inr t

-- ---- the numbers below a bound

abbrev pub all_below : ℕ → (ℕ → Bool) → Bool
all_below zero p = true
all_below (suc k) p = p k && all_below k p

abbrev pub any_below : ℕ → (ℕ → Bool) → Bool
any_below zero p = false
any_below (suc k) p = p k || any_below k p

pub all_pass : (k : ℕ) (p : ℕ → Bool) → T (all_below k p) → (i : ℕ) → i < k → T (p i)
all_pass zero p t i l = absurd (let none : ⊥ = omega arith in none)
all_pass (suc k) p t i l =
    let (here, before) = both_pass (p k) (all_below k p) t in
    below_next (λ j. T (p j)) k (all_pass k p before) here i l

pub some_passes : (k : ℕ) (p : ℕ → Bool) → T (any_below k p) → (i : ℕ) × (i < k) × T (p i)
some_passes zero p t = absurd t
some_passes (suc k) p t = by (one_passes (p k) (any_below k p) t) (some_passes k p)
  where
    by : T (p k) ⊎ T (any_below k p) → (T (any_below k p) → (i : ℕ) × (i < k) × T (p i)) → (i : ℕ) × (i < suc k) × T (p i)
    by (inl here) before = (k, omega arith, here)
    by (inr there) before =
        let (i, l, passed) = before there in
        (i, omega arith, passed)

-- ---- whole numbers

abbrev pub eq_z : ℤ → ℤ → Bool
eq_z a b = le_z a b && le_z b a

pub eq_z_passes : (a b : ℤ) → T (eq_z a b) → a ≡ b
eq_z_passes a b t =
    let (one, other) = both_pass (le_z a b) (le_z b a) t in
    let le : a ≤ℤ b = record { le = one } in
    let ge : b ≤ℤ a = record { le = other } in
    omega linear
