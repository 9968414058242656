-- Laws of `Counted P k c`: exactly c of the numbers below k satisfy P.
--     counted_most     no more than k numbers are counted
--     counted_all      where all satisfy P, it is k numbers
--     counted_same     two predicates that agree below k have the same count
--     counted_less     where one number leaves P, the count falls by one
--     counted_none     a count of 0 says that none satisfies P
--     counted_some     a count above 0 says that some number does, and finds it
-- Assumes nothing.
use mathlib.Core.Path.{◌≡◌, refl, sym, ap, subst}
use Prim.Native.Nat.{ℕ, zero, suc, ◌<◌, ◌≤◌}
use native.Mathlib.Decide.{ℕ_discrete}
use native.Mathlib.Omega.{arith}
use Rattle.sequences.specs.Counted.{Counted, none, hit, miss}

pub counted_most : {P : ℕ → Type 0} {k c : ℕ} → Counted P k c → c ≤ k
counted_most none = omega arith
counted_most (hit p r) = omega (arith, counted_most r)
counted_most (miss p r) = omega (arith, counted_most r)

pub counted_all : {P : ℕ → Type 0} → ((i : ℕ) → P i) → (k : ℕ) → Counted P k k
counted_all f zero = none
counted_all f (suc k) = hit (f k) (counted_all f k)

pub counted_same : {P Q : ℕ → Type 0} {k c : ℕ} → ((i : ℕ) → i < k → P i → Q i) → ((i : ℕ) → i < k → Q i → P i) → Counted P k c → Counted Q k c
counted_same to from none = none
counted_same {k = suc k} to from (hit p r) = hit (to k (omega arith) p) (counted_same (λ i l. to i (omega arith)) (λ i l. from i (omega arith)) r)
counted_same {k = suc k} to from (miss p r) = miss (λ q. p (from k (omega arith) q)) (counted_same (λ i l. to i (omega arith)) (λ i l. from i (omega arith)) r)

pub counted_none : {P : ℕ → Type 0} {k : ℕ} → Counted P k 0 → (i : ℕ) → i < k → P i → ⊥
counted_none none i l p = omega arith
counted_none {P} {k = suc k} (miss q r) i l p = last (ℕ_discrete i k) (λ h. counted_none r i h p)
  where
    last : Dec (i ≡ k) → (i < k → ⊥) → ⊥
    last (yes e) below = q (subst P e p)
    last (no e) below = below (omega arith)

pub counted_some : {P : ℕ → Type 0} {k c : ℕ} → Counted P k c → 0 < c → (i : ℕ) × (i < k) × P i
counted_some none l = absurd (let z : ⊥ = omega arith in z)
counted_some {k = suc k} (hit p r) l = (k, omega arith, p)
counted_some (miss p r) l = let f = counted_some r l in (f.0, omega (arith, f.1), f.2)

-- i leaves P, and nothing else changes below k
pub record Leaves (P Q : ℕ → Type 0) (k i : ℕ) : Type 0 where
  pub below : i < k
  pub was : P i
  pub gone : Q i → ⊥
  pub to : (j : ℕ) → j < k → (j ≡ i → ⊥) → P j → Q j
  pub from : (j : ℕ) → j < k → Q j → P j

shrink : {P Q : ℕ → Type 0} {k i : ℕ} → Leaves P Q (suc k) i → (i ≡ k → ⊥) → Leaves P Q k i
shrink l e = record { below = omega (arith, l.below); was = l.was; gone = l.gone; to = λ j h. l.to j (omega arith); from = λ j h. l.from j (omega arith) }

pub counted_less : {P Q : ℕ → Type 0} {k c : ℕ} (i : ℕ) → Leaves P Q k i → Counted P k c → (b : ℕ) × (c ≡ suc b) × Counted Q k b
counted_less i l none = absurd (let z : ⊥ = omega (arith, l.below) in z)
counted_less {P} {Q} {k = suc k} i l (hit {c = c} p r) = last (ℕ_discrete i k) (λ e. counted_less i (shrink l e) r)
  where
    last : Dec (i ≡ k) → ((i ≡ k → ⊥) → (b : ℕ) × (c ≡ suc b) × Counted Q k b) → (b : ℕ) × (suc c ≡ suc b) × Counted Q (suc k) b
    last (yes e) below =
        (c, refl, miss (subst (λ (x : ℕ). Q x → ⊥) e l.gone) (counted_same (λ j h. l.to j (omega arith) (λ q. let z : ⊥ = omega arith in z)) (λ j h. l.from j (omega arith)) r))
    last (no e) below = let f = below e in (suc f.0, ap suc f.1, hit (l.to k (omega arith) (λ q. e (sym q)) p) f.2)
counted_less {P} {Q} {k = suc k} i l (miss {c = c} p r) = last (ℕ_discrete i k) (λ e. counted_less i (shrink l e) r)
  where
    last : Dec (i ≡ k) → ((i ≡ k → ⊥) → (b : ℕ) × (c ≡ suc b) × Counted Q k b) → (b : ℕ) × (c ≡ suc b) × Counted Q (suc k) b
    last (yes e) below = absurd (p (subst P e l.was))
    last (no e) below = let f = below e in (f.0, f.1, miss (λ q. p (l.from k (omega arith) q)) f.2)
