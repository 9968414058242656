-- A function from the numbers 0 to n to the numbers below n takes one value twice.
--     Twice f n       f takes one value twice, at places from 0 to n
--     pigeonhole      the two places, the lesser first
-- The proof goes by induction on n, one more than m. If the value c at the last place stands at an earlier place too, these are the two places. If
-- not, let every earlier place that has value m have value c instead: then the places 0 to m have values below m, and one value stands twice among
-- them. No two different values became equal, since c itself stood at none of these places.
-- Assumes nothing.
use mathlib.Core.Path.{◌≡◌, sym, ◌∙◌}
use Prim.Native.Nat.{ℕ, zero, suc, ◌≤◌, ◌<◌}
use native.Mathlib.Decide.{ℕ_discrete}
use native.Mathlib.Omega.{arith}
use Rattle.sequences.proofs.Below.{below_next}

pub record Twice (f : ℕ → ℕ) (n : ℕ) : Type 0 where
  pub former : ℕ
  pub latter : ℕ
  pub apart : former < latter
  pub within : latter ≤ n
  pub same : f former ≡ f latter

-- is value c taken at a place below k
data Taken (f : ℕ → ℕ) (c k : ℕ) : Type 0 where
  at : (i : ℕ) → i < k → f i ≡ c → Taken f c k
  nowhere : ((i : ℕ) → i < k → f i ≡ c → ⊥) → Taken f c k

taken : (f : ℕ → ℕ) (c k : ℕ) → Taken f c k
taken f c zero = nowhere (λ i l e. omega arith)
taken f c (suc k) = further (taken f c k) (ℕ_discrete (f k) c)
  where
    further : Taken f c k → Dec (f k ≡ c) → Taken f c (suc k)
    further (at i l e) d = at i (omega arith) e
    further (nowhere none) (yes e) = at k (omega arith) e
    further (nowhere none) (no other) = nowhere (below_next (λ i. f i ≡ c → ⊥) k none other)

-- c for m, and every other value for itself
replaced : (m c x : ℕ) → Dec (x ≡ m) → ℕ
replaced m c x (yes e) = c
replaced m c x (no h) = x

replaced_below : (m c x : ℕ) (d : Dec (x ≡ m)) → x < suc m → c < suc m → (x ≡ c → ⊥) → replaced m c x d < m
unfolding replaced
replaced_below m c x (yes e) l k other = below (ℕ_discrete c m)
  where
    below : Dec (c ≡ m) → c < m
    below (yes b) = absurd (other (e ∙ sym b))
    below (no b) = omega arith
replaced_below m c x (no h) l k other = omega arith

replaced_same : (m c x y : ℕ) (d : Dec (x ≡ m)) (b : Dec (y ≡ m)) → (x ≡ c → ⊥) → (y ≡ c → ⊥) → replaced m c x d ≡ replaced m c y b → x ≡ y
unfolding replaced
replaced_same m c x y (yes e) (yes f) h k same = e ∙ sym f
replaced_same m c x y (yes e) (no f) h k same = absurd (k (sym same))
replaced_same m c x y (no e) (yes f) h k same = absurd (h same)
replaced_same m c x y (no e) (no f) h k same = same

pub pigeonhole : (n : ℕ) (f : ℕ → ℕ) → ((k : ℕ) → k ≤ n → f k < n) → Twice f n
pigeonhole zero f below = absurd (let none : ⊥ = omega (arith, below 0 (omega arith)) in none)
pigeonhole (suc m) f below = by (taken f c (suc m)) (λ none. pigeonhole m changed (λ k l. changed_below none k (omega arith)))
  where
    c : ℕ
    c = f (suc m)

    changed : ℕ → ℕ
    changed k = replaced m c (f k) (ℕ_discrete (f k) m)

    changed_below : ((i : ℕ) → i < suc m → f i ≡ c → ⊥) → (k : ℕ) → k < suc m → changed k < m
    changed_below none k l = replaced_below m c (f k) _ (below k (omega arith)) (below (suc m) (omega arith)) (none k l)

    by : Taken f c (suc m) → (((i : ℕ) → i < suc m → f i ≡ c → ⊥) → Twice changed m) → Twice f (suc m)
    by (at i l e) rest = record { former = i; latter = suc m; apart = l; within = omega arith; same = e }
    by (nowhere none) rest =
        let t : Twice changed m = rest none in
        record {
          former = t.former;
          latter = t.latter;
          apart = t.apart;
          within = omega arith;
          same = replaced_same m c _ _ _ _ (none t.former (omega arith)) (none t.latter (omega arith)) t.same;
        }
