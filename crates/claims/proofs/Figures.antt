-- Claims with numbers near the ends of 64 bits, judged by the definitions: rules 0→2 [0, 0] and 2→1 [0, 1].
--     wrapped_broken     delays 0 and 1, times 0, −2^63 and 2^63 − 1: event 1 is broken, though a sum that wraps would meet it
--     far_right, far_broken      delays 0 and 0, times 0, 2^62 and 2^62: event 1 is right, and 2 is the lowest broken
-- Assumes nothing.
use mathlib.Core.Path.{◌≡◌, refl}
use mathlib.Core.List.{[], ◌∷◌}
use Prim.Native.Nat.{ℕ, zero, suc, ◌<◌}
use native.Mathlib.Omega.{arith}
use lib.IntN.{ℤ, pos, negsuc, ◌+ℤ◌}
use lib.Signed.{◌≤ℤ◌}
use Rattle.integers.proofs.Integer.{linear}
use Rattle.verdicts.specs.Verdict.{Lowest}
use Rattle.graphs.specs.Graph.{Graph, graph_of, rules, source, target, least, most}
use Rattle.separation.specs.Promise.{at}
use Rattle.claims.specs.Claim.{RightAt, BrokenAt}

abbrev pub two : Graph
two = graph_of 3 (0 ∷ (2 ∷ [])) (2 ∷ (1 ∷ [])) (pos 0 ∷ (pos 0 ∷ [])) (pos 0 ∷ (pos 1 ∷ []))

none_into_root : (i : ℕ) → i < rules two → target two i ≡ 0 → ⊥
none_into_root zero l to = omega arith
none_into_root (suc zero) l to = omega arith
none_into_root (suc (suc i)) l to = omega arith

root_right : (delay time : ℕ → ℤ) → time 0 ≡ pos 0 → RightAt two delay time 0
root_right delay time e =
    record {
      from_least = λ i l to. absurd (none_into_root i l to);
      to_most = λ i l to. absurd (none_into_root i l to);
      root = λ z. e;
      other = λ other. absurd (other refl);
    }

below_one : (A : ℕ → Type 0) → A 0 → (q : ℕ) → q < 1 → A q
below_one A a zero l = a
below_one A a (suc q) l = absurd (let no : ⊥ = omega arith in no)

below_two : (A : ℕ → Type 0) → A 0 → A 1 → (q : ℕ) → q < 2 → A q
below_two A a b zero l = a
below_two A a b (suc zero) l = b
below_two A a b (suc (suc q)) l = absurd (let no : ⊥ = omega arith in no)

-- ---- a sum past the last number

pub wrapped_broken : Lowest (BrokenAt two (at (pos 0 ∷ (pos 1 ∷ []))) (at (pos 0 ∷ (negsuc 9223372036854775807 ∷ (pos 9223372036854775807 ∷ []))))) 1
wrapped_broken =
    record {
      holds = record { is_event = omega arith; broken = λ right. passed ((right.other (λ e. omega arith)).bound 1 (omega arith) refl) };
      lowest = below_one (λ q. BrokenAt two delay time q → ⊥) (λ b. b.broken (root_right delay time refl));
    }
  where
    delay : ℕ → ℤ
    delay = at (pos 0 ∷ (pos 1 ∷ []))

    time : ℕ → ℤ
    time = at (pos 0 ∷ (negsuc 9223372036854775807 ∷ (pos 9223372036854775807 ∷ [])))

    passed : pos 9223372036854775808 ≤ℤ negsuc 9223372036854775807 → ⊥
    passed l = l.le

-- ---- a time is not broken for its size alone

abbrev pub far : ℤ
far = pos 4611686018427387904

abbrev pub stay : ℕ → ℤ
stay = at (pos 0 ∷ (pos 0 ∷ []))

abbrev pub away : ℕ → ℤ
away = at (pos 0 ∷ (far ∷ (far ∷ [])))

into_one : (A : ℕ → Type 0) → A 1 → (i : ℕ) → i < rules two → target two i ≡ 1 → A i
into_one A a zero l to = absurd (let no : ⊥ = omega arith in no)
into_one A a (suc zero) l to = a
into_one A a (suc (suc i)) l to = absurd (let no : ⊥ = omega arith in no)

pub far_right : RightAt two stay away 1
far_right =
    record {
      from_least = into_one (λ i. least two i ≤ℤ stay i) (omega linear);
      to_most = into_one (λ i. stay i ≤ℤ most two i) (omega linear);
      root = λ z. absurd (let no : ⊥ = omega arith in no);
      other = λ other. record { reached = (1, omega arith, refl, refl); bound = into_one (λ i. (away (source two i) +ℤ stay i) ≤ℤ far) (omega linear) };
    }

not_there : (i : ℕ) → i < rules two → target two i ≡ 2 → away (source two i) +ℤ stay i ≡ far → ⊥
not_there zero l to e = omega (linear, e)
not_there (suc zero) l to e = omega arith
not_there (suc (suc i)) l to e = omega arith

pub far_broken : Lowest (BrokenAt two stay away) 2
far_broken =
    record {
      holds =
          record {
            is_event = omega arith;
            broken =
                λ right.
                let (i, l, to, e) = (right.other (λ z. omega arith)).reached in
                not_there i l to e;
          };
      lowest = below_two (λ q. BrokenAt two stay away q → ⊥) (λ b. b.broken (root_right stay away refl)) (λ b. b.broken far_right);
    }
