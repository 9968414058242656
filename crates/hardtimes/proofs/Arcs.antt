-- Times meet the rules where they meet every arc.
--     arcs_of            hard times meet every arc
--     hard_of            numbers that meet every arc are hard times once the root is brought to 0
--     hard_shifted       so are times that equal them but for that at the events
--     arc_known          the two ends of an arc are events
--     search_arcs        a test passes every arc, or an arc is found that fails it
--     ≤ℤ-dec             whether a number is at most another
-- Assumes nothing.
use mathlib.Core.Path.{◌≡◌, refl}
use mathlib.Core.Bool.{Bool, true, false}
use mathlib.Core.Logic.{◌⊎◌, inl, inr}
use Prim.Native.Nat.{ℕ, zero, suc, ◌<◌, ◌≤◌}
use native.Mathlib.Nat.{not-suc-le-zero}
use native.Mathlib.Omega.{arith}
use lib.IntN.{ℤ, neg_ℤ, ◌+ℤ◌, ◌-ℤ◌}
use lib.Signed.{◌≤ℤ◌, le_z}
use Rattle.integers.proofs.Integer.{linear, sum, difference, negation}
use Rattle.sequences.proofs.Below.{below_next}
use Rattle.graphs.specs.Graph.{Graph, rules, source, target, least, most}
use Rattle.graphs.specs.Limits.{EndsKept}
use Rattle.hardtimes.specs.HardTimes.{HardTimes}
use Rattle.hardtimes.specs.Parts.Gaps.{Arc, forth, back, MeetsArcs}

pub arcs_of : {g : Graph} {time : ℕ → ℤ} → HardTimes g time → MeetsArcs g time
arcs_of {g} {time} hard = record { meets = at }
  where
    at : {a b : ℕ} {w : ℤ} → Arc g a b w → time b ≤ℤ (time a +ℤ w)
    at (forth i l) =
        omega (linear, hard.to_most i l, difference (time (target g i)) (time (source g i)), sum (time (source g i)) (most g i))
    at (back i l) =
        omega (
          linear,
          hard.from_least i l,
          difference (time (target g i)) (time (source g i)),
          sum (time (target g i)) (neg_ℤ (least g i)),
          negation (least g i),
        )

pub arc_known : {g : Graph} → ((i : ℕ) → i < rules g → EndsKept g i) → {a b : ℕ} {w : ℤ} → Arc g a b w → (a < g.events) × (b < g.events)
arc_known ends (forth i l) = ((ends i l).source_known, (ends i l).target_known)
arc_known ends (back i l) = ((ends i l).target_known, (ends i l).source_known)

pub hard_shifted :
    {g : Graph} {x time : ℕ → ℤ} → ((i : ℕ) → i < rules g → EndsKept g i) → 0 < g.events
    → MeetsArcs g x → ((v : ℕ) → v < g.events → time v ≡ x v -ℤ x 0) → HardTimes g time
hard_shifted {g} {x} {time} ends some arcs times =
    record {
      root = omega (linear, times 0 some, difference (x 0) (x 0));
      from_least = λ i l.
          omega (
            linear,
            arcs.meets (back i l),
            times (source g i) (ends i l).source_known,
            times (target g i) (ends i l).target_known,
            difference (x (source g i)) (x 0),
            difference (x (target g i)) (x 0),
            difference (time (target g i)) (time (source g i)),
            sum (x (target g i)) (neg_ℤ (least g i)),
            negation (least g i),
          );
      to_most = λ i l.
          omega (
            linear,
            arcs.meets (forth i l),
            times (source g i) (ends i l).source_known,
            times (target g i) (ends i l).target_known,
            difference (x (source g i)) (x 0),
            difference (x (target g i)) (x 0),
            difference (time (target g i)) (time (source g i)),
            sum (x (source g i)) (most g i),
          );
    }

pub hard_of : {g : Graph} {x : ℕ → ℤ} → ((i : ℕ) → i < rules g → EndsKept g i) → 0 < g.events → MeetsArcs g x → HardTimes g (λ v. x v -ℤ x 0)
hard_of ends some arcs = hard_shifted ends some arcs (λ v l. refl)

-- ---- searching the arcs

pub ≤ℤ-dec : (a b : ℤ) → Dec (a ≤ℤ b)
≤ℤ-dec a b = by (le_z a b) refl
  where
    by : (t : Bool) → le_z a b ≡ t → Dec (a ≤ℤ b)
    by true e = yes (omega linear)
    by false e = no (λ h. omega linear)

module _ (g : Graph) (Q : ℕ → ℕ → ℤ → Type 0) (test : (a b : ℕ) (w : ℤ) → Dec (Q a b w)) where
  -- both arcs of a rule pass
  abbrev Passes : ℕ → Type 0
  Passes i = Q (source g i) (target g i) (most g i) × Q (target g i) (source g i) (neg_ℤ (least g i))

  abbrev Fails : Type 0
  Fails = (a : ℕ) × (b : ℕ) × (w : ℤ) × Arc g a b w × (Q a b w → ⊥)

  search_rules : (r : ℕ) → r ≤ rules g → ((i : ℕ) → i < r → Passes i) ⊎ Fails
  search_rules zero l = inl (λ i none. absurd (not-suc-le-zero none))
  search_rules (suc r) l = by (search_rules r (omega arith)) (test (source g r) (target g r) (most g r)) (test (target g r) (source g r) (neg_ℤ (least g r)))
    where
      by : ((i : ℕ) → i < r → Passes i) ⊎ Fails → Dec (Q (source g r) (target g r) (most g r)) → Dec (Q (target g r) (source g r) (neg_ℤ (least g r))) → ((i : ℕ) → i < suc r → Passes i) ⊎ Fails
      by (inr found) f b = inr found
      by (inl before) (no f) b = inr (source g r, target g r, most g r, forth r l, f)
      by (inl before) (yes f) (no b) = inr (target g r, source g r, neg_ℤ (least g r), back r l, b)
      by (inl before) (yes f) (yes b) = inl (below_next Passes r before (f, b))

  pub search_arcs : ((a b : ℕ) (w : ℤ) → Arc g a b w → Q a b w) ⊎ Fails
  search_arcs = by (search_rules (rules g) (omega arith))
    where
      at : ((i : ℕ) → i < rules g → Passes i) → (a b : ℕ) (w : ℤ) → Arc g a b w → Q a b w
      at all a b w (forth i l) = (all i l).0
      at all a b w (back i l) = (all i l).1

      by : ((i : ℕ) → i < rules g → Passes i) ⊎ Fails → ((a b : ℕ) (w : ℤ) → Arc g a b w → Q a b w) ⊎ Fails
      by (inl all) = inl (at all)
      by (inr found) = inr found
