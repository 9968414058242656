-- An execution is a choice of delays and times that are right at every event.
--     right_of             in an execution every event is right
--     execution_of         and where every event is right, there is one
--     right_stable         an event that is not broken is right
--     unbroken_exactly     so no event is broken exactly if the lists form an execution
--     never_above          no claim that is right lies above the maximum
-- Assumes nothing.
use mathlib.Core.Path.{◌≡◌, refl, ap, subst, ◌∙◌}
use mathlib.Core.Bool.{Bool, true, false}
use mathlib.Core.Logic.{◌↔◌}
use Prim.Native.Nat.{ℕ, ◌<◌}
use lib.IntN.{ℤ, pos, ◌+ℤ◌, ℤ_discrete}
use lib.Signed.{◌≤ℤ◌, le_z}
use Rattle.integers.proofs.Integer.{linear}
use Rattle.graphs.specs.Graph.{Graph, source, target, least, most, Greatest}
use Rattle.graphs.specs.Limits.{SoundGraph}
use Rattle.graphs.proofs.Greatest.{greatest_exists, greatest_unique, incoming}
use Rattle.executions.specs.Execution.{Execution}
use Rattle.executions.specs.Separation.{Separation}
use Rattle.claims.specs.Claim.{RightAt, BrokenAt, Holds}

module _ {g : Graph} {delay time : ℕ → ℤ} where
  pub right_of : Execution g delay time → (v : ℕ) → v < g.events → RightAt g delay time v
  right_of x v h =
      record {
        from_least = λ i l to. x.from_least i l;
        to_most = λ i l to. x.to_most i l;
        root = λ z. ap time z ∙ x.root;
        other = λ other. x.others v h other;
      }

  -- "none lies above": the claimed number is the gap of an execution
  pub never_above : {s t : ℕ} {claimed x : ℤ} → Holds g s t claimed delay time → Separation g s t x → claimed ≤ℤ x
  never_above {s} {t} {claimed} {x} h a = subst (λ (y : ℤ). y ≤ℤ x) h.equals (a.bound delay time h.execution)

  module _ (sound : SoundGraph g) where
    pub execution_of : ((v : ℕ) → v < g.events → RightAt g delay time v) → Execution g delay time
    execution_of right =
        record {
          from_least = λ i l. (right (target g i) (sound.ends i l).target_known).from_least i l refl;
          to_most = λ i l. (right (target g i) (sound.ends i l).target_known).to_most i l refl;
          root = (right 0 sound.some_event).root refl;
          others = λ v h other. (right v h).other other;
        }

    module _ (v : ℕ) (h : v < g.events) (unbroken : BrokenAt g delay time v → ⊥) where
      stable : (RightAt g delay time v → ⊥) → ⊥
      stable wrong = unbroken (record { is_event = h; broken = wrong })

      not_less : (a b : ℤ) → ((a ≤ℤ b → ⊥) → ⊥) → a ≤ℤ b
      not_less a b twice = by (le_z a b) refl
        where
          by : (t : Bool) → le_z a b ≡ t → a ≤ℤ b
          by true e = omega linear
          by false e = absurd (twice (λ l. absurd (let no : ⊥ = omega linear in no)))

      greatest : (v ≡ 0 → ⊥) → Greatest g v (λ i. time (source g i) +ℤ delay i) (time v)
      greatest other =
          let (i, l, to) = incoming sound h other in
          let (x, is) = greatest_exists g v (λ i. time (source g i) +ℤ delay i) i l to in
          by x is (ℤ_discrete x (time v))
        where
          by : (x : ℤ) → Greatest g v (λ i. time (source g i) +ℤ delay i) x → Dec (x ≡ time v) → Greatest g v (λ i. time (source g i) +ℤ delay i) (time v)
          by x is (yes same) = subst (Greatest g v (λ i. time (source g i) +ℤ delay i)) same is
          by x is (no apart) = absurd (stable (λ right. apart (greatest_unique is (right.other other) (λ i l to. refl))))

      at_root : v ≡ 0 → Dec (time v ≡ pos 0) → time v ≡ pos 0
      at_root z (yes is) = is
      at_root z (no apart) = absurd (stable (λ right. apart (right.root z)))

      pub right_stable : RightAt g delay time v
      right_stable =
          record {
            from_least = λ i l to. not_less (least g i) (delay i) (λ late. stable (λ right. late (right.from_least i l to)));
            to_most = λ i l to. not_less (delay i) (most g i) (λ late. stable (λ right. late (right.to_most i l to)));
            root = λ z. at_root z (ℤ_discrete (time v) (pos 0));
            other = greatest;
          }

    -- both ways
    pub unbroken_exactly : ((v : ℕ) → BrokenAt g delay time v → ⊥) ↔ Execution g delay time
    unbroken_exactly = (λ none. execution_of (λ v h. right_stable v h (none v)), λ x v b. b.broken (right_of x v b.is_event))
