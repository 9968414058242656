-- From what `check_counts`, `separation` and the parts promise to the promise of `judge`.
--     judged_counts      counts outside their limits are refused
--     judged_lists       else lists of wrong length are refused with 22
--     judged_handed      and where they are right, what the analysis refuses is handed on
--     judged_broken      a broken event is named
--     small              where no event is broken the lists form an execution, and its times are small
--     judged_number      then the number decides
-- Assumes nothing.
use Rattle.std.proofs.Common.{Ok, Err}
use mathlib.Core.Path.{◌≡◌, refl, subst}
use mathlib.Core.Logic.{inl, inr, ⊎_elim}
use mathlib.Core.List.{List}
use Prim.Native.Nat.{ℕ, ◌<◌}
use lib.IntN.{ℤ, ◌-ℤ◌}
use mir.Syntax.{w64}
use mir.Val.{SFits, to_z, of_z}
use mir.Facts.{to_z-of_z}
use Rattle.integers.specs.Within.{Within}
use Rattle.integers.proofs.Integer.{linear}
use Rattle.verdicts.specs.Verdict.{given, passed, accepted, FirstOf, FoundAt}
use Rattle.verdicts.proofs.Verdicts.{at_zero}
use Rattle.graphs.specs.Graph.{Graph}
use Rattle.graphs.specs.Limits.{CountsKept, EventGraph}
use Rattle.graphs.specs.Refusal.{count_checks}
use Rattle.graphs.proofs.Refusals.{events_miss}
use Rattle.executions.specs.Execution.{Execution}
use Rattle.executions.specs.Separation.{Separation}
use Rattle.executions.proofs.Sizes.{times_within}
use Rattle.refusals.specs.declared.Refusal.{Refusal}
use Rattle.refusals.specs.declared.Refusal.TheVariants.{RulesOutside}
use Rattle.refusals.specs.Numbers.{number_of, place_of}
use Rattle.refusals.proofs.Unique.{some_number}
use Rattle.separation.specs.Promise.{Verdict, at}
use Rattle.claims.specs.declared.Judgement.{Judgement}
use Rattle.claims.specs.declared.Judgement.TheVariants.{Maximum, Below, Broken, Differs}
use Rattle.claims.specs.Claim.{RightAt, Holds, WrongLists, ClaimVerdict, Stands, broken, differs, below, maximum, numbers_of, Judged}
use Rattle.claims.specs.Parts.Verdicts.{NumberJudged}
use Rattle.claims.proofs.Executions.{never_above}

-- ---- the refusal

module _ (g : Graph) (s t : ℕ) (times delays : List ℤ) where
  counts_refused : {j p : ℕ} → FirstOf (count_checks 1024 4096 g) j p → (j ≡ 0 → ⊥) → ClaimVerdict g s t times delays j p
  counts_refused (given a) some = given a
  counts_refused (passed none (given a)) some = passed none (given (record { zero_place = a.zero_place; holds = inl a.holds }))
  counts_refused (passed none (passed none' accepted)) some = absurd (some refl)

  handed_on : {j p : ℕ} → Verdict g s t ⊥ j p → (WrongLists g times delays → ⊥) → ClaimVerdict g s t times delays j p
  handed_on (given a) right = given a
  handed_on (passed none (given a)) right = passed none (given (record { zero_place = a.zero_place; holds = inl a.holds }))
  handed_on (passed none (passed none' (given a))) right = absurd a.holds
  handed_on (passed none (passed none' (passed none'' r))) right =
      passed none (passed (λ q a. ⊎_elim (λ outside. none' q (record { zero_place = a.zero_place; holds = outside })) right a.holds) r)

module _ {g : Graph} {s t : ℕ} {times delays : List ℤ} {claimed : ℤ} where
  pub judged_counts : (r : Refusal) → FirstOf (count_checks 1024 4096 g) (number_of r) (place_of r) → Judged g s t claimed times delays (Err r)
  judged_counts r v = record { refusal = counts_refused g s t times delays v (some_number r); verdict = tt }

  pub judged_lists : CountsKept g → WrongLists g times delays → Judged g s t claimed times delays (Err RulesOutside)
  judged_lists counts wrong = record { refusal = passed (events_miss counts) (given (at_zero (inr wrong))); verdict = tt }

  module _ (right : WrongLists g times delays → ⊥) where
    pub judged_handed : (r : Refusal) → Verdict g s t ⊥ (number_of r) (place_of r) → Judged g s t claimed times delays (Err r)
    judged_handed r v = record { refusal = handed_on g s t times delays v right; verdict = tt }

    module _ (v : Verdict g s t ⊥ 0 0) where
      -- ---- the event

      pub judged_broken : {e : ℕ} → FoundAt g.events (RightAt g (at delays) (at times)) (λ v. RightAt g (at delays) (at times) v → ⊥) e → Judged g s t claimed times delays (Ok (Broken e))
      judged_broken h =
          record {
            refusal = handed_on g s t times delays v right;
            verdict = broken (record { holds = record { is_event = h.below; broken = h.bad }; lowest = λ q lower b. b.broken (h.before q lower) });
          }

      -- ---- the number

      module _ (top : ℤ) (m : Separation g s t top) (x : Execution g (at delays) (at times)) where
        pub judged_number : (j : Judgement) → NumberJudged (at times t -ℤ at times s) claimed top j → Judged g s t claimed times delays (Ok j)
        judged_number j n = record { refusal = unrefused j n; verdict = stands j n }
          where
            unrefused : (j : Judgement) → NumberJudged (at times t -ℤ at times s) claimed top j → ClaimVerdict g s t times delays (numbers_of (Ok j)).refusal (numbers_of (Ok j)).place
            unrefused Maximum n = handed_on g s t times delays v right
            unrefused Below n = handed_on g s t times delays v right
            unrefused Differs n = handed_on g s t times delays v right
            unrefused (Broken v) n = absurd n

            stands : (j : Judgement) → NumberJudged (at times t -ℤ at times s) claimed top j → Stands g s t claimed (at delays) (at times) j
            stands (Broken v) n = absurd n
            stands Differs n = differs x n
            stands Below n = below (record { execution = x; equals = n.0 }) top m n.1
            stands Maximum n =
                let holds : Holds g s t claimed (at delays) (at times) = record { execution = x; equals = n.0 } in
                let same : top ≡ claimed = omega (linear, n.1, never_above holds m) in
                maximum holds (subst (Separation g s t) same m)

pub small : {g : Graph} {delay time : ℕ → ℤ} → EventGraph 1000000 g → Execution g delay time → {v : ℕ} → v < g.events → SFits w64 (time v) → Within 1023000000 (to_z w64 (of_z w64 (time v)))
small {time = time} graph x {v} h fits = rw (to_z-of_z fits) (times_within graph.sized graph.acyclic x v h)
