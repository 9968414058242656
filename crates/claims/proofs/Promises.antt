-- What the promise of `judge` says of its judgements, and that it allows one.
--     judgement_unique     two answers allowed for one claim are equal
--     judged_as_unique     and so are their numbers
--     numbers_unique       what the numbers of an answer may be is one
--     judged_exactly       a refusal is given exactly when its rule says
--     numbers_apart        answers with the same numbers are the same
--     accepted_exactly     a claim is accepted exactly if it is right
--     accepted_not_above   no accepted claim lies above the maximum
--     schedule_accepted    a schedule that we write is accepted as the maximum
-- Assumes nothing.
use Rattle.std.specs.Prelude.{IfOk}
use Rattle.std.proofs.Common.{Result, Ok, Err, cond, eqb}
use mathlib.Core.Path.{◌≡◌, refl, sym, ap, subst, ◌∙◌}
use mathlib.Core.Logic.{inl, inr, ⊎_elim, ◌↔◌}
use mathlib.Core.List.{List}
use Prim.Native.Nat.{ℕ, ◌<◌}
use native.Mathlib.Omega.{arith}
use lib.IntN.{ℤ, ◌-ℤ◌}
use lib.Signed.{◌≤ℤ◌, ◌<ℤ◌}
use Rattle.integers.proofs.Integer.{linear}
use Rattle.verdicts.specs.Verdict.{Lowest}
use Rattle.verdicts.proofs.Verdicts.{OnePlaces, lowest_unique, at_zero_unique, one_verdict}
use Rattle.graphs.specs.Graph.{Graph}
use Rattle.graphs.proofs.Refusals.{missing_end_unique}
use Rattle.executions.specs.Execution.{Execution}
use Rattle.executions.specs.Separation.{Separation}
use Rattle.executions.specs.Schedule.{Schedule}
use Rattle.executions.proofs.Unique.{separation_unique}
use Rattle.refusals.specs.declared.Refusal.{Refusal}
use Rattle.refusals.proofs.Unique.{same_refusal, some_number}
use Rattle.separation.specs.Promise.{at}
use Rattle.claims.specs.declared.Judgement.{Judgement}
use Rattle.claims.specs.declared.Judgement.TheVariants.{Maximum, Below, Broken, Differs}
use Rattle.claims.specs.declared.Numbers.{Numbers}
use Rattle.claims.specs.Claim.{BrokenAt, Holds, Stands, broken, differs, below, maximum, claim_checks, ClaimVerdict, numbers_of, Accepts, Judged, JudgedAs}
use Rattle.claims.proofs.Executions.{right_of, never_above}

-- ---- one verdict

not_both : {g : Graph} {delay time : ℕ → ℤ} {v : ℕ} → Lowest (BrokenAt g delay time) v → Execution g delay time → ⊥
not_both {v = v} low x = low.holds.broken (right_of x v low.holds.is_event)

not_below : {g : Graph} {s t : ℕ} {claimed x : ℤ} → Separation g s t claimed → Separation g s t x → claimed <ℤ x → ⊥
not_below a b less = omega (linear, separation_unique a b)

module _ {g : Graph} {s t : ℕ} {claimed : ℤ} {delay time : ℕ → ℤ} where
  stands_unique : {j k : Judgement} → Stands g s t claimed delay time j → Stands g s t claimed delay time k → j ≡ k
  stands_unique (broken {v = v} a) (broken {v = w} b) = ap Broken (lowest_unique v w a b)
  stands_unique (broken a) (differs x n) = absurd (not_both a x)
  stands_unique (broken a) (below h x m l) = absurd (not_both a h.execution)
  stands_unique (broken a) (maximum h m) = absurd (not_both a h.execution)
  stands_unique (differs x n) (broken b) = absurd (not_both b x)
  stands_unique (differs x n) (differs y m) = refl
  stands_unique (differs x n) (below h y m l) = absurd (n h.equals)
  stands_unique (differs x n) (maximum h m) = absurd (n h.equals)
  stands_unique (below h x m l) (broken b) = absurd (not_both b h.execution)
  stands_unique (below h x m l) (differs y n) = absurd (n h.equals)
  stands_unique (below h x m l) (below k y n o) = refl
  stands_unique (below h x m l) (maximum k n) = absurd (not_below n m l)
  stands_unique (maximum h m) (broken b) = absurd (not_both b h.execution)
  stands_unique (maximum h m) (differs y n) = absurd (n h.equals)
  stands_unique (maximum h m) (below k y n o) = absurd (not_below m n o)
  stands_unique (maximum h m) (maximum k n) = refl

  accepted_holds : (x : Result Judgement Refusal) → IfOk x (Stands g s t claimed delay time) → Accepts x → Holds g s t claimed delay time
  accepted_holds (Ok Maximum) (maximum h m) e = h
  accepted_holds (Ok Below) (below h x m l) e = h
  accepted_holds (Ok (Broken v)) (broken a) e = absurd (⊎_elim {C = ⊥} (λ one. omega arith) (λ two. omega arith) e)
  accepted_holds (Ok Differs) (differs x n) e = absurd (⊎_elim {C = ⊥} (λ one. omega arith) (λ two. omega arith) e)
  accepted_holds (Err r) z e = absurd (⊎_elim {C = ⊥} (λ one. omega arith) (λ two. omega arith) e)

  holds_accepted : (j : Judgement) → Stands g s t claimed delay time j → Holds g s t claimed delay time → Accepts (Ok j)
  holds_accepted (Broken v) (broken a) h = absurd (not_both a h.execution)
  holds_accepted Differs (differs x n) h = absurd (n h.equals)
  holds_accepted Below (below _ x m l) h = inr refl
  holds_accepted Maximum (maximum _ m) h = inl refl

-- ---- one judgement

no_refusal : (j : Judgement) → (numbers_of (Ok j)).refusal ≡ 0
no_refusal Maximum = refl
no_refusal Below = refl
no_refusal (Broken v) = refl
no_refusal Differs = refl

claim_places : (g : Graph) (s t : ℕ) (times delays : List ℤ) → OnePlaces (claim_checks g s t times delays)
claim_places g s t times delays = (at_zero_unique, (at_zero_unique, (lowest_unique, (lowest_unique, (missing_end_unique, (lowest_unique, (lowest_unique, tt)))))))

module _ {g : Graph} {s t : ℕ} {claimed : ℤ} {times delays : List ℤ} where
  pub judged_exactly : {x : Result Judgement Refusal} → Judged g s t claimed times delays x → {k p : ℕ} → ClaimVerdict g s t times delays k p → ((numbers_of x).refusal ≡ k) × ((numbers_of x).place ≡ p)
  judged_exactly {x} a {k} {p} v =
      one_verdict (claim_checks g s t times delays) (claim_places g s t times delays) (numbers_of x).refusal (numbers_of x).place k p a.refusal v

  pub judgement_unique : {x y : Result Judgement Refusal} → Judged g s t claimed times delays x → Judged g s t claimed times delays y → x ≡ y
  judgement_unique {x} {y} a b = by x y a b (judged_exactly a b.refusal)
    where
      by : (x y : Result Judgement Refusal) → Judged g s t claimed times delays x → Judged g s t claimed times delays y → ((numbers_of x).refusal ≡ (numbers_of y).refusal) × ((numbers_of x).place ≡ (numbers_of y).place) → x ≡ y
      by (Ok j) (Ok k) a b same = ap Ok (stands_unique a.verdict b.verdict)
      by (Ok j) (Err r) a b same = absurd (some_number r (sym same.0 ∙ no_refusal j))
      by (Err r) (Ok k) a b same = absurd (some_number r (same.0 ∙ no_refusal k))
      by (Err r) (Err q) a b same = ap Err (same_refusal r q same.0 same.1)

  module _ {x : Result Judgement Refusal} (a : Judged g s t claimed times delays x) (answered : (numbers_of x).refusal ≡ 0) where
    -- "Accept a claim exactly if the lists form an execution in the sense of 01 and the target's time minus the source's equals the claimed number"
    pub accepted_exactly : Accepts x ↔ Holds g s t claimed (at delays) (at times)
    accepted_exactly = (accepted_holds x a.verdict, by x a.verdict answered)
      where
        by : (x : Result Judgement Refusal) → IfOk x (Stands g s t claimed (at delays) (at times)) → (numbers_of x).refusal ≡ 0 → Holds g s t claimed (at delays) (at times) → Accepts x
        by (Ok j) stands z h = holds_accepted j stands h
        by (Err r) stands z h = absurd (some_number r z)

    -- "that none lies above is to be shown"
    pub accepted_not_above : Accepts x → {top : ℤ} → Separation g s t top → claimed ≤ℤ top
    accepted_not_above e m = never_above (accepted_holds x a.verdict e) m

    -- the schedule reaches the maximum
    pub schedule_accepted : Schedule g s (at delays) (at times) → t < g.events → at times t -ℤ at times s ≡ claimed → x ≡ Ok Maximum
    schedule_accepted written h e = by x a.verdict answered
      where
        by : (x : Result Judgement Refusal) → IfOk x (Stands g s t claimed (at delays) (at times)) → (numbers_of x).refusal ≡ 0 → x ≡ Ok Maximum
        by (Ok j) stands z = ap Ok (stands_unique stands (maximum (record { execution = written.execution; equals = e }) (subst (Separation g s t) e (written.latest t h))))
        by (Err r) stands z = absurd (some_number r z)

-- ---- the numbers tell the cases apart

back : Numbers → Judgement
back n = cond (eqb n.verdict 1) Maximum (cond (eqb n.verdict 2) Below (cond (eqb n.verdict 3) (Broken n.event) Differs))

told : (j : Judgement) → back (numbers_of (Ok j)) ≡ j
unfolding back
told Maximum = refl
told Below = refl
told (Broken v) = refl
told Differs = refl

pub numbers_apart : (x y : Result Judgement Refusal) → numbers_of x ≡ numbers_of y → x ≡ y
numbers_apart (Ok j) (Ok k) e = ap Ok (sym (told j) ∙ ap back e ∙ told k)
numbers_apart (Ok j) (Err r) e = absurd (some_number r ((λ i. (sym e i).refusal) ∙ no_refusal j))
numbers_apart (Err r) (Ok k) e = absurd (some_number r ((λ i. (e i).refusal) ∙ no_refusal k))
numbers_apart (Err r) (Err q) e = ap Err (same_refusal r q (λ i. (e i).refusal) (λ i. (e i).place))

pub numbers_unique : (x : Result Judgement Refusal) {m n : Numbers} → m ≡ numbers_of x → n ≡ numbers_of x → m ≡ n
numbers_unique x a b = a ∙ sym b

pub judged_as_unique : {g : Graph} {s t : ℕ} {claimed : ℤ} {times delays : List ℤ} {m n : Numbers} → JudgedAs g s t claimed times delays m → JudgedAs g s t claimed times delays n → m ≡ n
judged_as_unique a b = a.numbers ∙ ap numbers_of (judgement_unique a.judged b.judged) ∙ sym b.numbers
