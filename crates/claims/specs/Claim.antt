-- Claims: a claimed number for the gap between two events, with a list of event times and one of rule delays. Document 02, wish 5.
--     RightAt g delay time v      == what an execution asks of event v and of the delays into it holds
--     BrokenAt g delay time v     == v is an event at which an execution's rule is broken
--     Holds g s t x delay time    == the claim of x is right: by this it is accepted
--     WrongLists g times delays   == the lists are not of exactly n and r places
--     ClaimVerdict g s t …        == the refusals of a claim, in this order: 21, 22, 2, 3, 4, 5, 6
--     Stands g s t x delay time j == j is the verdict on a claim that isn't refused
--     numbers_of a                 == the numbers of each answer: those of a judgement, with refusal 0; or the refusal's number and place, all else 0
--     Accepts a                   == the claim is accepted
--     Judged g s t x times delays a == a is the answer: the refusal, or the judgement
--     JudgedAs …                  == the same, of its numbers
-- An execution is that of executions/specs/Execution.antt, "our maximum" that of Separation.antt there. The claimed number, times and delays are whole numbers
-- without limit here. Assumes nothing.
use Rattle.std.specs.Prelude.{◌≡◌, ◌⊎◌, Result, Ok, Err, IfOk, List, ◌∷◌, ◌++◌, ℕ, ◌<◌, ℤ, pos, ◌+ℤ◌, ◌-ℤ◌, ◌≤ℤ◌, ◌<ℤ◌, length}
use Rattle.verdicts.specs.Verdict.{Check, check, FirstOf, AtZero, Lowest}
use Rattle.graphs.specs.Graph.{Graph, rules, source, target, least, most, Greatest}
use Rattle.graphs.specs.Refusal.{EventsOutside, RulesOutside, MissingEnd, rule_checks, path_checks}
use Rattle.executions.specs.Execution.{Execution}
use Rattle.executions.specs.Separation.{Separation}
use Rattle.refusals.specs.declared.Refusal.{Refusal}
use Rattle.refusals.specs.Numbers.{number_of, place_of}
use Rattle.separation.specs.Promise.{at}
use Rattle.claims.specs.declared.Judgement.{Judgement}
use Rattle.claims.specs.declared.Judgement.TheVariants.{Maximum, Below, Broken, Differs}
use Rattle.claims.specs.declared.Numbers.{Numbers}

-- 01's sentences, event by event: "Each rule takes one delay from d to D. The root is at time 0. Every other event is at the greatest value of (time of source +
-- delay taken) over its incoming rules."; "a delay outside its interval counting at its rule's target, a root not at 0 at event 0"
pub record RightAt (g : Graph) (delay time : ℕ → ℤ) (v : ℕ) : Type 0 where
  pub from_least : (i : ℕ) → i < rules g → target g i ≡ v → least g i ≤ℤ delay i
  pub to_most : (i : ℕ) → i < rules g → target g i ≡ v → delay i ≤ℤ most g i
  pub root : v ≡ 0 → time v ≡ pos 0
  pub other : (v ≡ 0 → ⊥) → Greatest g v (λ i. time (source g i) +ℤ delay i) (time v)

-- "event at which an execution's rule is broken"
pub record BrokenAt (g : Graph) (delay time : ℕ → ℤ) (v : ℕ) : Type 0 where
  pub is_event : v < g.events
  pub broken : RightAt g delay time v → ⊥

-- "Accept a claim exactly if the lists form an execution in the sense of 01 and the target's time minus the source's equals the claimed number"
pub record Holds (g : Graph) (s t : ℕ) (claimed : ℤ) (delay time : ℕ → ℤ) : Type 0 where
  pub execution : Execution g delay time
  pub equals : time t -ℤ time s ≡ claimed

-- "Lists of wrong length are refusal 22": a longer list is wrong too
abbrev pub WrongLists : Graph → List ℤ → List ℤ → Type 0
WrongLists g times delays = (length times ≡ g.events → ⊥) ⊎ (length delays ≡ rules g → ⊥)

-- the analysis's refusals; a list of wrong length counts with the rule lists
abbrev pub claim_checks : Graph → ℕ → ℕ → List ℤ → List ℤ → List Check
claim_checks g s t times delays =
    check 21 (AtZero (EventsOutside 1024 g.events))
    ∷ (check 22 (AtZero (RulesOutside 4096 g ⊎ WrongLists g times delays)) ∷ (rule_checks 1000000 g ++ (check 4 (MissingEnd g s t) ∷ path_checks g)))

abbrev pub ClaimVerdict : Graph → ℕ → ℕ → List ℤ → List ℤ → ℕ → ℕ → Type 0
ClaimVerdict g s t times delays = FirstOf (claim_checks g s t times delays)

-- "A rejected claim names the lowest event at which an execution's rule is broken … if none, it says that the number differs"; "Then say whether it equals our
-- maximum or lies below it"
pub data Stands (g : Graph) (s t : ℕ) (claimed : ℤ) (delay time : ℕ → ℤ) : Judgement → Type 0 where
  broken : {v : ℕ} → Lowest (BrokenAt g delay time) v → Stands g s t claimed delay time (Broken v)
  differs : Execution g delay time → (time t -ℤ time s ≡ claimed → ⊥) → Stands g s t claimed delay time Differs
  below : Holds g s t claimed delay time → (x : ℤ) → Separation g s t x → claimed <ℤ x → Stands g s t claimed delay time Below
  maximum : Holds g s t claimed delay time → Separation g s t claimed → Stands g s t claimed delay time Maximum

-- refusal and place, the verdict's number, and the broken event; 0 where there is none
abbrev pub numbers_of : Result Judgement Refusal → Numbers
numbers_of (Ok Maximum) = record { refusal = 0; place = 0; verdict = 1; event = 0 }
numbers_of (Ok Below) = record { refusal = 0; place = 0; verdict = 2; event = 0 }
numbers_of (Ok (Broken v)) = record { refusal = 0; place = 0; verdict = 3; event = v }
numbers_of (Ok Differs) = record { refusal = 0; place = 0; verdict = 4; event = 0 }
numbers_of (Err r) = record { refusal = number_of r; place = place_of r; verdict = 0; event = 0 }

-- 1 and 2 are the numbers of an accepted claim
abbrev pub Accepts : Result Judgement Refusal → Type 0
Accepts a = ((numbers_of a).verdict ≡ 1) ⊎ ((numbers_of a).verdict ≡ 2)

pub record Judged (g : Graph) (s t : ℕ) (claimed : ℤ) (times delays : List ℤ) (a : Result Judgement Refusal) : Type 0 where
  pub refusal : ClaimVerdict g s t times delays (numbers_of a).refusal (numbers_of a).place
  pub verdict : IfOk a (Stands g s t claimed (at delays) (at times))

-- the same of the numbers of an answer
pub record JudgedAs (g : Graph) (s t : ℕ) (claimed : ℤ) (times delays : List ℤ) (n : Numbers) : Type 0 where
  pub judgement : Result Judgement Refusal
  pub judged : Judged g s t claimed times delays judgement
  pub numbers : n ≡ numbers_of judgement
