-- That a question has one verdict, and which lists of checks give the same one.
--     cycle_first           the lowest event on a cycle is refused with 5, whatever is reached
--     verdict_unique        two numbers and places that the verdict allows are equal
--     answered_short        two ways to say that a list is too short give one verdict
-- Assumes nothing.
use mathlib.Core.Path.{◌≡◌}
use Prim.Native.Nat.{ℕ}
use Rattle.verdicts.specs.Verdict.{given, Lowest}
use Rattle.verdicts.proofs.Verdicts.{then_unique, one_verdict, then_alike}
use Rattle.graphs.specs.Graph.{Graph}
use Rattle.graphs.specs.Path.{OnCycle}
use Rattle.graphs.specs.Refusal.{question_checks, path_checks}
use Rattle.graphs.proofs.Refusals.{question_places, path_places, short_alike}
use Rattle.separation.specs.declared.Answer.{Answer}
use Rattle.separation.specs.Promise.{PathVerdict, Verdict, Answered}

-- "a graph with a cycle and an unreached event gets 5"
pub cycle_first : {g : Graph} {p : ℕ} → Lowest (OnCycle g) p → PathVerdict g 5 p
cycle_first h = given h

pub verdict_unique : {g : Graph} {s t : ℕ} {Short : Type 0} {i p j q : ℕ} → Verdict g s t Short i p → Verdict g s t Short j q → (i ≡ j) × (p ≡ q)
verdict_unique {g} {s} {t} {Short} {i} {p} {j} {q} v w =
    then_unique (question_checks g s t Short) (question_places g s t Short) (one_verdict (path_checks g) (path_places g)) i p j q v w

module _ {g : Graph} {s t : ℕ} {A B : Type 0} (f : A → B) (h : B → A) where
  pub answered_short : {a : Answer} → Answered g s t A a → Answered g s t B a
  answered_short {a} x = record { verdict = then_alike (short_alike f h) (PathVerdict g) a.refusal a.place x.verdict; found = x.found; nothing = x.nothing }
