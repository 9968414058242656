-- Which refusal is given under hard deadlines.
--     hard_verdict_unique     a question has one verdict
--     unreached_first         an event that isn't reached is refused with 6, whether there are hard times or not
--     local_room              lists of 1,024 and 4,096 places are too short only where a count is outside
--     counts_refused          a refusal of the counts is given
--     short_refused           a list that is too short is refused
--     short_given             and with 23, where the counts are kept
--     handed_on               and a refusal of the analysis
--     hard_short              "too short" may be said in two ways
--     refused_10, accepted_0  where the analysis refuses nothing, 10 is given where there are no hard times, and nothing is refused where there are some
-- Assumes nothing.
use mathlib.Core.Path.{◌≡◌}
use mathlib.Core.Logic.{inl, inr}
use mathlib.Core.List.{List, [], ◌∷◌, ◌++◌}
use Prim.Native.Nat.{ℕ, ◌<◌}
use native.Mathlib.Omega.{arith}
use lib.IntN.{ℤ}
use lib.ListN.{length}
use Rattle.verdicts.specs.Verdict.{Check, check, AtZero, Lowest, FirstThen, FirstOf, given, passed}
use Rattle.verdicts.proofs.Verdicts.{NoneApplies, at_zero, at_zero_unique, holds_not, one_verdict, then_unique, passed_all, then_more, then_more_after, front_given, accepted_none, none_accepted, more_alike, alike_refl, then_alike}
use Rattle.graphs.specs.Graph.{Graph}
use Rattle.graphs.specs.Path.{HasCycle}
use Rattle.graphs.specs.Limits.{CountsKept, EventGraph}
use Rattle.graphs.specs.Refusal.{many_events, many_rules, MissingEnd, Unreached, count_checks, rule_checks, question_checks, path_checks}
use Rattle.graphs.proofs.Refusals.{question_places, path_places, events_miss, rules_miss, question_none, path_none, cycle_misses, short_alike}
use Rattle.refusals.proofs.Counts.{counts_given}
use Rattle.hardtimes.specs.HardTimes.{HardTimes, NoHardTimes}
use Rattle.separation.specs.Promise.{ShortLists, Verdict, PathVerdict}
use Rattle.deadlines.specs.Promise.{HardVerdict}

abbrev hard_rest : Graph → ℕ → ℕ → Type 0
hard_rest g = FirstThen (path_checks g) (FirstOf (check 10 (AtZero (NoHardTimes g)) ∷ []))

pub unreached_first : {g : Graph} {s t p : ℕ} {Short : Type 0} → NoneApplies (question_checks g s t Short) → (HasCycle g → ⊥) → Lowest (Unreached g) p → HardVerdict g s t Short 6 p
unreached_first {g} {s} {t} {p} {Short} none acyclic lowest = passed_all (question_checks g s t Short) (hard_rest g) 6 p none (passed (cycle_misses acyclic) (given lowest))

pub hard_verdict_unique : {g : Graph} {s t : ℕ} {Short : Type 0} {i p j q : ℕ} → HardVerdict g s t Short i p → HardVerdict g s t Short j q → (i ≡ j) × (p ≡ q)
hard_verdict_unique {g} {s} {t} {Short} {i} {p} {j} {q} v w =
    then_unique (question_checks g s t Short) (question_places g s t Short)
    (then_unique (path_checks g) (path_places g) (one_verdict (check 10 (AtZero (NoHardTimes g)) ∷ []) (at_zero_unique, tt)))
    i p j q v w

-- ---- lent lists

-- a list of 1,024 or 4,096 places is too short only where 21 or 22 is given
module _ {g : Graph} (times delays : List ℤ) (long : length times ≡ 1024) (wide : length delays ≡ 4096) where
  never : NoneApplies (count_checks 1024 4096 g) → ShortLists g times delays → ⊥
  never none (inl l) = holds_not none.0 (many_events (omega (arith, long)))
  never none (inr l) = holds_not none.1.0 (many_rules (omega (arith, wide)))

  pub local_room : {s t j p : ℕ} → Verdict g s t (ShortLists g times delays) j p → Verdict g s t ⊥ j p
  local_room {s} {t} {j} {p} =
      then_more_after (count_checks 1024 4096 g) (first (ShortLists g times delays)) (first ⊥) j p
      (λ none. then_alike (more_alike (λ q a. absurd (never none a.holds)) (λ q a. absurd a.holds) (alike_refl after)) (PathVerdict g) j p)
    where
      after : List Check
      after = rule_checks 1000000 g ++ (check 4 (MissingEnd g s t) ∷ [])

      first : Type 0 → ℕ → ℕ → Type 0
      first Short = FirstThen (check 23 (AtZero Short) ∷ after) (PathVerdict g)

pub short_refused : {g : Graph} {s t j p : ℕ} {Short : Type 0} → Short → Verdict g s t Short j p → j ≡ 0 → ⊥
short_refused {g} {s} {t} {j} {p} {Short} short v e =
    let (none, rest) = accepted_none (question_checks g s t Short) (PathVerdict g) (omega arith, (omega arith, (omega arith, (omega arith, (omega arith, (omega arith, tt)))))) j p e v in
    none.1.1.0 0 (at_zero short)

module _ {g : Graph} {s t : ℕ} where
  pub hard_short : {A B : Type 0} → (A → B) → (B → A) → {j p : ℕ} → HardVerdict g s t A j p → HardVerdict g s t B j p
  hard_short f h {j} {p} v = then_alike (short_alike f h) (hard_rest g) j p v

  pub counts_refused : {Short : Type 0} {j p : ℕ} → (j ≡ 0 → ⊥) → FirstOf (count_checks 1024 4096 g) j p → HardVerdict g s t Short j p
  counts_refused some v = counts_given _ some v

  pub short_given : {Short : Type 0} → CountsKept g → Short → HardVerdict g s t Short 23 0
  short_given counts short = passed (events_miss counts) (passed (rules_miss counts) (given (at_zero short)))

  -- ---- after the analysis

  pub handed_on : {Short : Type 0} {j p : ℕ} → (j ≡ 0 → ⊥) → Verdict g s t Short j p → HardVerdict g s t Short j p
  handed_on {Short} {j} {p} some v =
      then_more (question_checks g s t Short) (PathVerdict g) (hard_rest g) j p
      (front_given (path_checks g) (FirstOf (check 10 (AtZero (NoHardTimes g)) ∷ [])) j p some) v

  module _ (eg : EventGraph 1000000 g) (hs : s < g.events) (ht : t < g.events) where
    after_all : {j p : ℕ} → FirstOf (check 10 (AtZero (NoHardTimes g)) ∷ []) j p → HardVerdict g s t ⊥ j p
    after_all {j} {p} v =
        passed_all (question_checks g s t ⊥) (hard_rest g) j p (question_none (λ none. none) eg.sized hs ht)
        (passed_all (path_checks g) (FirstOf (check 10 (AtZero (NoHardTimes g)) ∷ [])) j p (path_none eg.acyclic eg.reachable) v)

    pub refused_10 : NoHardTimes g → HardVerdict g s t ⊥ 10 0
    refused_10 none = after_all (given (at_zero none))

    pub accepted_0 : {time : ℕ → ℤ} → HardTimes g time → HardVerdict g s t ⊥ 0 0
    accepted_0 {time} hard = after_all (none_accepted (check 10 (AtZero (NoHardTimes g)) ∷ []) (λ p a. a.holds time hard, tt))
