-- The verdict on the counts of a graph, with the limits top of events and most of rules.
--     count_21_none, count_21_many, count_22, count_0    refusals 21 and 22, and that neither applies, each from the facts that shut out the earlier ones
--     counts_of           where neither applies with 01's limits, the counts are kept
--     counts_in           and with lesser limits the counts are within these
--     counts_given        a refusal of the counts is the refusal of what is asked after them
-- Assumes nothing.
use mathlib.Core.Path.{◌≡◌}
use Prim.Native.Nat.{ℕ, ◌<◌, ◌≤◌}
use native.Mathlib.Omega.{arith}
use lib.ListN.{length}
use Rattle.verdicts.specs.Verdict.{given, passed, Accepted, FirstThen, FirstOf}
use Rattle.verdicts.proofs.Verdicts.{NoneApplies, at_zero, misses_at_zero, holds_not, none_accepted, accepted_none, front_given}
use Rattle.graphs.specs.Graph.{Graph, rules}
use Rattle.graphs.specs.Limits.{CountsKept}
use Rattle.graphs.specs.Refusal.{EventsOutside, no_events, many_events, RulesOutside, many_rules, targets_differ, leasts_differ, mosts_differ, count_checks}
use Rattle.graphs.proofs.Unique.{counts_kept}

events_in : {top n : ℕ} → (n ≡ 0 → ⊥) → n ≤ top → EventsOutside top n → ⊥
events_in some few (no_events e) = some e
events_in some few (many_events l) = omega arith

rules_in : {most : ℕ} {g : Graph} → rules g ≤ most → length g.targets ≡ rules g → length g.leasts ≡ rules g → length g.mosts ≡ rules g → RulesOutside most g → ⊥
rules_in few targets leasts mosts (many_rules l) = omega arith
rules_in few targets leasts mosts (targets_differ d) = d targets
rules_in few targets leasts mosts (leasts_differ d) = d leasts
rules_in few targets leasts mosts (mosts_differ d) = d mosts

module _ {top most : ℕ} {g : Graph} where
  pub count_21_none : g.events ≡ 0 → FirstOf (count_checks top most g) 21 0
  count_21_none e = given (at_zero (no_events e))

  pub count_21_many : top < g.events → FirstOf (count_checks top most g) 21 0
  count_21_many l = given (at_zero (many_events l))

  pub count_22 : (g.events ≡ 0 → ⊥) → g.events ≤ top → RulesOutside most g → FirstOf (count_checks top most g) 22 0
  count_22 some few h = passed (misses_at_zero (events_in some few)) (given (at_zero h))

  pub count_0 : (g.events ≡ 0 → ⊥) → g.events ≤ top → rules g ≤ most → length g.targets ≡ rules g → length g.leasts ≡ rules g → length g.mosts ≡ rules g → FirstOf (count_checks top most g) 0 0
  count_0 some few few_rules targets leasts mosts =
      none_accepted (count_checks top most g) (misses_at_zero (events_in some few), (misses_at_zero (rules_in few_rules targets leasts mosts), tt))

  pub counts_none : {j p : ℕ} → j ≡ 0 → FirstOf (count_checks top most g) j p → NoneApplies (count_checks top most g)
  counts_none {j} {p} e v = (accepted_none (count_checks top most g) Accepted (omega arith, (omega arith, tt)) j p e v).0

  pub counts_given : (Rest : ℕ → ℕ → Type 0) {j p : ℕ} → (j ≡ 0 → ⊥) → FirstOf (count_checks top most g) j p → FirstThen (count_checks top most g) Rest j p
  counts_given Rest {j} {p} some v = front_given (count_checks top most g) Rest j p some v

  pub counts_in : NoneApplies (count_checks top most g) → (0 < g.events) × (g.events ≤ top) × (rules g ≤ most)
  counts_in none =
      let some : g.events ≡ 0 → ⊥ = λ e. holds_not none.0 (no_events e) in
      let few : top < g.events → ⊥ = λ l. holds_not none.0 (many_events l) in
      let few_rules : most < rules g → ⊥ = λ l. holds_not none.1.0 (many_rules l) in
      (omega arith, omega arith, omega arith)

pub counts_of : {g : Graph} {j p : ℕ} → j ≡ 0 → FirstOf (count_checks 1024 4096 g) j p → CountsKept g
counts_of {g} {j} {p} e v =
    let none : NoneApplies (count_checks 1024 4096 g) = counts_none e v in
    counts_kept (holds_not none.0) (holds_not none.1.0)
