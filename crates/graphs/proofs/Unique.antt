-- What is unique, and what is left where a refusal does not apply.
--     depth_unique                       an event has one depth
--     counts_kept, events_not_outside, rules_not_outside    the counts are kept just where neither refusal 21 nor 22 applies to the graph
--     known_ends, ends_kept              the same of a rule's events and refusal 2
--     inside_delays, delays_kept         the same of a rule's delays and refusal 3
--     sized_of                           so a graph to which none of the four applies is sized
-- Assumes nothing.
use mathlib.Core.Path.{◌≡◌}
use mathlib.Core.Logic.{◌⊎◌, inl, inr}
use Prim.Native.Nat.{ℕ, ◌+◌, ◌≤◌, ◌<◌}
use native.Mathlib.Omega.{arith}
use lib.IntN.{ℤ, pos}
use lib.Signed.{◌≤ℤ◌, ◌<ℤ◌}
use lib.ListN.{length}
use Rattle.sequences.proofs.Lengths.{stable}
use Rattle.integers.proofs.Integer.{P, N, <ℤ-from, linear, negation}
use Rattle.graphs.specs.Graph.{Graph, rules, source, target, least, most}
use Rattle.graphs.specs.Path.{Depth}
use Rattle.graphs.specs.Limits.{CountsKept, EndsKept, DelaysKept, Sized}
use Rattle.verdicts.specs.Verdict.{Lowest}
use Rattle.verdicts.proofs.Verdicts.{none_lowest}
use Rattle.graphs.specs.Refusal.{EventsOutside, no_events, many_events, RulesOutside, many_rules, targets_differ, leasts_differ, mosts_differ, UnknownEvent, BeyondDelays, least_low, least_high, most_low, most_high, crossed, DelayBeyond}

pub depth_unique : {g : Graph} {v j k : ℕ} → Depth g v j → Depth g v k → j ≡ k
depth_unique a b =
    let (p, p-steps) = a.reached in
    let (q, q-steps) = b.reached in
    omega (arith, a.bound q, b.bound p)

-- ---- refusals 21 and 22

pub counts_kept : {g : Graph} → (EventsOutside 1024 g.events → ⊥) → (RulesOutside 4096 g → ⊥) → CountsKept g
counts_kept {g} no_21 no_22 =
    let some : g.events ≡ 0 → ⊥ = λ e. no_21 (no_events e) in
    let few : 1024 < g.events → ⊥ = λ l. no_21 (many_events l) in
    let few_rules : 4096 < rules g → ⊥ = λ l. no_22 (many_rules l) in
    record {
      some_event = omega arith;
      few_events = omega arith;
      few_rules = omega arith;
      targets_match = stable (length g.targets) (rules g) (λ d. no_22 (targets_differ d));
      leasts_match = stable (length g.leasts) (rules g) (λ d. no_22 (leasts_differ d));
      mosts_match = stable (length g.mosts) (rules g) (λ d. no_22 (mosts_differ d));
    }

pub events_not_outside : {g : Graph} → CountsKept g → EventsOutside 1024 g.events → ⊥
events_not_outside kept (no_events e) = omega (arith, kept.some_event)
events_not_outside kept (many_events l) = omega (arith, kept.few_events)

pub rules_not_outside : {g : Graph} → CountsKept g → RulesOutside 4096 g → ⊥
rules_not_outside kept (many_rules l) = omega (arith, kept.few_rules)
rules_not_outside kept (targets_differ d) = d kept.targets_match
rules_not_outside kept (leasts_differ d) = d kept.leasts_match
rules_not_outside kept (mosts_differ d) = d kept.mosts_match

-- ---- refusal 2

pub known_ends : {g : Graph} {i : ℕ} → i < rules g → (UnknownEvent g i → ⊥) → EndsKept g i
known_ends {g} {i} l known =
    let source_in : g.events ≤ source g i → ⊥ = λ h. known (record { is_rule = l; unknown = inl h }) in
    let target-in : g.events ≤ target g i → ⊥ = λ h. known (record { is_rule = l; unknown = inr h }) in
    record { source_known = omega arith; target_known = omega arith }

pub ends_kept : {g : Graph} {i : ℕ} → EndsKept g i → UnknownEvent g i → ⊥
ends_kept {g} {i} kept u = by u.unknown
  where
    by : (g.events ≤ source g i) ⊎ (g.events ≤ target g i) → ⊥
    by (inl h) = omega (arith, kept.source_known)
    by (inr h) = omega (arith, kept.target_known)

-- ---- refusal 3

not_less : {a b : ℤ} → (a <ℤ b → ⊥) → b ≤ℤ a
not_less {a} {b} h = let k : P a + N b < P b + N a → ⊥ = λ l. h (<ℤ-from l) in omega linear

pub inside_delays : {b : ℕ} {g : Graph} {i : ℕ} → i < rules g → (DelayBeyond b g i → ⊥) → DelaysKept b g i
inside_delays {b} {g} {i} l inside =
    let kept : BeyondDelays b (least g i) (most g i) → ⊥ = λ o. inside (record { is_rule = l; outside = o }) in
    record {
      least_within = record { above = not_less (λ h. kept (least_low h)); below = not_less (λ h. kept (least_high h)) };
      most_within = record { above = not_less (λ h. kept (most_low h)); below = not_less (λ h. kept (most_high h)) };
      ordered = not_less (λ h. kept (crossed h));
    }

pub delays_kept : {b : ℕ} {g : Graph} {i : ℕ} → DelaysKept b g i → DelayBeyond b g i → ⊥
delays_kept {b} {g} {i} kept d = by d.outside
  where
    by : BeyondDelays b (least g i) (most g i) → ⊥
    by (least_low h) = omega (linear, negation (pos b), kept.least_within.above)
    by (least_high h) = omega (linear, kept.least_within.below)
    by (most_low h) = omega (linear, negation (pos b), kept.most_within.above)
    by (most_high h) = omega (linear, kept.most_within.below)
    by (crossed h) = omega (linear, kept.ordered)

-- ---- refusals 21, 22, 2 and 3

pub sized_of : {b : ℕ} {g : Graph} →
    (EventsOutside 1024 g.events → ⊥) → (RulesOutside 4096 g → ⊥) →
    ((p : ℕ) → Lowest (UnknownEvent g) p → ⊥) → ((p : ℕ) → Lowest (DelayBeyond b g) p → ⊥) → Sized b g
sized_of {b} {g} no_21 no_22 no-2 no-3 =
    record {
      counts = counts_kept no_21 no_22;
      ends = λ i l. known_ends l (none_lowest no-2 i);
      delays = λ i l. inside_delays l (none_lowest no-3 i);
    }
