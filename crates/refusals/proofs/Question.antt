-- The verdict on a question, from what the searches find.
--     lowest_unknown, all_ends_kept        what the search for an unknown event tells of the graph, by whether it found one
--     lowest_beyond, all_delays_kept       the same of the search for a delay beyond the bound
--     input_2 … input_4_target             refusals 2 to 4, each from the facts that shut out the earlier ones
--     QuestionKept b g s t, none_kept, question_kept    what is kept where none applies
--     kept_none, kept_accepted             and that none applies where it is kept
-- Assumes nothing.
use mathlib.Core.Path.{◌≡◌}
use mathlib.Core.List.{List}
use Prim.Native.Nat.{ℕ, ◌<◌, ◌≤◌, min}
use native.Mathlib.Omega.{arith}
use lib.IntN.{ℤ}
use lib.ListN.{length}
use Rattle.verdicts.specs.Verdict.{given, passed, FirstThen, FirstOf, Lowest, FoundAt}
use Rattle.verdicts.proofs.Verdicts.{NoneApplies, misses_at_zero, none_accepted, accepted_none}
use Rattle.verdicts.proofs.Searches.{found_lowest, found_as_long}
use Rattle.graphs.specs.Graph.{Graph, graph_of, rules}
use Rattle.graphs.specs.Limits.{CountsKept, EndsKept, DelaysKept, Sized}
use Rattle.graphs.specs.Refusal.{UnknownEvent, DelayBeyond, MissingEnd, source_missing, target_missing, question_checks_to}
use Rattle.graphs.proofs.Refusals.{events_miss, rules_miss, ends_miss, delays_miss, question_none, question_sized}
use Rattle.refusals.specs.Faults.{EndsKnown, EndUnknown, DelaysBounded, DelaysBeyond}
use Rattle.refusals.proofs.Unique.{known_not_unknown, inside_not_outside}

-- ---- the searches

module _ {n : ℕ} {ss ts : List ℕ} {ds Ds : List ℤ} where
  pub lowest_unknown : {r : ℕ} → length ts ≡ length ss →
      FoundAt (min (length ss) (length ts)) (EndsKnown n ss ts) (EndUnknown n ss ts) r →
      Lowest (UnknownEvent (graph_of n ss ts ds Ds)) r
  lowest_unknown e h =
      found_lowest
      (UnknownEvent (graph_of n ss ts ds Ds))
      (λ i _ known u. known_not_unknown known u.unknown)
      (λ i l unknown. record { is_rule = l; unknown = unknown })
      (found_as_long _ _ e h)

  pub all_ends_kept : length ts ≡ length ss →
      ((i : ℕ) → i < min (length ss) (length ts) → EndsKnown n ss ts i) →
      (i : ℕ) → i < length ss → EndsKept (graph_of n ss ts ds Ds) i
  all_ends_kept e h i m = let known = h i (omega arith) in record { source_known = known.source_known; target_known = known.target_known }

  pub lowest_beyond : {b r : ℕ} → length Ds ≡ length ds →
      length ds ≡ length ss →
      FoundAt (min (length ds) (length Ds)) (DelaysBounded b ds Ds) (DelaysBeyond b ds Ds) r →
      Lowest (DelayBeyond b (graph_of n ss ts ds Ds)) r
  lowest_beyond {b} e f h =
      found_lowest
      (DelayBeyond b (graph_of n ss ts ds Ds))
      (λ i _ inside o. inside_not_outside inside o.outside)
      (λ i l outside. record { is_rule = omega arith; outside = outside })
      (found_as_long _ _ e h)

  pub all_delays_kept : {b : ℕ} → length Ds ≡ length ds →
      length ds ≡ length ss →
      ((i : ℕ) → i < min (length ds) (length Ds) → DelaysBounded b ds Ds i) →
      (i : ℕ) → i < length ss → DelaysKept b (graph_of n ss ts ds Ds) i
  all_delays_kept e f h i m =
      let inside = h i (omega arith) in
      record { least_within = inside.least_within; most_within = inside.most_within; ordered = inside.ordered }

-- ---- refusals 2 to 4

never : ⊥ → ⊥
never x = x

module _ {b : ℕ} {g : Graph} {s t : ℕ} where
  pub input_2 : CountsKept g → {p : ℕ} → Lowest (UnknownEvent g) p → FirstOf (question_checks_to b g s t ⊥) 2 p
  input_2 counts h = passed (events_miss counts) (passed (rules_miss counts) (passed (misses_at_zero never) (given h)))

  pub input_3 : CountsKept g → ((i : ℕ) → i < rules g → EndsKept g i) → {p : ℕ} → Lowest (DelayBeyond b g) p → FirstOf (question_checks_to b g s t ⊥) 3 p
  input_3 counts ends h = passed (events_miss counts) (passed (rules_miss counts) (passed (misses_at_zero never) (passed (ends_miss ends) (given h))))

  input_4 : Sized b g → {p : ℕ} → MissingEnd g s t p → FirstOf (question_checks_to b g s t ⊥) 4 p
  input_4 sized h =
      passed (events_miss sized.counts)
      (passed (rules_miss sized.counts) (passed (misses_at_zero never) (passed (ends_miss sized.ends) (passed (delays_miss sized.delays) (given h)))))

  pub input_4_source : Sized b g → g.events ≤ s → FirstOf (question_checks_to b g s t ⊥) 4 0
  input_4_source sized h = input_4 sized (source_missing h)

  pub input_4_target : Sized b g → s < g.events → g.events ≤ t → FirstOf (question_checks_to b g s t ⊥) 4 1
  input_4_target sized a h = input_4 sized (target_missing a h)

-- ---- where none applies

pub record QuestionKept (b : ℕ) (g : Graph) (s t : ℕ) : Type 0 where
  pub sized : Sized b g
  pub source_known : s < g.events
  pub target_known : t < g.events

module _ {b : ℕ} {g : Graph} {s t : ℕ} where
  pub kept_none : {Short : Type 0} → (Short → ⊥) → QuestionKept b g s t → NoneApplies (question_checks_to b g s t Short)
  kept_none room k = question_none room k.sized k.source_known k.target_known

  pub kept_accepted : QuestionKept b g s t → FirstOf (question_checks_to b g s t ⊥) 0 0
  kept_accepted k = none_accepted (question_checks_to b g s t ⊥) (kept_none never k)

  pub none_kept : {Short : Type 0} → NoneApplies (question_checks_to b g s t Short) → QuestionKept b g s t
  none_kept none =
      let at : (p : ℕ) → MissingEnd g s t p → ⊥ = none.1.1.1.1.1.0 in
      let source_in : g.events ≤ s → ⊥ = λ l. at 0 (source_missing l) in
      let hs : s < g.events = omega arith in
      let target-in : g.events ≤ t → ⊥ = λ l. at 1 (target_missing hs l) in
      record { sized = question_sized none; source_known = hs; target_known = omega arith }

  -- where number 0 is given, all is kept, and what comes after has its say
  pub question_kept : {Short : Type 0} (Rest : ℕ → ℕ → Type 0) {j p : ℕ} → j ≡ 0 → FirstThen (question_checks_to b g s t Short) Rest j p → QuestionKept b g s t × Rest j p
  question_kept {Short} Rest {j} {p} e v =
      let (none, rest) = accepted_none (question_checks_to b g s t Short) Rest (omega arith, (omega arith, (omega arith, (omega arith, (omega arith, (omega arith, tt)))))) j p e v in
      (none_kept none, rest)
