-- Laws of the refusals of a process graph.
--     plain g, started g                                 the templates of g, read as the rules of an event graph: with their delays, and with their start intervals
--     TemplatesKept g                                    each template keeps its rules; no limit on counts is asked
--     Kept g K                                           every rule of 01 for process graphs is kept
--     process_places                                     each check of the list has one place
--     counts_of, ends_of, delays_of_lem, start_of, mark_of   what the absence of each refusal says
--     events_inside, templates_inside, unfolding_inside  where the counts are kept, none of theirs applies
--     count_21 … count_0                                 refusals 21, 22 and 24, and that none of them applies, each from the facts that shut out the earlier ones
--     after_counts                                       past them what comes after decides
--     counts_miss, ends_miss, delays_miss, marks_miss    where what it asks is kept, the refusal applies nowhere
--     unfolding_first                                    an unfolding beyond its limits is refused with 24, however long the lent lists are
--     delays_first                                       a delay outside is refused with 3, whatever the marks are
--     process_none                                       so where all is kept and the lists are long enough, no check of the list applies
--     process_kept                                       and only there
--     short_alike                                        the checks, where "too short" is said in two ways
-- Assumes nothing.
use mathlib.Core.Path.{◌≡◌}
use mathlib.Core.Logic.{◌⊎◌, inl, inr, ⊎_elim}
use Prim.Native.Nat.{ℕ, ◌+◌, ◌*◌, ◌<◌, ◌≤◌}
use native.Mathlib.Decide.{ℕ_discrete}
use native.Mathlib.Omega.{arith}
use lib.ListN.{length}
use Rattle.sequences.proofs.Lengths.{stable}
use Rattle.verdicts.specs.Verdict.{given, passed, Accepted, FirstThen, FirstOf, Lowest}
use Rattle.verdicts.proofs.Verdicts.{OnePlaces, Misses, NoneApplies, at_zero, misses_at_zero, holds_not, passed_all, none_accepted, accepted_none, front_given, lowest_unique, at_zero_unique, none_lowest, Alike, more_alike, alike_refl}
use Rattle.graphs.specs.Graph.{Graph, graph_of}
use Rattle.graphs.specs.Limits.{EndsKept, DelaysKept}
use Rattle.graphs.specs.Refusal.{EventsOutside, no_events, many_events, OutsideDelays}
use Rattle.graphs.proofs.Refusals.{short_at}
use Rattle.graphs.proofs.Unique.{known_ends, ends_kept, inside_delays, delays_kept}
use Rattle.processes.specs.Parts.Checks.{ProcessCountsKept, ListsKept, process_count_checks, MarkKept}
use Rattle.processes.specs.Process.{ProcessGraph, templates, least, most, mark, start_least, start_most}
use Rattle.processes.specs.Unfolding.{
  TemplatesOutside,
  many_templates,
  targets_differ,
  leasts_differ,
  mosts_differ,
  marks_differ,
  start_leasts_differ,
  start_mosts_differ,
  UnfoldingOutside,
  no_copies,
  many_occurrences,
  many_rules,
  UnknownTemplateEvent,
  TemplateDelayOutside,
  MarkOutside,
  process_checks,
}
use Rattle.processes.proofs.Numbers.{many}

abbrev pub plain : ProcessGraph → Graph
plain g = graph_of g.events g.sources g.targets g.leasts g.mosts

abbrev pub started : ProcessGraph → Graph
started g = graph_of g.events g.sources g.targets g.start_leasts g.start_mosts

-- what is asked of each template, however many copies there are to be
pub record TemplatesKept (g : ProcessGraph) : Type 0 where
  pub ends : (j : ℕ) → j < templates g → EndsKept (plain g) j
  pub delays : (j : ℕ) → j < templates g → DelaysKept 1000000 (plain g) j
  pub starts : (j : ℕ) → j < templates g → mark g j ≡ 1 → DelaysKept 1000000 (started g) j
  pub marks : (j : ℕ) → j < templates g → MarkKept g.marks j

-- "p ≥ 1", "K ≥ 1", "1 + p × K ≤ 1,024 and templates × K ≤ 4,096", one entry for each template in each of the seven lists
pub record Kept (g : ProcessGraph) (K : ℕ) : Type 0 where
  pub counts : ProcessCountsKept g K
  pub each : TemplatesKept g

-- ---- one place

pub process_places : (g : ProcessGraph) (K : ℕ) (Short : Type 0) → OnePlaces (process_checks g K Short)
process_places g K Short = (at_zero_unique, (at_zero_unique, (at_zero_unique, (at_zero_unique, (lowest_unique, (lowest_unique, (lowest_unique, tt)))))))

-- ---- where the counts are kept

events_in : {p : ℕ} → (p ≡ 0 → ⊥) → p ≤ 1023 → EventsOutside 1023 p → ⊥
events_in some few (no_events e) = some e
events_in some few (many_events l) = omega arith

templates_in : {g : ProcessGraph} → ListsKept g → TemplatesOutside g → ⊥
templates_in kept (many_templates l) = omega (arith, kept.few_templates)
templates_in kept (targets_differ d) = d kept.targets_match
templates_in kept (leasts_differ d) = d kept.leasts_match
templates_in kept (mosts_differ d) = d kept.mosts_match
templates_in kept (marks_differ d) = d kept.marks_match
templates_in kept (start_leasts_differ d) = d kept.start_leasts_match
templates_in kept (start_mosts_differ d) = d kept.start_mosts_match

-- ---- what the absence of each refusal says

module _ {g : ProcessGraph} {K : ℕ} where
  pub counts_of : (EventsOutside 1023 g.events → ⊥) → (TemplatesOutside g → ⊥) → (UnfoldingOutside g K → ⊥) → ProcessCountsKept g K
  counts_of no_21 no_22 no-24 =
      let some : g.events ≡ 0 → ⊥ = λ e. no_21 (no_events e) in
      let copies : K ≡ 0 → ⊥ = λ e. no-24 (no_copies e) in
      let few : 1024 < 1 + g.events * K → ⊥ = λ l. no-24 (many_occurrences l) in
      let few' : 4096 < templates g * K → ⊥ = λ l. no-24 (many_rules l) in
      let few'' : 4096 < templates g → ⊥ = λ l. no_22 (many_templates l) in
      record {
        some_event = omega arith;
        some_copy = omega arith;
        few_occurrences = omega arith;
        few_rules = omega arith;
        lists =
            record {
              few_templates = omega arith;
              targets_match = stable (length g.targets) (templates g) (λ d. no_22 (targets_differ d));
              leasts_match = stable (length g.leasts) (templates g) (λ d. no_22 (leasts_differ d));
              mosts_match = stable (length g.mosts) (templates g) (λ d. no_22 (mosts_differ d));
              marks_match = stable (length g.marks) (templates g) (λ d. no_22 (marks_differ d));
              start_leasts_match = stable (length g.start_leasts) (templates g) (λ d. no_22 (start_leasts_differ d));
              start_mosts_match = stable (length g.start_mosts) (templates g) (λ d. no_22 (start_mosts_differ d));
            };
      }

  -- with one copy at least, there are no more events than occurrences
  pub events_inside : ProcessCountsKept g K → EventsOutside 1023 g.events → ⊥
  events_inside kept = events_in (λ e. omega (arith, kept.some_event)) (omega (arith, kept.few_occurrences, many g.events K kept.some_copy))

  pub templates_inside : ProcessCountsKept g K → TemplatesOutside g → ⊥
  templates_inside kept = templates_in kept.lists

  pub unfolding_inside : ProcessCountsKept g K → UnfoldingOutside g K → ⊥
  unfolding_inside kept (no_copies e) = omega (arith, kept.some_copy)
  unfolding_inside kept (many_occurrences l) = omega (arith, kept.few_occurrences)
  unfolding_inside kept (many_rules l) = omega (arith, kept.few_rules)

module _ {g : ProcessGraph} where
  pub ends_of : (j : ℕ) → j < templates g → (UnknownTemplateEvent g j → ⊥) → EndsKept (plain g) j
  ends_of j l known = known_ends l (λ u. known (record { is_template = u.is_rule; unknown = u.unknown }))

  pub delays_of_lem : (j : ℕ) → j < templates g → (TemplateDelayOutside g j → ⊥) → DelaysKept 1000000 (plain g) j
  delays_of_lem j l inside = inside_delays l (λ o. inside (record { is_template = o.is_rule; outside = inl o.outside }))

  pub start_of : (j : ℕ) → j < templates g → mark g j ≡ 1 → (TemplateDelayOutside g j → ⊥) → DelaysKept 1000000 (started g) j
  start_of j l m inside = inside_delays l (λ o. inside (record { is_template = o.is_rule; outside = inr (m, o.outside) }))

  pub mark_of : (j : ℕ) → j < templates g → (MarkOutside g j → ⊥) → MarkKept g.marks j
  mark_of j l inside = by (ℕ_discrete (mark g j) 0) (ℕ_discrete (mark g j) 1)
    where
      by : Dec (mark g j ≡ 0) → Dec (mark g j ≡ 1) → (mark g j ≡ 0) ⊎ (mark g j ≡ 1)
      by (yes e) d = inl e
      by (no n) (yes e) = inr e
      by (no n) (no n') = absurd (inside (record { is_template = l; not_zero = n; not_one = n' }))

-- ---- where nothing is refused

module _ {g : ProcessGraph} {K : ℕ} where
  pub count_21 : EventsOutside 1023 g.events → FirstOf (process_count_checks g K) 21 0
  count_21 h = given (at_zero h)

  module _ (some : g.events ≡ 0 → ⊥) (few : g.events ≤ 1023) where
    pub count_22 : TemplatesOutside g → FirstOf (process_count_checks g K) 22 0
    count_22 h = passed (misses_at_zero (events_in some few)) (given (at_zero h))

    pub count_24 : ListsKept g → UnfoldingOutside g K → FirstOf (process_count_checks g K) 24 0
    count_24 lists h = passed (misses_at_zero (events_in some few)) (passed (misses_at_zero (templates_in lists)) (given (at_zero h)))

  pub counts_within : (g.events ≡ 0 → ⊥) → (K ≡ 0 → ⊥) → 1 + g.events * K ≤ 1024 → templates g * K ≤ 4096 → ListsKept g → ProcessCountsKept g K
  counts_within some copies few few' lists =
      record { some_event = omega arith; some_copy = omega arith; few_occurrences = few; few_rules = few'; lists = lists }

  pub counts_miss : ProcessCountsKept g K → NoneApplies (process_count_checks g K)
  counts_miss counts = (misses_at_zero (events_inside counts), (misses_at_zero (templates_inside counts), (misses_at_zero (unfolding_inside counts), tt)))

  -- past the counts
  pub after_counts : ProcessCountsKept g K → (Rest : ℕ → ℕ → Type 0) (j p : ℕ) → Rest j p → FirstThen (process_count_checks g K) Rest j p
  after_counts counts Rest j p r = passed_all (process_count_checks g K) Rest j p (counts_miss counts) r

  pub count_0 : ProcessCountsKept g K → FirstOf (process_count_checks g K) 0 0
  count_0 counts = none_accepted (process_count_checks g K) (counts_miss counts)

  pub counts_from : {j p : ℕ} → j ≡ 0 → FirstOf (process_count_checks g K) j p → ProcessCountsKept g K
  counts_from {j} {p} e v =
      let none : NoneApplies (process_count_checks g K) = (accepted_none (process_count_checks g K) Accepted (omega arith, (omega arith, (omega arith, tt))) j p e v).0 in
      counts_of (holds_not none.0) (holds_not none.1.0) (holds_not none.1.1.0)

module _ {g : ProcessGraph} where
  pub ends_miss : ((j : ℕ) → j < templates g → EndsKept (plain g) j) → Misses (Lowest (UnknownTemplateEvent g))
  ends_miss ends p a = ends_kept (ends p a.holds.is_template) (record { is_rule = a.holds.is_template; unknown = a.holds.unknown })

  pub delays_miss : ((j : ℕ) → j < templates g → DelaysKept 1000000 (plain g) j) →
      ((j : ℕ) → j < templates g → mark g j ≡ 1 → DelaysKept 1000000 (started g) j) →
      Misses (Lowest (TemplateDelayOutside g))
  delays_miss delays starts p a = by a.holds.outside
    where
      here : p < templates g
      here = a.holds.is_template

      by : OutsideDelays (least g p) (most g p) ⊎ ((mark g p ≡ 1) × OutsideDelays (start_least g p) (start_most g p)) → ⊥
      by (inl o) = delays_kept {g = plain g} (delays p here) (record { is_rule = here; outside = o })
      by (inr (m, o)) = delays_kept {g = started g} (starts p here m) (record { is_rule = here; outside = o })

  pub marks_miss : ((j : ℕ) → j < templates g → MarkKept g.marks j) → Misses (Lowest (MarkOutside g))
  marks_miss marks p a = ⊎_elim a.holds.not_zero a.holds.not_one (marks p a.holds.is_template)

module _ {g : ProcessGraph} {K : ℕ} {Short : Type 0} where
  -- 02: "checked 21, 22, 24, 23": an unfolding beyond its limits is refused with 24, however long the lent lists are
  pub unfolding_first : (g.events ≡ 0 → ⊥) → g.events ≤ 1023 → ListsKept g → UnfoldingOutside g K → FirstOf (process_checks g K Short) 24 0
  unfolding_first some few lists h = front_given (process_count_checks g K) _ 24 0 (λ e. omega arith) (count_24 some few lists h)

  pub short_first : ProcessCountsKept g K → Short → FirstOf (process_checks g K Short) 23 0
  short_first counts h = after_counts counts _ 23 0 (given (at_zero h))

  -- "unfolding 1, 2, 3, 7": a delay outside is refused with 3, whatever the marks are
  pub delays_first : (Short → ⊥) → ProcessCountsKept g K → ((j : ℕ) → j < templates g → EndsKept (plain g) j) → {p : ℕ} → Lowest (TemplateDelayOutside g) p → FirstOf (process_checks g K Short) 3 p
  delays_first room counts ends {p} h = after_counts counts _ 3 p (passed (misses_at_zero room) (passed (ends_miss ends) (given h)))

  pub process_none : (Short → ⊥) → Kept g K → NoneApplies (process_checks g K Short)
  process_none room kept =
      let (events, (lists, (copies, _))) = counts_miss kept.counts in (
        events,
        (lists, (copies, (misses_at_zero room, (ends_miss kept.each.ends, (delays_miss kept.each.delays kept.each.starts, (marks_miss kept.each.marks, tt)))))),
      )

  pub process_kept : NoneApplies (process_checks g K Short) → (Kept g K) × (Short → ⊥)
  process_kept (events, (lists, (copies, (short, (ends, (delays, (marks, _))))))) = (
    record {
      counts = counts_of (holds_not events) (holds_not lists) (holds_not copies);
      each =
          record {
            ends = λ j l. ends_of j l (none_lowest ends j);
            delays = λ j l. delays_of_lem j l (none_lowest delays j);
            starts = λ j l m. start_of j l m (none_lowest delays j);
            marks = λ j l. mark_of j l (none_lowest marks j);
          };
    },
    holds_not short,
  )

-- ---- "too short", said in two ways

pub short_alike : {A B : Type 0} → (A → B) → (B → A) → {g : ProcessGraph} {K : ℕ} → Alike (process_checks g K A) (process_checks g K B)
short_alike f h =
    more_alike (λ p a. a) (λ p a. a) (more_alike (λ p a. a) (λ p a. a) (more_alike (λ p a. a) (λ p a. a) (more_alike (short_at f) (short_at h) (alike_refl _))))
