-- Laws of the refusals of a graph, and of a question about two of its events.
--     missing_end_unique                           refusal 4 has one place
--     count_places, graph_places, question_places, path_places   each check of the list has one place
--     events_miss, rules_miss, ends_miss, delays_miss, missing_end_misses, cycle_misses, unreached_misses
--                                                  where what it asks is kept, the refusal applies nowhere
--     count_none, graph_none, question_none, path_none         so where all is kept no check of the list applies
--     graph_sized, question_sized                  and where none applies the graph is sized
--     path_kept                                    and has no cycle
--     cycle_exactly                                refusal 5 is given exactly where there is a cycle
--     cycle_place                                  and its place is the lowest event on one
--     short_at, short_alike                        the questions' checks, where "too short" is said in two ways
--     graph_verdict_unique                         a graph has one verdict
--     graph_accepted, graph_place                  an accepted graph is sized and has no cycle; its place is 0
--     graph_alone                                  asked about two of its events, with lists that are long enough, a graph is refused as it is alone
-- Assumes nothing.
use mathlib.Core.Path.{◌≡◌, refl}
use mathlib.Core.Logic.{◌↔◌}
use mathlib.Core.List.{[], ◌∷◌, ◌++◌}
use Prim.Native.Nat.{ℕ, ◌<◌}
use native.Mathlib.Omega.{arith}
use Rattle.verdicts.specs.Verdict.{check, First, given, passed, Accepted, FirstThen, FirstOf, AtZero, Lowest}
use Rattle.verdicts.proofs.Verdicts.{OnePlace, OnePlaces, OneVerdict, Misses, NoneApplies, Refusals, Alike, lowest_unique, none_lowest, at_zero_unique, misses_at_zero, holds_not, then_unique, one_verdict, then_more, then_place, not_accepted, rest_of, accepted_none, accepted_place, more_alike, alike_refl}
use Rattle.graphs.specs.Graph.{Graph, rules}
use Rattle.graphs.specs.Path.{OnCycle, HasCycle, Reachable}
use Rattle.graphs.specs.Limits.{CountsKept, EndsKept, DelaysKept, Sized}
use Rattle.graphs.specs.Refusal.{EventsOutside, RulesOutside, UnknownEvent, DelayBeyond, MissingEnd, source_missing, target_missing, Unreached, count_checks, rule_checks, graph_checks, question_checks_to, path_checks, GraphVerdict, question_checks}
use Rattle.graphs.proofs.Unique.{events_not_outside, rules_not_outside, ends_kept, delays_kept, sized_of}

-- ---- one place

pub missing_end_unique : {g : Graph} {s t : ℕ} → OnePlace (MissingEnd g s t)
missing_end_unique p q (source_missing l) (source_missing m) = refl
missing_end_unique p q (source_missing l) (target_missing h m) = absurd (let no : ⊥ = omega arith in no)
missing_end_unique p q (target_missing h m) (source_missing l) = absurd (let no : ⊥ = omega arith in no)
missing_end_unique p q (target_missing h m) (target_missing i l) = refl

pub count_places : {n r : ℕ} (g : Graph) → OnePlaces (count_checks n r g)
count_places g = (at_zero_unique, (at_zero_unique, tt))

pub graph_places : (g : Graph) → OnePlaces (graph_checks g)
graph_places g = (at_zero_unique, (at_zero_unique, (lowest_unique, (lowest_unique, tt))))

pub question_places : {b : ℕ} (g : Graph) (s t : ℕ) (Short : Type 0) → OnePlaces (question_checks_to b g s t Short)
question_places g s t Short = (at_zero_unique, (at_zero_unique, (at_zero_unique, (lowest_unique, (lowest_unique, (missing_end_unique, tt))))))

pub path_places : (g : Graph) → OnePlaces (path_checks g)
path_places g = (lowest_unique, (lowest_unique, tt))

-- ---- where nothing is refused

module _ {g : Graph} where
  pub events_miss : CountsKept g → Misses (AtZero (EventsOutside 1024 g.events))
  events_miss counts = misses_at_zero (events_not_outside counts)

  pub rules_miss : CountsKept g → Misses (AtZero (RulesOutside 4096 g))
  rules_miss counts = misses_at_zero (rules_not_outside counts)

  pub ends_miss : ((i : ℕ) → i < rules g → EndsKept g i) → Misses (Lowest (UnknownEvent g))
  ends_miss ends p a = ends_kept (ends p a.holds.is_rule) a.holds

  pub delays_miss : {b : ℕ} → ((i : ℕ) → i < rules g → DelaysKept b g i) → Misses (Lowest (DelayBeyond b g))
  delays_miss delays p a = delays_kept (delays p a.holds.is_rule) a.holds

  pub missing_end_misses : {s t : ℕ} → s < g.events → t < g.events → Misses (MissingEnd g s t)
  missing_end_misses hs ht p (source_missing l) = omega arith
  missing_end_misses hs ht p (target_missing h l) = omega arith

  pub cycle_misses : (HasCycle g → ⊥) → Misses (Lowest (OnCycle g))
  cycle_misses acyclic p a = acyclic (p, a.holds)

  pub unreached_misses : ((v : ℕ) → v < g.events → Reachable g v) → Misses (Lowest (Unreached g))
  unreached_misses reachable p a = a.holds.no_path (reachable p a.holds.is_event)

  pub count_none : CountsKept g → NoneApplies (count_checks 1024 4096 g)
  count_none counts = (events_miss counts, (rules_miss counts, tt))

  pub graph_none : Sized 1000000 g → NoneApplies (graph_checks g)
  graph_none sized = (events_miss sized.counts, (rules_miss sized.counts, (ends_miss sized.ends, (delays_miss sized.delays, tt))))

  pub question_none : {b s t : ℕ} {Short : Type 0} → (Short → ⊥) → Sized b g → s < g.events → t < g.events → NoneApplies (question_checks_to b g s t Short)
  question_none room sized hs ht = (
    events_miss sized.counts,
    (rules_miss sized.counts, (misses_at_zero room, (ends_miss sized.ends, (delays_miss sized.delays, (missing_end_misses hs ht, tt))))),
  )

  pub path_none : (HasCycle g → ⊥) → ((v : ℕ) → v < g.events → Reachable g v) → NoneApplies (path_checks g)
  path_none acyclic reachable = (cycle_misses acyclic, (unreached_misses reachable, tt))

  -- ---- and only there

  pub graph_sized : NoneApplies (graph_checks g) → Sized 1000000 g
  graph_sized none = sized_of (holds_not none.0) (holds_not none.1.0) none.1.1.0 none.1.1.1.0

  pub question_sized : {b s t : ℕ} {Short : Type 0} → NoneApplies (question_checks_to b g s t Short) → Sized b g
  question_sized none = sized_of (holds_not none.0) (holds_not none.1.0) none.1.1.1.0 none.1.1.1.1.0

  -- where no event is the lowest on a cycle, none lies on one
  pub path_kept : NoneApplies (path_checks g) → HasCycle g → ⊥
  path_kept none c = none_lowest none.0 c.0 c.1

-- ---- refusal 5

-- a cycle is refused with 5, and where there is none another number is given
pub cycle_exactly : {g : Graph} {j p : ℕ} → FirstOf (path_checks g) j p → (j ≡ 5) ↔ HasCycle g
cycle_exactly {g} {j} {p} v = (cycle_of, five v)
  where
    cycle_of : j ≡ 5 → HasCycle g
    cycle_of e =
        then_place (λ k q. k ≡ 5 → HasCycle g) (path_checks g) Accepted j p
        (λ q a _. (q, a.holds), (λ q a six. absurd (let no : ⊥ = omega arith in no), tt))
        (λ a five. not_accepted (λ zero. let no : ⊥ = omega arith in no) a)
        v e

    five : {Rest : ℕ → ℕ → Type 0} {k q : ℕ} → First 5 (Lowest (OnCycle g)) Rest k q → HasCycle g → k ≡ 5
    five (given a) c = refl
    five (passed none r) c = absurd (none_lowest none c.0 c.1)

-- its place is the lowest event on a cycle
pub cycle_place : {g : Graph} {j p : ℕ} → j ≡ 5 → FirstOf (path_checks g) j p → Lowest (OnCycle g) p
cycle_place {g} {j} {p} e v =
    then_place (λ k q. k ≡ 5 → Lowest (OnCycle g) q) (path_checks g) Accepted j p
    (λ q a _. a, (λ q a six. absurd (let no : ⊥ = omega arith in no), tt))
    (λ a five. not_accepted (λ zero. let no : ⊥ = omega arith in no) a)
    v e

-- ---- "too short", said in two ways

pub short_at : {A B : Type 0} → (A → B) → (p : ℕ) → AtZero A p → AtZero B p
short_at f p a = record { zero_place = a.zero_place; holds = f a.holds }

pub short_alike : {A B : Type 0} → (A → B) → (B → A) → {b : ℕ} {g : Graph} {s t : ℕ} → Alike (question_checks_to b g s t A) (question_checks_to b g s t B)
short_alike f h = more_alike (λ p a. a) (λ p a. a) (more_alike (λ p a. a) (λ p a. a) (more_alike (short_at f) (short_at h) (alike_refl _)))

-- ---- a graph alone

module _ (g : Graph) where
  pub graph_verdict_unique : OneVerdict (GraphVerdict g)
  graph_verdict_unique = then_unique (graph_checks g) {Rest = FirstOf (path_checks g)} (graph_places g) (one_verdict (path_checks g) (path_places g))

  refusals : Refusals (graph_checks g ++ path_checks g)
  refusals = (omega arith, (omega arith, (omega arith, (omega arith, (omega arith, (omega arith, tt))))))

  pub graph_accepted : (j p : ℕ) → j ≡ 0 → GraphVerdict g j p → Sized 1000000 g × (HasCycle g → ⊥)
  graph_accepted j p e v =
      let (none, after) = accepted_none (graph_checks g) (FirstOf (path_checks g)) (omega arith, (omega arith, (omega arith, (omega arith, tt)))) j p e v in
      let (paths, _) = accepted_none (path_checks g) Accepted (omega arith, (omega arith, tt)) j p e after in
      (graph_sized none, path_kept paths)

  pub graph_place : (j p : ℕ) → j ≡ 0 → GraphVerdict g j p → p ≡ 0
  graph_place j p e v = accepted_place (graph_checks g ++ path_checks g) refusals j p e v

-- refusal 4 is of s and t, and a lent list that is long enough is none of the graph's faults
module _ {g : Graph} {s t : ℕ} {Short : Type 0} (room : Short → ⊥) (hs : s < g.events) (ht : t < g.events) where
  pub graph_alone : (j p : ℕ) → FirstThen (question_checks g s t Short) (FirstOf (path_checks g)) j p → GraphVerdict g j p
  graph_alone j p v =
      then_more (count_checks 1024 4096 g) (FirstThen (check 23 (AtZero Short) ∷ (rule_checks 1000000 g ++ (check 4 (MissingEnd g s t) ∷ []))) (FirstOf (path_checks g)))
      (FirstThen (rule_checks 1000000 g) (FirstOf (path_checks g))) j p
      (λ w.
      then_more (rule_checks 1000000 g) (FirstThen (check 4 (MissingEnd g s t) ∷ []) (FirstOf (path_checks g))) (FirstOf (path_checks g)) j p
      (rest_of (check 4 (MissingEnd g s t) ∷ []) (FirstOf (path_checks g)) j p (missing_end_misses hs ht, tt))
      (rest_of (check 23 (AtZero Short) ∷ []) (FirstThen (rule_checks 1000000 g ++ (check 4 (MissingEnd g s t) ∷ [])) (FirstOf (path_checks g))) j p (misses_at_zero room, tt) w)) v
