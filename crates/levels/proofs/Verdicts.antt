-- The verdict of a long run: its promise fixes the answer, and what is left where no refusal of the input applies.
--     long_places                       each check of the list has one place
--     long_unique                       two answers that are allowed are equal
--     ListsKept g, InputKept g K …      what is left where 22, and where no refusal of the input applies
--     count_miss, templates_miss, copies_miss, intervals_miss, occurrences_miss, cycles_miss, targets_miss
--                                       where what it asks is kept, the refusal applies nowhere; of 2 and 7 the crate processes says it
--     fit_of                            a process graph to which 2, 3, 5, 6 and 7 do not apply is fit to be unfolded
--     input_none, input_kept            no refusal of the input applies where all is kept, and only there
--     long_refused                      a refusal of the input is the verdict
--     long_overfull                     12 is the verdict where some set has more than 64 pairs
--     long_answered                     and where none has, the separation is the answer
-- Assumes nothing.
use mathlib.Core.Path.{◌≡◌, refl, sym, subst, ◌∙◌}
use mathlib.Core.Logic.{◌⊎◌, inl, inr, ⊎_elim}
use mathlib.Core.List.{[], ◌∷◌}
use Prim.Native.Nat.{ℕ, zero, suc, ◌<◌, ◌≤◌}
use native.Mathlib.Decide.{ℕ_discrete, dec_lt}
use native.Mathlib.Omega.{arith}
use lib.IntN.{ℤ, pos}
use lib.ListN.{length}
use Rattle.sequences.proofs.Below.{below_next}
use Rattle.sequences.proofs.Lengths.{stable}
use Rattle.verdicts.specs.Verdict.{check, passed, Accepted, accepted, FirstOf, AtZero, Lowest}
use Rattle.verdicts.proofs.Verdicts.{OnePlace, OnePlaces, Misses, NoneApplies, lowest_unique, at_zero, at_zero_unique, one_verdict, given_after, front_given, none_lowest}
use Rattle.graphs.specs.Graph.{Graph, graph_of}
use Rattle.graphs.specs.Limits.{EndsKept, DelaysKept}
use Rattle.graphs.specs.Refusal.{OutsideDelays}
use Rattle.graphs.proofs.Unique.{inside_delays, delays_kept}
use Rattle.refusals.specs.Faults.{InsideDelays}
use Rattle.executions.specs.Separation.{Separation}
use Rattle.executions.proofs.Unique.{separation_unique}
use Rattle.processes.specs.declared.Event.{Event}
use Rattle.processes.specs.Process.{templates, target, mark, occurrence, ProcessGraph, start_least, start_most}
use Rattle.processes.specs.Ways.{MarkZeroWay, empty, along, templates_on, MarkZeroCycle}
use Rattle.processes.specs.Unfolding.{UnknownTemplateEvent, MarkOutside}
use Rattle.processes.proofs.Refusals.{plain, ends_of, delays_of_lem, start_of, mark_of}
use Rattle.processes.proofs.Refusals as templates-laws
use Rattle.levels.specs.Full.{full_unfolding}
use Rattle.levels.specs.Long.{
  CountOutside,
  no_events,
  many_events,
  TemplatesOutside,
  many_templates,
  targets_differ,
  leasts_differ,
  mosts_differ,
  marks_differ,
  start_leasts_differ,
  start_mosts_differ,
  CopiesOutside,
  no_copies,
  many_copies,
  IntervalOutside,
  At,
  MissingOccurrence,
  source_missing,
  target_missing,
  OnCycle,
  Untargeted,
  input_checks,
  TooManyPairs,
  long_checks,
  LongAnswered,
}
use Rattle.levels.proofs.Sound.{Fit}

-- ---- one answer

missing_unique : {g : ProcessGraph} {K : ℕ} {s : Event} {ks : ℕ} {t : Event} {kt : ℕ} → OnePlace (MissingOccurrence g K s ks t kt)
missing_unique p q (source_missing n) (source_missing m) = refl
missing_unique p q (source_missing n) (target_missing m k) = absurd (n m)
missing_unique p q (target_missing m k) (source_missing n) = absurd (n m)
missing_unique p q (target_missing m k) (target_missing n l) = refl

module _ (g : ProcessGraph) (K : ℕ) (s : Event) (ks : ℕ) (t : Event) (kt : ℕ) where
  pub long_places : OnePlaces (long_checks g K s ks t kt)
  long_places = (
    at_zero_unique,
    (at_zero_unique, (at_zero_unique, (lowest_unique, (lowest_unique, (lowest_unique, (missing_unique, (lowest_unique, (lowest_unique, (at_zero_unique, tt))))))))),
  )

  pub long_unique : {r p r' p' : ℕ} {x x' : ℤ} → LongAnswered g K s ks t kt r p x → LongAnswered g K s ks t kt r' p' x'
      → (r ≡ r') × (p ≡ p') × (x ≡ x')
  long_unique {r} {p} {r'} {p'} {x} {x'} a b = (same.0, same.1, by (ℕ_discrete r 0))
    where
      same : (r ≡ r') × (p ≡ p')
      same = one_verdict (long_checks g K s ks t kt) long_places r p r' p' a.verdict b.verdict

      by : Dec (r ≡ 0) → x ≡ x'
      by (yes e) = separation_unique (a.answer e) (b.answer (sym same.0 ∙ e))
      by (no n) = a.refused n ∙ sym (b.refused (λ e. n (same.0 ∙ e)))

-- ---- what is kept

pub record ListsKept (g : ProcessGraph) : Type 0 where
  pub few_templates : templates g ≤ 128
  pub targets_match : length g.targets ≡ templates g
  pub leasts_match : length g.leasts ≡ templates g
  pub mosts_match : length g.mosts ≡ templates g
  pub marks_match : length g.marks ≡ templates g
  pub start_leasts_match : length g.start_leasts ≡ templates g
  pub start_mosts_match : length g.start_mosts ≡ templates g

pub record InputKept (g : ProcessGraph) (K : ℕ) (s : Event) (ks : ℕ) (t : Event) (kt : ℕ) : Type 0 where
  pub some_event : 0 < g.events
  pub few_events : g.events ≤ 32
  pub lists : ListsKept g
  pub some_copy : 0 < K
  pub few_copies : K ≤ 100000
  pub fit : Fit g
  pub source_there : At g K s ks
  pub target_there : At g K t kt

-- ---- where nothing is refused

pub copies_miss : {K : ℕ} → 0 < K → K ≤ 100000 → Misses (AtZero (CopiesOutside K))
copies_miss {K} some few p a = by a.holds
  where
    by : CopiesOutside K → ⊥
    by (no_copies e) = omega arith
    by (many_copies l) = omega arith

-- the start intervals, read as the delays of an event graph
abbrev starting : ProcessGraph → Graph
starting g = graph_of g.events g.sources g.targets g.start_leasts g.start_mosts

module _ (g : ProcessGraph) where
  pub count_miss : 0 < g.events → g.events ≤ 32 → Misses (AtZero (CountOutside g))
  count_miss some few p a = by a.holds
    where
      by : CountOutside g → ⊥
      by (no_events e) = omega arith
      by (many_events l) = omega arith

  pub templates_miss : ListsKept g → Misses (AtZero (TemplatesOutside g))
  templates_miss kept p a = by a.holds
    where
      by : TemplatesOutside g → ⊥
      by (many_templates l) = let few = kept.few_templates in omega (arith, few, l)
      by (targets_differ d) = d kept.targets_match
      by (leasts_differ d) = d kept.leasts_match
      by (mosts_differ d) = d kept.mosts_match
      by (marks_differ d) = d kept.marks_match
      by (start_leasts_differ d) = d kept.start_leasts_match
      by (start_mosts_differ d) = d kept.start_mosts_match

  outside_not : {j : ℕ} → j < templates g → InsideDelays (start_least g j) (start_most g j) → OutsideDelays (start_least g j) (start_most g j) → ⊥
  outside_not {j} l h o =
      let kept : DelaysKept 1000000 (starting g) j = record { least_within = h.least_within; most_within = h.most_within; ordered = h.ordered } in
      delays_kept kept (record { is_rule = l; outside = o })

  pub intervals_miss : ((j : ℕ) → j < templates g → DelaysKept 1000000 (plain g) j)
      → ((j : ℕ) → j < templates g → mark g j ≡ 1 → InsideDelays (start_least g j) (start_most g j)) → Misses (Lowest (IntervalOutside g))
  intervals_miss delays starts j a =
      let l = a.holds.is_template in
      ⊎_elim (λ o. delays_kept (delays j l) (record { is_rule = l; outside = o })) (λ h. outside_not l (starts j l h.0) h.1) a.holds.outside

  pub occurrences_miss : {K : ℕ} {s : Event} {ks : ℕ} {t : Event} {kt : ℕ} → At g K s ks → At g K t kt → Misses (MissingOccurrence g K s ks t kt)
  occurrences_miss a b p (source_missing n) = n a
  occurrences_miss a b p (target_missing h n) = n b

  pub cycles_miss : (MarkZeroCycle g → ⊥) → Misses (Lowest (OnCycle g))
  cycles_miss none v a = none (record { 0 = v }, a.holds.cycle)

  pub targets_miss : ((v : ℕ) → v < g.events → (j : ℕ) × (j < templates g) × ((target g j).0 ≡ v)) → Misses (Lowest (Untargeted g))
  targets_miss targeted v a =
      let (j, l, e) = targeted v a.holds.is_event in
      a.holds.no_template j l e

  -- ---- and back

  inside_start : {j : ℕ} → j < templates g → (OutsideDelays (start_least g j) (start_most g j) → ⊥) → InsideDelays (start_least g j) (start_most g j)
  inside_start {j} l inside =
      let h : DelaysKept 1000000 (starting g) j = inside_delays l (λ o. inside o.outside) in
      record { least_within = h.least_within; most_within = h.most_within; ordered = h.ordered }

  -- the event on a cycle exists, since a template leaves it
  cycle_known : ((j : ℕ) → j < templates g → EndsKept (plain g) j)
      → (u v : Event) (w : MarkZeroWay g u v) → 0 < templates_on w → u.0 < g.events
  cycle_known ends u v empty some = absurd (let no : ⊥ = omega arith in no)
  cycle_known ends u v (along j l m from to w) some = subst (λ (x : Event). x.0 < g.events) from (ends j l).source_known

  -- a template that targets v, among those below r, or none
  abbrev Found : ℕ → ℕ → Type 0
  Found v r = ((j : ℕ) × (j < r) × ((target g j).0 ≡ v)) ⊎ ((j : ℕ) → j < r → (target g j).0 ≡ v → ⊥)

  search : (v r : ℕ) → Found v r
  search v zero = inr (λ j l. absurd (let no : ⊥ = omega arith in no))
  search v (suc r) = by (search v r) (ℕ_discrete (target g r).0 v)
    where
      by : Found v r → Dec ((target g r).0 ≡ v) → Found v (suc r)
      by (inl (j, l, e)) d = inl (j, omega arith, e)
      by (inr none) (yes e) = inl (r, omega arith, e)
      by (inr none) (no n) = inr (below_next (λ j. (target g j).0 ≡ v → ⊥) r none n)

  pub fit_of : ((j : ℕ) → UnknownTemplateEvent g j → ⊥) → ((j : ℕ) → IntervalOutside g j → ⊥) → ((j : ℕ) → MarkOutside g j → ⊥)
      → ((v : ℕ) → OnCycle g v → ⊥) → ((v : ℕ) → Untargeted g v → ⊥) → Fit g
  fit_of no-2 no-3 no-7 no-5 no-6 =
      record {
        each =
            record {
              ends = ends;
              delays = λ j l. delays_of_lem {g = g} j l (λ o. no-3 j (record { is_template = o.is_template; outside = o.outside }));
              starts = λ j l m. start_of {g = g} j l m (λ o. no-3 j (record { is_template = o.is_template; outside = o.outside }));
              marks = λ j l. mark_of j l (no-7 j);
            };
        starts = λ j l m. inside_start l (λ o. no-3 j (record { is_template = l; outside = inr (m, o) }));
        no_cycle = λ c. cycle c.0 c.1.0 c.1.1;
        targeted = λ v l. found v l (search v (templates g));
      }
    where
      ends : (j : ℕ) → j < templates g → EndsKept (plain g) j
      ends j l = ends_of j l (no-2 j)

      cycle : (v : Event) (w : MarkZeroWay g v v) → 0 < templates_on w → ⊥
      cycle v w some = no-5 v.0 (record { is_event = cycle_known ends v v w some; cycle = (w, some) })

      found : (v : ℕ) → v < g.events → Found v (templates g) → (j : ℕ) × (j < templates g) × ((target g j).0 ≡ v)
      found v l (inl h) = h
      found v l (inr none) = absurd (no-6 v (record { is_event = l; no_template = none }))

  lists_of : (TemplatesOutside g → ⊥) → ListsKept g
  lists_of inside =
      let few : 128 < templates g → ⊥ = λ l. inside (many_templates l) in
      record {
        few_templates = omega arith;
        targets_match = stable (length g.targets) (templates g) (λ d. inside (targets_differ d));
        leasts_match = stable (length g.leasts) (templates g) (λ d. inside (leasts_differ d));
        mosts_match = stable (length g.mosts) (templates g) (λ d. inside (mosts_differ d));
        marks_match = stable (length g.marks) (templates g) (λ d. inside (marks_differ d));
        start_leasts_match = stable (length g.start_leasts) (templates g) (λ d. inside (start_leasts_differ d));
        start_mosts_match = stable (length g.start_mosts) (templates g) (λ d. inside (start_mosts_differ d));
      }

  at_of : {K : ℕ} (u : Event) (k : ℕ) → Dec (u.0 < g.events) → Dec (k < K) → (At g K u k) ⊎ (At g K u k → ⊥)
  at_of u k (yes l) (yes h) = inl (record { is_event = l; is_copy = h })
  at_of u k (yes l) (no n) = inr (λ a. n a.is_copy)
  at_of u k (no n) d = inr (λ a. n a.is_event)

module _ {g : ProcessGraph} {K : ℕ} {s : Event} {ks : ℕ} {t : Event} {kt : ℕ} where
  pub input_none : InputKept g K s ks t kt → NoneApplies (input_checks g K s ks t kt)
  input_none kept = (
    count_miss g kept.some_event kept.few_events,
    (
      templates_miss g kept.lists,
      (
        copies_miss kept.some_copy kept.few_copies,
        (
          templates-laws.ends_miss kept.fit.each.ends,
          (
            intervals_miss g kept.fit.each.delays kept.fit.starts,
            (
              templates-laws.marks_miss kept.fit.each.marks,
              (
                occurrences_miss g kept.source_there kept.target_there,
                (cycles_miss g kept.fit.no_cycle, (targets_miss g kept.fit.targeted, tt)),
              ),
            ),
          ),
        ),
      ),
    ),
  )

  pub input_kept : NoneApplies (input_checks g K s ks t kt) → InputKept g K s ks t kt
  input_kept (no_21, (no_22, (no-24, (no-2, (no-3, (no-7, (no-4, (no-5, (no-6, _))))))))) =
      let counts : CountOutside g → ⊥ = λ o. no_21 0 (at_zero o) in
      let some : g.events ≡ 0 → ⊥ = λ e. counts (no_events e) in
      let few : 32 < g.events → ⊥ = λ l. counts (many_events l) in
      let copies : CopiesOutside K → ⊥ = λ o. no-24 0 (at_zero o) in
      let some-copies : K ≡ 0 → ⊥ = λ e. copies (no_copies e) in
      let few_copies : 100000 < K → ⊥ = λ l. copies (many_copies l) in
      let there : At g K s ks = source_at (at_of g s ks (dec_lt s.0 g.events) (dec_lt ks K)) in
      record {
        some_event = omega arith;
        few_events = omega arith;
        lists = lists_of g (λ o. no_22 0 (at_zero o));
        some_copy = omega arith;
        few_copies = omega arith;
        fit = fit_of g (none_lowest no-2) (none_lowest no-3) (none_lowest no-7) (none_lowest no-5) (none_lowest no-6);
        source_there = there;
        target_there = target_at there (at_of g t kt (dec_lt t.0 g.events) (dec_lt kt K));
      }
    where
      source_at : (At g K s ks) ⊎ (At g K s ks → ⊥) → At g K s ks
      source_at (inl a) = a
      source_at (inr n) = absurd (no-4 0 (source_missing n))

      target_at : At g K s ks → (At g K t kt) ⊎ (At g K t kt → ⊥) → At g K t kt
      target_at h (inl a) = a
      target_at h (inr n) = absurd (no-4 1 (target_missing h n))

  -- ---- the answer

  pub long_refused : {j p : ℕ} → (j ≡ 0 → ⊥) → FirstOf (input_checks g K s ks t kt) j p → LongAnswered g K s ks t kt j p (pos 0)
  long_refused {j} {p} some v =
      record {
        verdict = front_given (input_checks g K s ks t kt) (FirstOf (check 12 (AtZero (TooManyPairs g K s ks t kt)) ∷ [])) j p some v;
        answer = λ e. absurd (some e);
        refused = λ n. refl;
      }

  pub long_overfull : InputKept g K s ks t kt → TooManyPairs g K s ks t kt → LongAnswered g K s ks t kt 12 0 (pos 0)
  long_overfull kept over =
      record {
        verdict = given_after (input_checks g K s ks t kt) (check 12 (AtZero (TooManyPairs g K s ks t kt))) [] Accepted 0 (input_none kept) (at_zero over);
        answer = λ e. absurd (let no : ⊥ = omega arith in no);
        refused = λ n. refl;
      }

  pub long_answered : InputKept g K s ks t kt → (TooManyPairs g K s ks t kt → ⊥) → {x : ℤ}
      → Separation (full_unfolding g K) (occurrence g ks s).0 (occurrence g kt t).0 x → LongAnswered g K s ks t kt 0 0 x
  long_answered kept fits separation =
      record {
        verdict = passed_each;
        answer = λ e. separation;
        refused = λ n. absurd (n refl);
      }
    where
      passed_each : FirstOf (long_checks g K s ks t kt) 0 0
      passed_each =
          let (no_21, (no_22, (no-24, (no-2, (no-3, (no-7, (no-4, (no-5, (no-6, _))))))))) = input_none kept in
          passed no_21
          (passed no_22 (passed no-24 (passed no-2 (passed no-3 (passed no-7 (passed no-4 (passed no-5 (passed no-6 (passed (λ p a. fits a.holds) accepted)))))))))
