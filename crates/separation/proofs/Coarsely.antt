-- From what the parts promise to the promise of the coarse form.
--     rounding_passed, step_verdict    of a question that is kept, the rounding can refuse the step alone
--     step_in                where it refuses nothing, q is from 1 to 1,000
--     rounded_lists          the front parts of the two rounded lists make the rounded graph
--     lowest_same, path_verdict_same    refusals 5 and 6 speak of paths alone, so they are the same of the rounded graph
--     step_kept              a step from 1 to 1,000 is not refused
--     coarse_refused         an input that is refused is answered
--     coarse_step_refused    so is a step that is refused
--     coarse_analysed        an input that is kept is answered by the analysis of the rounded graph
-- Assumes nothing.
use Rattle.std.proofs.Common.{Result, Ok, Err}
use mathlib.Core.Path.{◌≡◌, refl, sym, subst, ◌∙◌}
use mathlib.Core.Logic.{inl, inr}
use mathlib.Core.List.{List, [], ◌∷◌}
use Prim.Native.Nat.{ℕ, ◌<◌, ◌≤◌}
use native.Mathlib.Omega.{arith}
use lib.IntN.{ℤ, pos}
use lib.ListN.{length, take}
use lib.Seq.{length-take-le, get_or-take}
use Rattle.verdicts.specs.Verdict.{check, passed, Accepted, AtZero, Lowest, FirstOf}
use Rattle.verdicts.proofs.Verdicts.{NoneApplies, none_alike, more_alike, then_alike, rest_of, passed_all, front_given, accepted_none}
use Rattle.graphs.specs.Graph.{Graph, graph_of}
use Rattle.graphs.specs.Path.{OnCycle}
use Rattle.graphs.specs.Limits.{Sized}
use Rattle.graphs.specs.Refusal.{Unreached, question_checks, question_checks_to, path_checks}
use Rattle.refusals.specs.declared.Refusal.{Refusal}
use Rattle.refusals.specs.Faults.{DelaysInside}
use Rattle.refusals.proofs.Question.{QuestionKept, kept_none}
use Rattle.graphs.proofs.Limits.{sound_of}
use Rattle.executions.specs.Separation.{Separation, SameRules}
use Rattle.executions.proofs.Same.{same_exchanged, path_same, on_cycle_same, cycle_same, depth_same}
use Rattle.executions.proofs.Schedules.{separation_of}
use Rattle.rounding.specs.Rounding.{Rounded}
use Rattle.rounding.specs.Promise.{StepOutside, ListsDiffer, ShortForDelays, EntryOutside, rounding_checks, DelaysRounded}
use Rattle.rounding.proofs.Promises.{lists_kept, inside_kept, step_kept}
use Rattle.rounding.proofs.Costs.{rounded_sized}
use Rattle.analysis.proofs.Arranging.{sized_up}
use Rattle.refusals.specs.Numbers.{number_of, place_of, number_in, place_in}
use Rattle.refusals.proofs.Unique.{some_number}
use Rattle.separation.specs.declared.Answer.{Answer}
use Rattle.separation.specs.Numbers.{answer_numbers}
use Rattle.separation.specs.Promise.{PathVerdict}
use Rattle.separation.specs.Coarse.{CoarseVerdict, CoarseFound, CoarseAnswered}
use Rattle.separation.specs.Parts.Answers.{AnswerFound, AnswerAnalysed}

-- ---- the rounding

module _ {n : ℕ} {ss ts : List ℕ} {ds Ds : List ℤ} (low₀ high₀ : List ℤ) (sized : Sized 1000000 (graph_of n ss ts ds Ds)) (low_long : length low₀ ≡ 4096) (high_long : length high₀ ≡ 4096) where
  lists_none : NoneApplies (check 22 (AtZero (ListsDiffer ds Ds)) ∷ check 23 (AtZero (ShortForDelays ds low₀ high₀)) ∷ check 3 (Lowest (EntryOutside ds Ds)) ∷ [])
  lists_none =
      let counts = sized.counts in
      let few : length ds ≤ 4096 = subst (λ (k : ℕ). k ≤ 4096) (sym counts.leasts_match) counts.few_rules in
      let inside : (i : ℕ) → i < length ds → DelaysInside ds Ds i =
      λ i l.
      let d = sized.delays i (subst (λ (k : ℕ). i < k) counts.leasts_match l) in
      record { least_within = d.least_within; most_within = d.most_within; ordered = d.ordered }
      in
      let (differ, (short, _)) = lists_kept ds Ds low₀ high₀ (record { as_many = counts.mosts_match ∙ sym counts.leasts_match; low_long = omega arith; high_long = omega arith }) in
      (differ, (short, (inside_kept inside, tt)))

  rounding_passed : {q j p : ℕ} → FirstOf (rounding_checks q ds Ds low₀ high₀) j p → FirstOf (check 9 (StepOutside q) ∷ []) j p
  rounding_passed {q} {j} {p} v =
      rest_of (check 22 (AtZero (ListsDiffer ds Ds)) ∷ check 23 (AtZero (ShortForDelays ds low₀ high₀)) ∷ check 3 (Lowest (EntryOutside ds Ds)) ∷ []) (FirstOf (check 9 (StepOutside q) ∷ [])) j p lists_none v

  pub step_verdict : {q : ℕ} {low high : List ℤ} {x : Result Unit Refusal} → DelaysRounded q ds Ds low₀ high₀ low high x → FirstOf (check 9 (StepOutside q) ∷ []) (number_in x) (place_in x)
  step_verdict rounded = rounding_passed rounded.verdict

  module _ {q : ℕ} {low high : List ℤ} (rounded : DelaysRounded q ds Ds low₀ high₀ low high (Ok tt)) where
    pub step_in : (1 ≤ q) × (q ≤ 1000)
    step_in =
        let (misses, _) = accepted_none (check 9 (StepOutside q) ∷ []) Accepted (omega arith, tt) 0 0 refl (rounding_passed rounded.verdict) in
        let some : q ≡ 0 → ⊥ = λ e. misses.0 q (record { its_place = refl; outside = inl e }) in
        let few : 1000 < q → ⊥ = λ l. misses.0 q (record { its_place = refl; outside = inr l }) in
        (omega arith, omega arith)

    pub low_room : length ss ≤ length low
    low_room = omega (arith, sized.counts.few_rules, rounded.low_length)

    pub high_room : length ss ≤ length high
    high_room = omega (arith, sized.counts.few_rules, rounded.high_length)

    pub rounded_lists : Rounded q (graph_of n ss ts ds Ds) (graph_of n ss ts (take (length ss) low) (take (length ss) high))
    rounded_lists =
        record {
          same = record { events_same = refl; sources_same = refl; targets_same = refl };
          as_many_leasts = length-take-le (length ss) low low_room ∙ sym sized.counts.leasts_match;
          as_many_mosts = length-take-le (length ss) high high_room ∙ sym sized.counts.mosts_match;
          down = λ i l. rw (get_or-take (length ss) low i (pos 0) l) (rounded.down refl i (omega (arith, l, sized.counts.leasts_match)));
          up = λ i l. rw (get_or-take (length ss) high i (pos 0) l) (rounded.up refl i (omega (arith, l, sized.counts.leasts_match)));
        }

-- ---- refusals 5 and 6

module _ {g h : Graph} (same : SameRules g h) where
  unreached_same : {v : ℕ} → Unreached h v → Unreached g v
  unreached_same u =
      record { is_event = omega (arith, u.is_event, same.events_same); no_path = λ p. u.no_path (path_same (same_exchanged same) p).0 }

-- what holds of the same events of both has the same lowest one
lowest_same : {A B : ℕ → Type 0} → ((v : ℕ) → A v → B v) → ((v : ℕ) → B v → A v) → (p : ℕ) → Lowest A p → Lowest B p
lowest_same to from p a = record { holds = to p a.holds; lowest = λ q l x. a.lowest q l (from q x) }

pub path_verdict_same : {g h : Graph} → SameRules g h → {j p : ℕ} → PathVerdict h j p → PathVerdict g j p
path_verdict_same {g} {h} same {j} {p} v = then_alike (more_alike (lowest_same on on_back) (lowest_same on_back on) (more_alike (lowest_same un un_back) (lowest_same un_back un) none_alike)) Accepted j p v
  where
    on : (u : ℕ) → OnCycle h u → OnCycle g u
    on u = on_cycle_same same

    on_back : (u : ℕ) → OnCycle g u → OnCycle h u
    on_back u = on_cycle_same (same_exchanged same)

    un : (u : ℕ) → Unreached h u → Unreached g u
    un u = unreached_same same

    un_back : (u : ℕ) → Unreached g u → Unreached h u
    un_back u = unreached_same (same_exchanged same)

-- ---- the answers

never : ⊥ → ⊥
never x = x

after : {g : Graph} {q s t : ℕ} → QuestionKept 1000000 g s t → {j p : ℕ} → FirstOf (check 9 (StepOutside q) ∷ path_checks g) j p → CoarseVerdict g q s t j p
after {g} {q} {s} {t} kept {j} {p} v = passed_all (question_checks g s t ⊥) (FirstOf (check 9 (StepOutside q) ∷ path_checks g)) j p (kept_none never kept) v

rounded_kept : {g h : Graph} {q s t : ℕ} → QuestionKept 1000000 g s t → q ≤ 1000 → Rounded q g h → QuestionKept 1001000 h s t
rounded_kept kept small rounded =
    let same = rounded.same in
    record {
      sized = sized_up (omega arith) (rounded_sized kept.sized small rounded);
      source_known = omega (arith, kept.source_known, same.events_same);
      target_known = omega (arith, kept.target_known, same.events_same);
    }

module _ {g : Graph} {q s t : ℕ} (r : Refusal) where
  coarse_given : CoarseVerdict g q s t (number_of r) (place_of r) → CoarseAnswered g q s t (answer_numbers (Err r))
  coarse_given v =
      record { verdict = v; found = λ e. absurd (some_number r e); nothing = λ _. record { no_separation = refl; no_source_depth = refl; no_target_depth = refl } }

  pub coarse_refused : FirstOf (question_checks g s t ⊥) (number_of r) (place_of r) → CoarseAnswered g q s t (answer_numbers (Err r))
  coarse_refused v = coarse_given (front_given (question_checks g s t ⊥) (FirstOf (check 9 (StepOutside q) ∷ path_checks g)) (number_of r) (place_of r) (some_number r) v)

  pub coarse_step_refused : QuestionKept 1000000 g s t → FirstOf (check 9 (StepOutside q) ∷ []) (number_of r) (place_of r) → CoarseAnswered g q s t (answer_numbers (Err r))
  coarse_step_refused kept v = coarse_given (after kept (front_given (check 9 (StepOutside q) ∷ []) (PathVerdict g) (number_of r) (place_of r) (some_number r) v))

module _ {g : Graph} {q s t : ℕ} {a : Answer} where
  module _ (kept : QuestionKept 1000000 g s t) where
    module _ {h : Graph} {us : List ℤ} (step : (1 ≤ q) × (q ≤ 1000)) (rounded : Rounded q g h) where
      coarse_found : AnswerFound 1001000 h s t us a → CoarseFound g q s t a
      coarse_found f =
          let same = rounded.same in
          record {
            graph =
                record {
                  sized = kept.sized;
                  acyclic = λ k. f.graph.acyclic (cycle_same (same_exchanged same) k);
                  reachable = λ v l. (path_same same (f.graph.reachable v (omega (arith, l, same.events_same)))).0;
                };
            source_known = kept.source_known;
            target_known = kept.target_known;
            step_positive = step.0;
            step_small = step.1;
            greatest =
                record {
                  graph = h;
                  rounded = rounded;
                  greatest = subst (Separation h s t) (sym f.at_target) (separation_of (sound_of f.graph) f.source_known f.steps t f.target_known);
                };
            depth_of_source = depth_same same f.depth_of_source;
            depth_of_target = depth_same same f.depth_of_target;
          }

      pub coarse_analysed : AnswerAnalysed 1001000 h s t us a → CoarseAnswered g q s t a
      coarse_analysed x =
          record {
            verdict =
                after kept
                (passed (step_kept step.0 step.1)
                (path_verdict_same rounded.same
                (rest_of (question_checks_to 1001000 h s t ⊥) (PathVerdict h) a.refusal a.place (kept_none never (rounded_kept kept step.1 rounded)) x.verdict)));
            found = λ e. coarse_found (x.found e);
            nothing = x.nothing;
          }
