-- From the promise of the analysis to an answer.
--     answer_refused    a refusal of the analysis is one of the answer: a list of 1,024 places is too short only where there are too many events
--     answer_found      so is what it found, with U(t) read off the list
-- Assumes nothing.
use Rattle.std.proofs.Common.{Ok, Err}
use mathlib.Core.Path.{◌≡◌, refl}
use mathlib.Core.List.{List, [], ◌∷◌, ◌++◌}
use Prim.Native.Nat.{ℕ, ◌<◌}
use native.Mathlib.Omega.{arith}
use lib.IntN.{ℤ}
use lib.ListN.{length}
use Rattle.verdicts.specs.Verdict.{Check, check, passed, AtZero, FirstThen, FirstOf}
use Rattle.verdicts.proofs.Verdicts.{misses_at_zero, holds_not, rest_of, then_more_after}
use Rattle.graphs.specs.Graph.{Graph}
use Rattle.graphs.specs.Refusal.{many_events, MissingEnd, count_checks, rule_checks, path_checks}
use Rattle.refusals.specs.Question.{delay_limit}
use Rattle.refusals.specs.declared.Refusal.{Refusal}
use Rattle.refusals.proofs.Unique.{some_number}
use Rattle.analysis.specs.declared.Depths.{Depths}
use Rattle.analysis.specs.Promise.{AnalysisVerdict, Analysed}
use Rattle.separation.specs.Numbers.{answer_numbers}
use Rattle.separation.specs.Promise.{at}
use Rattle.separation.specs.Parts.Answers.{AnswerAnalysed}

-- where refusal 21 does not apply, there are no more than 1,024 events
room_counted : {g : Graph} (us : List ℤ) → length us ≡ 1024 → (limit : ℕ) {s t j p : ℕ} → AnalysisVerdict limit g s t (length us < g.events) j p → AnalysisVerdict limit g s t ⊥ j p
room_counted {g} us long limit {s} {t} {j} {p} =
    then_more_after (count_checks 1024 4096 g) (FirstThen (check 23 (AtZero (length us < g.events)) ∷ after) (FirstOf (path_checks g))) (FirstThen (check 23 (AtZero ⊥) ∷ after) (FirstOf (path_checks g))) j p
    (λ none v.
    passed (misses_at_zero (λ never. never))
    (rest_of (check 23 (AtZero (length us < g.events)) ∷ []) (FirstThen after (FirstOf (path_checks g))) j p (misses_at_zero (λ l. holds_not none.0 (many_events (omega (arith, long)))), tt) v))
  where
    after : List Check
    after = rule_checks (delay_limit limit) g ++ (check 4 (MissingEnd g s t) ∷ [])

module _ {limit : ℕ} {g : Graph} {s t : ℕ} {us₀ us : List ℤ} (long : length us₀ ≡ 1024) where
  pub answer_refused : {r : Refusal} → Analysed limit g s t us₀ us (Err r) → AnswerAnalysed limit g s t us (answer_numbers (Err r))
  answer_refused {r} analysed =
      record {
        verdict = room_counted us₀ long limit analysed.verdict;
        found = λ e. absurd (some_number r e);
        nothing = λ _. record { no_separation = refl; no_source_depth = refl; no_target_depth = refl };
      }

  pub answer_found : {d : Depths} (y : ℤ) → Analysed limit g s t us₀ us (Ok d) → y ≡ at us t →
      AnswerAnalysed limit g s t us (answer_numbers (Ok (record { separation = y; source_depth = d.source; target_depth = d.target })))
  answer_found y analysed read =
      let h = analysed.outcome in
      record {
        verdict = room_counted us₀ long limit analysed.verdict;
        found = λ _.
            record {
              graph = h.graph;
              source_known = h.source_known;
              target_known = h.target_known;
              steps = h.steps;
              within = h.within;
              at_target = read;
              depth_of_source = h.depth_of_source;
              depth_of_target = h.depth_of_target;
            };
        nothing = λ n. absurd (n refl);
      }
