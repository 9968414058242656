-- The promise of the analysis, put together from what its parts promise, and that it fixes the result: two results allowed for one input are equal.
--     analysed_refused    a refusal leaves the list as it was
--     analysed_counts, analysed_short, analysed_input    so does refusal 21 or 22, 23, and one of those that speak of what is handed in
--     not_kept            where the question isn't kept, `check_input` finds a refusal
--     analysed_paths      where the question is kept, what the passes answer is the answer
--     analyse_unique      two results of `analyse` are equal, the list included
-- Assumes nothing.
use Rattle.std.proofs.Common.{Result, Ok, Err, ap}
use mathlib.Core.Path.{◌≡◌, refl, sym, ◌∙◌}
use mathlib.Core.List.{List}
use Prim.Native.Nat.{ℕ, ◌<◌}
use lib.IntN.{ℤ, pos}
use Rattle.graphs.proofs.Limits.{sound_of}
use lib.ListN.{length}
use Rattle.sequences.proofs.Same.{same_places}
use Rattle.verdicts.specs.Verdict.{given, passed, FirstOf, Accepted}
use Rattle.verdicts.proofs.Verdicts.{at_zero, then_unique, one_verdict, front_given, then_alike, passed_all}
use Rattle.graphs.specs.Graph.{Graph}
use Rattle.graphs.specs.Refusal.{count_checks, question_checks_to, path_checks}
use Rattle.graphs.specs.Limits.{CountsKept}
use Rattle.graphs.proofs.Refusals.{events_miss, rules_miss, question_places, path_places, short_alike}
use Rattle.graphs.proofs.Unique.{depth_unique}
use Rattle.executions.proofs.Unique.{u_unique}
use Rattle.refusals.specs.Question.{delay_limit}
use Rattle.refusals.proofs.Question.{QuestionKept, kept_none, question_kept}
use Rattle.refusals.proofs.Counts.{counts_given}
use Rattle.refusals.specs.Numbers.{number_of, place_of, number_in, place_in}
use Rattle.refusals.specs.declared.Refusal.{Refusal}
use Rattle.refusals.specs.declared.Refusal.TheVariants.{ShortList}
use Rattle.refusals.proofs.Unique.{same_refusal, some_number}
use Rattle.analysis.specs.declared.Depths.{Depths}
use Rattle.analysis.specs.Promise.{AnalysisVerdict, AnalysisOutcome, Analysed}
use Rattle.analysis.specs.Parts.Arranged.{PathsAnalysed, PathsOutcome, InputKept}

-- ---- the answer

module _ {limit : ℕ} {g : Graph} {s t : ℕ} {us : List ℤ} {r : Refusal} where
  pub analysed_refused : AnalysisVerdict limit g s t (length us < g.events) (number_of r) (place_of r) → Analysed limit g s t us us (Err r)
  analysed_refused v = record { verdict = v; outcome = refl; same_length = refl }

  pub analysed_counts : FirstOf (count_checks 1024 4096 g) (number_of r) (place_of r) → Analysed limit g s t us us (Err r)
  analysed_counts v = analysed_refused (counts_given _ (some_number r) v)

  -- where the question isn't kept, the refusal that `check_input` finds is the answer
  pub analysed_input : (length us < g.events → ⊥) → FirstOf (question_checks_to (delay_limit limit) g s t ⊥) (number_of r) (place_of r) → Analysed limit g s t us us (Err r)
  analysed_input room v =
      analysed_refused
      (then_alike (short_alike (λ none. absurd none) room) (FirstOf (path_checks g)) (number_of r) (place_of r)
      (front_given (question_checks_to (delay_limit limit) g s t ⊥) (FirstOf (path_checks g)) (number_of r) (place_of r) (some_number r) v))

pub analysed_short : {limit : ℕ} {g : Graph} {s t : ℕ} {us : List ℤ} → CountsKept g → length us < g.events → Analysed limit g s t us us (Err ShortList)
analysed_short counts l = analysed_refused (passed (events_miss counts) (passed (rules_miss counts) (given (at_zero l))))

-- a question of which an end is unknown, or a rule is wrong, is not kept
pub not_kept : (limit : ℕ) (g : Graph) (s t : ℕ) → (QuestionKept (delay_limit limit) g s t → ⊥) → InputKept limit g s t → ⊥
not_kept limit g s t never v = never (question_kept Accepted refl v).0

pub analysed_paths : {limit : ℕ} {g : Graph} {s t : ℕ} {us₀ us : List ℤ} (x : Result Depths Refusal) → (length us₀ < g.events → ⊥) → QuestionKept (delay_limit limit) g s t → length us ≡ length us₀ → PathsAnalysed g s t us₀ us x → Analysed limit g s t us₀ us x
analysed_paths {limit} {g} {s} {t} {us₀} {us} x room kept same p =
    record {
      verdict = passed_all (question_checks_to (delay_limit limit) g s t (length us₀ < g.events)) (FirstOf (path_checks g)) (number_in x) (place_in x) (kept_none room kept) p.verdict;
      outcome = outcome x p.outcome;
      same_length = same;
    }
  where
    outcome : (x : Result Depths Refusal) → PathsOutcome g s t us₀ us x → AnalysisOutcome (delay_limit limit) g s t us₀ us x
    outcome (Ok d) c =
        record {
          graph = record { sized = kept.sized; acyclic = c.acyclic; reachable = c.reachable };
          source_known = kept.source_known;
          target_known = kept.target_known;
          steps = c.latest.steps;
          within = c.latest.within;
          beyond = c.latest.beyond;
          depth_of_source = c.depth_of_source;
          depth_of_target = c.depth_of_target;
        }
    outcome (Err r) same = same

-- ---- one answer

module _ {limit : ℕ} {g : Graph} {s t : ℕ} {us₀ us us' : List ℤ} where
  pub analyse_unique : (x y : Result Depths Refusal) → Analysed limit g s t us₀ us x → Analysed limit g s t us₀ us' y → (x ≡ y) × (us ≡ us')
  analyse_unique x y a b = go x y same a.outcome b.outcome
    where
      same : (number_in x ≡ number_in y) × (place_in x ≡ place_in y)
      same =
          then_unique (question_checks_to (delay_limit limit) g s t (length us₀ < g.events)) (question_places g s t (length us₀ < g.events)) (one_verdict (path_checks g) (path_places g))
          _ _ _ _ a.verdict b.verdict

      go : (x y : Result Depths Refusal) →
          (number_in x ≡ number_in y) × (place_in x ≡ place_in y) →
          AnalysisOutcome (delay_limit limit) g s t us₀ us x →
          AnalysisOutcome (delay_limit limit) g s t us₀ us' y →
          (x ≡ y) × (us ≡ us')
      go (Ok d) (Ok e) same h k = (
        ap Ok (λ i. record { source = depth_unique h.depth_of_source k.depth_of_source i; target = depth_unique h.depth_of_target k.depth_of_target i }),
        same_places g.events us us' (pos 0) (a.same_length ∙ sym b.same_length) (u_unique (sound_of h.graph) h.source_known h.steps k.steps) (h.beyond ∙ sym k.beyond),
      )
      go (Ok d) (Err r) same h k = absurd (some_number r (sym same.0))
      go (Err q) (Ok e) same h k = absurd (some_number q same.0)
      go (Err q) (Err r) same h k = (ap Err (same_refusal q r same.0 same.1), h ∙ sym k)
