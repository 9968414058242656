-- From what the parts promise to the promises of the exact functions.
--     answered_counts, answered_too_short    counts outside their limits and lists that are too short are refused
--     answered_analysed     what the analysis answers is the answer: U at t is the greatest separation
--     lists_refused         a refusal leaves both lists as they were
--     lists_written         what `write_times` and `write_delays` wrote is the schedule
-- Assumes nothing.
use Rattle.std.proofs.Common.{Err}
use mathlib.Core.Path.{◌≡◌, refl, sym, subst}
use mathlib.Core.List.{List}
use Prim.Native.Nat.{ℕ}
use lib.IntN.{ℤ, pos}
use lib.ListN.{length}
use Rattle.sequences.specs.Filled.{Filled}
use Rattle.verdicts.specs.Verdict.{given, passed, FirstOf}
use Rattle.verdicts.proofs.Verdicts.{at_zero}
use Rattle.graphs.specs.Graph.{Graph, graph_of}
use Rattle.graphs.specs.Limits.{CountsKept}
use Rattle.graphs.specs.Refusal.{count_checks}
use Rattle.graphs.proofs.Limits.{sound_of}
use Rattle.graphs.proofs.Refusals.{events_miss, rules_miss}
use Rattle.refusals.proofs.Counts.{counts_given}
use Rattle.executions.specs.Separation.{Separation}
use Rattle.executions.specs.Schedule.{Latest}
use Rattle.executions.proofs.Schedules.{separation_of, greatest_delay_of, schedule_of}
use Rattle.refusals.specs.declared.Refusal.{Refusal}
use Rattle.refusals.specs.declared.Refusal.TheVariants.{ShortList}
use Rattle.refusals.specs.Numbers.{number_of, place_of}
use Rattle.refusals.proofs.Unique.{some_number}
use Rattle.separation.specs.declared.Answer.{Answer}
use Rattle.separation.specs.Numbers.{answer_numbers}
use Rattle.separation.specs.Promise.{Verdict, Found, Nothing, Answered, Written, at}
use Rattle.separation.specs.Parts.Answers.{AnswerFound, AnswerAnalysed}
use Rattle.separation.specs.Parts.Lists.{TimeAt, DelayAt}

refused_nothing : (r : Refusal) → Nothing (answer_numbers (Err r))
refused_nothing r = record { no_separation = refl; no_source_depth = refl; no_target_depth = refl }

module _ {g : Graph} {s t : ℕ} (r : Refusal) where
  answered_refused : {Short : Type 0} → Verdict g s t Short (number_of r) (place_of r) → Answered g s t Short (answer_numbers (Err r))
  answered_refused v = record { verdict = v; found = λ e. absurd (some_number r e); nothing = λ _. refused_nothing r }

  pub answered_counts : {Short : Type 0} → FirstOf (count_checks 1024 4096 g) (number_of r) (place_of r) → Answered g s t Short (answer_numbers (Err r))
  answered_counts v = answered_refused (counts_given _ (some_number r) v)

pub answered_too_short : {g : Graph} {s t : ℕ} {Short : Type 0} → CountsKept g → Short → Answered g s t Short (answer_numbers (Err ShortList))
answered_too_short counts short = answered_refused ShortList (passed (events_miss counts) (passed (rules_miss counts) (given (at_zero short))))

module _ {g : Graph} {s t : ℕ} {a : Answer} where
  module _ {us : List ℤ} where
    found_of : AnswerFound 1000000 g s t us a → Found g s t a
    found_of f =
        record {
          graph = f.graph;
          source_known = f.source_known;
          target_known = f.target_known;
          greatest = subst (Separation g s t) (sym f.at_target) (separation_of (sound_of f.graph) f.source_known f.steps t f.target_known);
          depth_of_source = f.depth_of_source;
          depth_of_target = f.depth_of_target;
        }

    pub answered_analysed : AnswerAnalysed 1000000 g s t us a → Answered g s t ⊥ a
    answered_analysed x = record { verdict = x.verdict; found = λ e. found_of (x.found e); nothing = x.nothing }

pub lists_refused : {g : Graph} {s : ℕ} (r : Refusal) {times delays : List ℤ} → Written g s (answer_numbers (Err r)) times delays times delays
lists_refused r =
    record {
      schedule = λ e. absurd (some_number r e);
      times_beyond = λ e. refl;
      delays_beyond = λ e. refl;
      times_kept = λ m. refl;
      delays_kept = λ m. refl;
      times_length = refl;
      delays_length = refl;
    }

pub lists_written : {n : ℕ} {ss ts : List ℕ} {ds Ds : List ℤ} {s t : ℕ} {a : Answer} {us times₀ delays₀ times delays : List ℤ} →
    a.refusal ≡ 0 → AnswerFound 1000000 (graph_of n ss ts ds Ds) s t us a →
    Filled (pos 0) n (TimeAt us) times₀ times → length times ≡ length times₀ →
    Filled (pos 0) (length ss) (DelayAt ss ts Ds times) delays₀ delays → length delays ≡ length delays₀ →
    Written (graph_of n ss ts ds Ds) s a times₀ delays₀ times delays
lists_written {n} {ss} {ts} {ds} {Ds} {s} {us = us} {times = times} e f wt lt wd ld =
    let late : Latest (graph_of n ss ts ds Ds) s (at times) = record { u = at us; steps = f.steps; times = wt.each } in
    record {
      schedule = λ _. schedule_of (sound_of f.graph) late f.source_known (λ i l. greatest_delay_of (sound_of f.graph) late l (wd.each i l));
      times_beyond = λ _. wt.beyond;
      delays_beyond = λ _. wd.beyond;
      times_kept = λ m. absurd (m e);
      delays_kept = λ m. absurd (m e);
      times_length = lt;
      delays_length = ld;
    }
