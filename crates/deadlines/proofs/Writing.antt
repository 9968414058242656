-- What the lent lists hold.
--     lists_refused     a refusal leaves both lists as they were
--     rule_timed        the times that are written are small enough to subtract
--     lists_written     what `write_gaps` and `write_differences` wrote is the schedule
-- Assumes nothing.
use Rattle.std.proofs.Common.{Err}
use mathlib.Core.Path.{◌≡◌, refl, sym, subst}
use mathlib.Core.List.{List}
use Prim.Native.Nat.{ℕ, ◌<◌, ◌≤◌}
use native.Mathlib.Omega.{arith}
use lib.IntN.{ℤ, pos}
use lib.ListN.{length, get_or}
use Rattle.integers.specs.Within.{Within}
use Rattle.integers.proofs.Word.{within_difference}
use Rattle.sequences.specs.Filled.{Filled}
use Rattle.graphs.specs.Graph.{Graph, graph_of}
use Rattle.graphs.proofs.Limits.{sound_of}
use Rattle.hardtimes.proofs.Gaps.{gap_schedule}
use Rattle.refusals.specs.declared.Refusal.{Refusal}
use Rattle.refusals.proofs.Unique.{some_number}
use Rattle.separation.specs.Promise.{at}
use Rattle.deadlines.specs.declared.HardAnswer.{HardAnswer}
use Rattle.deadlines.specs.Numbers.{hard_numbers}
use Rattle.deadlines.specs.Promise.{HardWritten}
use Rattle.deadlines.specs.Parts.Lists.{GapAt, DifferenceAt, RuleTimed}
use Rattle.deadlines.specs.Parts.Gaps.{EndsAnswered}

pub lists_refused : {g : Graph} {s : ℕ} (r : Refusal) {times delays : List ℤ} → HardWritten g s (hard_numbers (Err r)) times delays times delays
lists_refused r =
    record {
      schedule = λ e. absurd (some_number r e);
      times_beyond = λ e. refl;
      delays_beyond = λ e. refl;
      times_kept = λ m. refl;
      delays_kept = λ m. refl;
      times_length = refl;
      delays_length = refl;
    }

module _ {n : ℕ} {ss ts : List ℕ} {ds Ds : List ℤ} {s t : ℕ} {a : HardAnswer} {latest times₀ times : List ℤ} (ends : EndsAnswered (graph_of n ss ts ds Ds) s t latest a) (accepted : a.refusal ≡ 0) (wt : Filled (pos 0) n (GapAt latest 0) times₀ times) where
  pub rule_timed : n ≤ length times → (i : ℕ) → i < length ss → RuleTimed ss ts times i
  rule_timed room i l =
      let found = ends.answer.found accepted in
      let rule = found.graph.sized.ends i l in
      record {
        source_known = omega (arith, rule.source_known);
        target_known = omega (arith, rule.target_known);
        source_within = time_within (get_or ss i 0) rule.source_known;
        target_within = time_within (get_or ts i 0) rule.target_known;
      }
    where
      time_within : (v : ℕ) → v < n → Within 4092000002 (at times v)
      time_within v h =
          let within = ends.within accepted in
          let some = (ends.answer.found accepted).graph.sized.counts.some_event in
          subst (Within 4092000002) (sym (wt.each v h)) (within_difference (within v h) (within 0 some))

  pub lists_written : {delays₀ delays : List ℤ} → length times ≡ length times₀ → Filled (pos 0) (length ss) (DifferenceAt ss ts times) delays₀ delays → length delays ≡ length delays₀ → HardWritten (graph_of n ss ts ds Ds) s a times₀ delays₀ times delays
  lists_written lt wd ld =
      let found = ends.answer.found accepted in
      record {
        schedule = λ _. gap_schedule (sound_of found.graph) (ends.gaps accepted) found.source_known wt.each wd.each;
        times_beyond = λ _. wt.beyond;
        delays_beyond = λ _. wd.beyond;
        times_kept = λ m. absurd (m accepted);
        delays_kept = λ m. absurd (m accepted);
        times_length = lt;
        delays_length = ld;
      }
