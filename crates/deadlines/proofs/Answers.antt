-- From what the parts promise to the answers.
--     times_small, gaps_small    the times of the ordinary schedule, and the gaps that the rounds start from, are small
--     starts_of                  and these gaps are such numbers as the rounds start from
--     answered_local             the answer of the analysis with lists of 1,024 and 4,096 places is that with none
--     gaps_refused, gaps_none, gaps_found    what `latest_gaps` answers, from what the analysis and the rounds found
--     ends_refused, back_again, ends_found   what `both_ends` answers: the gaps against t are not refused where those against s are there
--     answered_alone             the answer with no lists lent is the answer with lists that are long enough
--     answered_counts, answered_short    counts outside their limits and lists that are too short are refused
-- Assumes nothing.
use Rattle.std.proofs.Common.{Ok, Err}
use mathlib.Core.Path.{◌≡◌, refl, sym, subst}
use mathlib.Core.Bool.{Bool, true, false}
use mathlib.Core.List.{List}
use Prim.Native.Nat.{ℕ, ◌<◌}
use native.Mathlib.Omega.{arith}
use lib.IntN.{ℤ, pos, neg_ℤ, ◌-ℤ◌}
use lib.ListN.{length}
use Rattle.integers.proofs.Integer.{linear}
use Rattle.integers.proofs.Word.{within_wider}
use Rattle.sequences.specs.Filled.{Filled}
use Rattle.graphs.specs.Graph.{Graph}
use Rattle.verdicts.specs.Verdict.{FirstOf}
use Rattle.graphs.specs.Limits.{CountsKept, EventGraph}
use Rattle.graphs.specs.Refusal.{count_checks}
use Rattle.graphs.proofs.Limits.{sound_of}
use Rattle.executions.specs.Separation.{Separation}
use Rattle.executions.specs.Schedule.{Schedule}
use Rattle.executions.proofs.Sizes.{times_within, exact_size}
use Rattle.executions.proofs.Unique.{same_event}
use Rattle.refusals.specs.declared.Refusal.{Refusal}
use Rattle.refusals.specs.declared.Refusal.TheVariants.{NoHardTimes, ShortList}
use Rattle.refusals.specs.Numbers.{number_of, place_of}
use Rattle.refusals.proofs.Unique.{some_number}
use Rattle.analysis.specs.declared.Depths.{Depths}
use Rattle.hardtimes.specs.HardTimes.{HardTimes, HardSeparation, LeastHardSeparation}
use Rattle.hardtimes.specs.Parts.Gaps.{LatestGaps}
use Rattle.hardtimes.proofs.Arcs.{hard_of}
use Rattle.hardtimes.proofs.Rules.{hard_gap}
use Rattle.hardtimes.proofs.Gaps.{gap_separation}
use Rattle.hardtimes.proofs.Unique.{least_hard_exchanged}
use Rattle.separation.specs.declared.Answer.{Answer}
use Rattle.separation.specs.Numbers.{answer_numbers}
use Rattle.separation.specs.Promise.{ShortLists, Answered, Found, at}
use Rattle.deadlines.specs.declared.HardAnswer.{HardAnswer}
use Rattle.deadlines.specs.Numbers.{hard_numbers}
use Rattle.deadlines.specs.Promise.{HardVerdict, HardNothing, HardAnswered}
use Rattle.deadlines.specs.Parts.Rounds.{NumbersWithin}
use Rattle.deadlines.specs.Parts.Lists.{GapAt}
use Rattle.deadlines.specs.Parts.Gaps.{Starts, Settled, GapsFound, GapsAnswered, EndsAnswered}
use Rattle.deadlines.proofs.Verdicts.{hard_verdict_unique, local_room, counts_refused, short_given, hard_short, handed_on, refused_10, accepted_0}

-- ---- the start

module _ {g : Graph} (eg : EventGraph 1000000 g) {s : ℕ} (hs : s < g.events) (delays times : List ℤ) (schedule : Schedule g s (at delays) (at times)) where
  pub times_small : NumbersWithin g.events times
  times_small v h = within_wider (omega arith) (times_within eg.sized eg.acyclic schedule.execution v h)

  module _ {old gaps : List ℤ} (filled : Filled (pos 0) g.events (GapAt times s) old gaps) where
    gap_at : (v : ℕ) → v < g.events → Separation g s v (at gaps v)
    gap_at v h = subst (Separation g s v) (sym (filled.each v h)) (schedule.latest v h)

    pub gaps_small : NumbersWithin g.events gaps
    gaps_small v h = within_wider (omega arith) (exact_size eg hs h (gap_at v h))

    pub starts_of : Starts g s gaps
    starts_of =
        record {
          is_event = hs;
          bound = λ v h time hard. hard_gap (sound_of eg) (gap_at v h) hard;
          not_late = omega (linear, same_event (gap_at s hs));
        }

-- ---- the latest gaps

pub answered_local : {g : Graph} {s t : ℕ} (times delays : List ℤ) → length times ≡ 1024 → length delays ≡ 4096 → {a : Answer} → Answered g s t (ShortLists g times delays) a → Answered g s t ⊥ a
answered_local times delays long wide x = record { verdict = local_room times delays long wide x.verdict; found = x.found; nothing = x.nothing }

module _ {g : Graph} {s t : ℕ} where
  pub gaps_refused : {xs : List ℤ} (r : Refusal) → Answered g s t ⊥ (answer_numbers (Err r)) → GapsAnswered g s t xs (Err r)
  gaps_refused r answered = record { verdict = handed_on (some_number r) answered.verdict; found = tt }

  module _ {a : Answer} {old new : List ℤ} {r : Bool} (found : Found g s t a) (starts : Starts g s old) (settled : Settled g old new r) where
    pub gaps_none : r ≡ false → GapsAnswered g s t new (Err NoHardTimes)
    gaps_none e = record { verdict = refused_10 found.graph found.source_known found.target_known (settled.none s starts e); found = tt }

    pub gaps_found : r ≡ true → GapsAnswered g s t new (Ok (record { source = a.source_depth; target = a.target_depth }))
    gaps_found e =
        let latest : LatestGaps g s (at new) = settled.gaps s starts e in
        record {
          verdict = accepted_0 found.graph found.source_known found.target_known (hard_of found.graph.sized.ends found.graph.sized.counts.some_event latest.arcs);
          found =
              record {
                graph = found.graph;
                source_known = found.source_known;
                target_known = found.target_known;
                gaps = latest;
                within = settled.within;
                depth_of_source = found.depth_of_source;
                depth_of_target = found.depth_of_target;
              };
        }

-- ---- both ends

refused_nothing : (r : Refusal) → HardNothing (hard_numbers (Err r))
refused_nothing r = record { no_least = refl; no_most = refl; no_source_depth = refl; no_target_depth = refl }

answered_refused : {g : Graph} {s t : ℕ} {Short : Type 0} (r : Refusal) → HardVerdict g s t Short (number_of r) (place_of r) → HardAnswered g s t Short (hard_numbers (Err r))
answered_refused r v = record { verdict = v; found = λ e. absurd (some_number r e); nothing = λ _. refused_nothing r }

pub ends_refused : {g : Graph} {s t : ℕ} {xs : List ℤ} (r : Refusal) → GapsAnswered g s t xs (Err r) → EndsAnswered g s t xs (hard_numbers (Err r))
ends_refused r answered =
    record {
      answer = answered_refused r answered.verdict;
      gaps = λ e. absurd (some_number r e);
      within = λ e. absurd (some_number r e);
    }

module _ {g : Graph} {s t : ℕ} {xs : List ℤ} {d : Depths} (there : GapsFound g s t xs d) where
  hard : HardTimes g (λ v. at xs v -ℤ at xs 0)
  hard = hard_of there.graph.sized.ends there.graph.sized.counts.some_event there.gaps.arcs

  -- the gaps against t are there too, since there are hard times
  pub back_again : {ys : List ℤ} (r : Refusal) → GapsAnswered g t s ys (Err r) → ⊥
  back_again r refused = some_number r (hard_verdict_unique refused.verdict (accepted_0 there.graph there.target_known there.source_known hard)).0

  module _ {ys : List ℤ} {e : Depths} (again : GapsFound g t s ys e) where
    pub ends_found : (x y : ℤ) → x ≡ neg_ℤ (at ys s) → y ≡ at xs t →
        EndsAnswered g s t xs (hard_numbers (Ok (record { least = x; most = y; source_depth = d.source; target_depth = d.target })))
    ends_found x y low high =
        record {
          answer =
              record {
                verdict = accepted_0 there.graph there.source_known there.target_known hard;
                found = λ _.
                    record {
                      graph = there.graph;
                      source_known = there.source_known;
                      target_known = there.target_known;
                      lowest = subst (LeastHardSeparation g s t) (sym low) (least_hard_exchanged (gap_separation (sound_of there.graph) again.gaps s there.source_known));
                      greatest = subst (HardSeparation g s t) (sym high) (gap_separation (sound_of there.graph) there.gaps t there.target_known);
                      depth_of_source = there.depth_of_source;
                      depth_of_target = there.depth_of_target;
                    };
                nothing = λ n. absurd (n refl);
              };
          gaps = λ _. there.gaps;
          within = λ _. there.within;
        }

-- ---- lent lists

pub answered_alone : {g : Graph} {s t : ℕ} {Short : Type 0} {a : HardAnswer} → (Short → ⊥) → HardAnswered g s t ⊥ a → HardAnswered g s t Short a
answered_alone room x = record { verdict = hard_short (λ none. absurd none) room x.verdict; found = x.found; nothing = x.nothing }

module _ {g : Graph} {s t : ℕ} {Short : Type 0} where
  pub answered_counts : (r : Refusal) → FirstOf (count_checks 1024 4096 g) (number_of r) (place_of r) → HardAnswered g s t Short (hard_numbers (Err r))
  answered_counts r v = answered_refused r (counts_refused (some_number r) v)

  pub answered_short : CountsKept g → Short → HardAnswered g s t Short (hard_numbers (Err ShortList))
  answered_short counts short = answered_refused ShortList (short_given counts short)
