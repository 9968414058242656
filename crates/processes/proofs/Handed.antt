-- A process graph that is not refused, and its unfolding as the analysis meets it: of the analysis's refusals only 5 and 6 are left. Which of the two, and
-- when, is in Cycles.antt.
--     kept_of             unfolding refuses nothing only where all is kept
--     kept_accepted       and where all is kept and the lists are long enough, it refuses nothing
--     instance_sized      the instance of a kept template at a k below K has known ends and delays inside
--     unfolded_sized      the unfolding passes the analysis's refusals 21, 22, 2 and 3
--     past_question       asked about two of its events, it passes refusal 4 too, and what comes after decides
--     only_paths_refused  so the analysis refuses it only with 5 or 6
--     handed              the lists that an accepted unfolding leaves are the unfolding of a process graph that is kept
--     handed_on           so the analysis refuses them only with 5 or 6
-- Assumes nothing.
use mathlib.Core.Path.{◌≡◌, sym, subst₂}
use mathlib.Core.List.{List, [], ◌∷◌}
use Prim.Native.Nat.{ℕ, ◌+◌, ◌*◌, ◌<◌}
use native.Mathlib.Omega.{arith}
use lib.IntN.{ℤ}
use lib.ListN.{take}
use Rattle.verdicts.specs.Verdict.{Accepted}
use Rattle.verdicts.proofs.Verdicts.{none_accepted, accepted_none, rest_of, OneOf, verdict_number}
use Rattle.graphs.specs.Graph.{Graph, graph_of, rules}
use Rattle.graphs.specs.Limits.{EndsKept, DelaysKept, Sized}
use Rattle.graphs.specs.Refusal.{question_checks, path_checks}
use Rattle.graphs.proofs.Refusals.{question_none}
use Rattle.refusals.specs.Faults.{InsideDelays}
use Rattle.separation.specs.Promise as analysis
use Rattle.processes.specs.declared.Unfolded.{Unfolded}
use Rattle.processes.specs.Process.{ProcessGraph, templates, source, target, Node, number, Instance, together, onward, start}
use Rattle.processes.specs.Unfolding.{process_checks, UnfoldingVerdict, Unfolds, UnfoldingAnswered, UnfoldingWritten}
use Rattle.processes.proofs.Exactly.{place_of, rule_at_place}
use Rattle.processes.proofs.Occurrences.{occurrence_below}
use Rattle.processes.proofs.Refusals.{TemplatesKept, Kept, process_none, process_kept}

-- ---- a process graph that is kept

-- "unfolding 1, 2, 3, 7", with "21, 22, 24, 23 where 1 stood": where the verdict is 0 none applies
pub kept_of : {g : ProcessGraph} {K : ℕ} {Short : Type 0} {j p : ℕ} → UnfoldingVerdict g K Short j p → j ≡ 0 → (Kept g K) × (Short → ⊥)
kept_of {g} {K} {Short} {j} {p} v e =
    process_kept (accepted_none (process_checks g K Short) Accepted (omega arith, (omega arith, (omega arith, (omega arith, (omega arith, (omega arith, (omega arith, tt))))))) j p e v).0

pub kept_accepted : {g : ProcessGraph} {K : ℕ} {Short : Type 0} → Kept g K → (Short → ⊥) → UnfoldingVerdict g K Short 0 0
kept_accepted {g} {K} {Short} kept room = none_accepted (process_checks g K Short) (process_none room kept)

-- ---- its unfolding

pub record InstanceSized (n : ℕ) (u v : Node) (d D : ℤ) : Type 0 where
  pub from_known : number u < n
  pub to_known : number v < n
  pub delays : InsideDelays d D

-- a start rule has the template's start interval and comes from the root; the others have the template's delay
pub instance_sized : {g : ProcessGraph} {K k j : ℕ} {u v : Node} {d D : ℤ} → TemplatesKept g → k < K → j < templates g → Instance g k j u v d D → InstanceSized (1 + g.events * K) u v d D
instance_sized {g} {K} {k} {j} kept below l (together m) =
    let e = kept.ends j l in
    let h = kept.delays j l in
    record {
      from_known = occurrence_below g K k (source g j) e.source_known below;
      to_known = occurrence_below g K k (target g j) e.target_known below;
      delays = record { least_within = h.least_within; most_within = h.most_within; ordered = h.ordered };
    }
instance_sized {g} {K} {k} {j} kept below l (onward b m is_next) =
    let e = kept.ends j l in
    let h = kept.delays j l in
    record {
      from_known = occurrence_below g K b (source g j) e.source_known (omega arith);
      to_known = occurrence_below g K k (target g j) e.target_known below;
      delays = record { least_within = h.least_within; most_within = h.most_within; ordered = h.ordered };
    }
instance_sized {g} {K} {k} {j} kept below l (start m first) =
    let e = kept.ends j l in
    let h = kept.starts j l m in
    record {
      from_known = omega arith;
      to_known = occurrence_below g K k (target g j) e.target_known below;
      delays = record { least_within = h.least_within; most_within = h.most_within; ordered = h.ordered };
    }

module _ {g : ProcessGraph} {K : ℕ} {graph : Graph} (kept : Kept g K) (unfolds : Unfolds g K graph) where
  rule_sized : (i : ℕ) → i < rules graph → (EndsKept graph i) × (DelaysKept 1000000 graph i)
  rule_sized i l =
      let p = place_of unfolds i l in
      let r = rule_at_place unfolds i p in
      let s = instance_sized kept.each p.row_below p.within_below r.instance in (
        record {
          source_known = omega (arith, r.from_number, s.from_known, unfolds.event_count);
          target_known = omega (arith, r.to_number, s.to_known, unfolds.event_count);
        },
        record { least_within = s.delays.least_within; most_within = s.delays.most_within; ordered = s.delays.ordered },
      )

  pub unfolded_sized : Sized 1000000 graph
  unfolded_sized =
      record {
        counts =
            record {
              some_event = omega (arith, unfolds.event_count);
              few_events = omega (arith, unfolds.event_count, kept.counts.few_occurrences);
              few_rules = omega (arith, unfolds.sources_count, kept.counts.few_rules);
              targets_match = omega (arith, unfolds.sources_count, unfolds.targets_count);
              leasts_match = omega (arith, unfolds.sources_count, unfolds.leasts_count);
              mosts_match = omega (arith, unfolds.sources_count, unfolds.mosts_count);
            };
        ends = λ i l. (rule_sized i l).0;
        delays = λ i l. (rule_sized i l).1;
      }

-- ---- what the analysis says of it

-- a graph that passes 21, 22, 2 and 3, asked about two of its events: what comes after 4 decides
pub past_question : {graph : Graph} {s t : ℕ} {Short : Type 0} {Rest : ℕ → ℕ → Type 0} {j p : ℕ}
    → Sized 1000000 graph → (Short → ⊥) → s < graph.events → t < graph.events → analysis.InputVerdict graph s t Short Rest j p → Rest j p
past_question {graph} {s} {t} {Short} {Rest} {j} {p} sized room hs ht v =
    rest_of (question_checks graph s t Short) Rest j p (question_none room sized hs ht) v

-- demand 2, of an accepted unfolding that is handed to the analysis
pub only_paths_refused : {g : ProcessGraph} {K : ℕ} {graph : Graph} → Kept g K → Unfolds g K graph → {s t : ℕ} {Short : Type 0} {j p : ℕ}
    → (Short → ⊥) → s < graph.events → t < graph.events → analysis.Verdict graph s t Short j p → OneOf j (5 ∷ 6 ∷ [])
only_paths_refused {graph = graph} kept unfolds {j = j} {p} room hs ht v =
    verdict_number (path_checks graph) j p (past_question (unfolded_sized kept unfolds) room hs ht v)

module _ {g : ProcessGraph} {K : ℕ} {Short : Type 0} {a : Unfolded} {ss₀ ts₀ : List ℕ} {ds₀ Ds₀ : List ℤ} {ss ts : List ℕ} {ds Ds : List ℤ}
    (answered : UnfoldingAnswered g K Short a) (not_refused : a.refusal ≡ 0) (written : UnfoldingWritten g K a ss₀ ts₀ ds₀ Ds₀ ss ts ds Ds) where
  pub handed : (Kept g K) × Unfolds g K (graph_of a.events (take a.rules ss) (take a.rules ts) (take a.rules ds) (take a.rules Ds))
  handed =
      let here : Unfolds g K (graph_of (1 + g.events * K) (take (templates g * K) ss) (take (templates g * K) ts) (take (templates g * K) ds) (take (templates g * K) Ds)) = written.unfolds not_refused in (
        (kept_of answered.verdict not_refused).0,
        subst₂ (λ (n r : ℕ). Unfolds g K (graph_of n (take r ss) (take r ts) (take r ds) (take r Ds))) (sym (answered.event_count not_refused)) (sym (answered.rule_count not_refused)) here,
      )

  pub handed_on : {s t : ℕ} {Short' : Type 0} {j p : ℕ} → (Short' → ⊥) → s < a.events → t < a.events
      → analysis.Verdict (graph_of a.events (take a.rules ss) (take a.rules ts) (take a.rules ds) (take a.rules Ds)) s t Short' j p
      → OneOf j (5 ∷ 6 ∷ [])
  handed_on room hs ht v =
      let (kept, unfolds) = handed in
      only_paths_refused kept unfolds room hs ht v
