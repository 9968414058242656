-- Start intervals of their own change the start rules of templates with mark 1, and nothing else. Document 02, wish 1.
--     zero_instance          with all starts [0, 0] a template's rule at k is 01's
--     zero_unfolds           so the unfolding is the one of 01 alone
--     zero_delay_outside     and refusal 3 is given for the templates' own delays alone
--     instance_unread        a template's rule at k is the same for start lists that are alike where the mark is 1
--     unfolds_unread         so is the unfolding
--     verdict_unread         so are refusal and place: an entry for another mark is not checked
--     answered_unread, written_unread    so are the whole answer and the lent lists: it is not read
-- Assumes nothing.
use mathlib.Core.Path.{sym, subst₂, ◌∙◌}
use mathlib.Core.Logic.{inl, inr, ⊎_elim, ◌↔◌}
use mathlib.Core.List.{List}
use Prim.Native.Nat.{ℕ, ◌<◌}
use lib.IntN.{ℤ, pos}
use Rattle.integers.proofs.Integer.{linear, negation}
use Rattle.verdicts.specs.Verdict.{Accepted, Lowest}
use Rattle.verdicts.proofs.Verdicts.{Alike, more_alike, none_alike, then_alike}
use Rattle.graphs.specs.Graph.{Graph}
use Rattle.graphs.specs.Refusal.{OutsideDelays}
use Rattle.graphs.proofs.Refusals.{short_at}
use Rattle.refusals.proofs.Unique.{inside_not_outside}
use Rattle.processes.specs.declared.Unfolded.{Unfolded}
use Rattle.processes.specs.Process.{ProcessGraph, templates, target, occurrence, Node, root, at, Instance, together, onward, start}
use Rattle.processes.specs.Unfolding.{TemplatesOutside, many_templates, targets_differ, leasts_differ, mosts_differ, marks_differ, start_leasts_differ, start_mosts_differ, UnfoldingOutside, no_copies, many_occurrences, many_rules, UnknownTemplateEvent, TemplateDelayOutside, MarkOutside, process_checks, Unfolds, UnfoldingVerdict, UnfoldingAnswered, UnfoldingWritten}
use Rattle.processes.specs.Starts.{ZeroStarts, ZeroInstance, zero_together, zero_onward, zero_start, ZeroUnfolds, ZeroDelayOutside, restarted, StartsAlike}

-- ---- all starts [0, 0]

zero_inside : OutsideDelays (pos 0) (pos 0) → ⊥
zero_inside o =
    inside_not_outside
    {b = 1000000}
    (record {
      least_within = record { above = omega (linear, negation (pos 1000000)); below = omega linear };
      most_within = record { above = omega (linear, negation (pos 1000000)); below = omega linear };
      ordered = omega linear;
    })
    o

module _ {g : ProcessGraph} (zero : ZeroStarts g) where
  pub zero_instance : {k j : ℕ} {u v : Node} {d D : ℤ} → j < templates g → Instance g k j u v d D ↔ ZeroInstance g k j u v d D
  zero_instance {k} {j} {u} {v} {d} {D} l = (there, back)
    where
      there : {u v : Node} {d D : ℤ} → Instance g k j u v d D → ZeroInstance g k j u v d D
      there (together m) = zero_together m
      there (onward b m e) = zero_onward b m e
      there (start m e) =
          let (low, high) = zero j l m in
          subst₂ (ZeroInstance g k j root (at (occurrence g k (target g j)))) (sym low) (sym high) (zero_start m e)

      back : {u v : Node} {d D : ℤ} → ZeroInstance g k j u v d D → Instance g k j u v d D
      back (zero_together m) = together m
      back (zero_onward b m e) = onward b m e
      back (zero_start m e) =
          let (low, high) = zero j l m in
          subst₂ (Instance g k j root (at (occurrence g k (target g j)))) low high (start m e)

  pub zero_unfolds : {K : ℕ} {graph : Graph} → Unfolds g K graph ↔ ZeroUnfolds g K graph
  zero_unfolds {K} {graph} = (
    λ x.
        record {
          event_count = x.event_count;
          sources_count = x.sources_count;
          targets_count = x.targets_count;
          leasts_count = x.leasts_count;
          mosts_count = x.mosts_count;
          each =
              λ k j lk lj.
              let r = x.each k j lk lj in
              record { from = r.from; to = r.to; from_number = r.from_number; to_number = r.to_number; instance = (zero_instance lj).0 r.instance };
        },
    λ x.
        record {
          event_count = x.event_count;
          sources_count = x.sources_count;
          targets_count = x.targets_count;
          leasts_count = x.leasts_count;
          mosts_count = x.mosts_count;
          each =
              λ k j lk lj.
              let r = x.each k j lk lj in
              record { from = r.from; to = r.to; from_number = r.from_number; to_number = r.to_number; instance = (zero_instance lj).1 r.instance };
        },
  )

  pub zero_delay_outside : {j : ℕ} → TemplateDelayOutside g j ↔ ZeroDelayOutside g j
  zero_delay_outside {j} = (
    λ x.
        record {
          is_template = x.is_template;
          outside =
              ⊎_elim (λ o. o)
              (λ s.
              let (low, high) = zero j x.is_template s.0 in
              absurd (zero_inside (subst₂ OutsideDelays low high s.1)))
              x.outside;
        },
    λ x. record { is_template = x.is_template; outside = inl x.outside },
  )

-- ---- other entries for another mark

module _ {g : ProcessGraph} {es Es : List ℤ} (alike : StartsAlike g es Es) where
  pub instance_unread : {k j : ℕ} {u v : Node} {d D : ℤ} → Instance g k j u v d D → Instance (restarted g es Es) k j u v d D
  instance_unread (together m) = together m
  instance_unread (onward b m e) = onward b m e
  instance_unread {k} {j} (start m e) =
      subst₂ (Instance (restarted g es Es) k j root (at (occurrence g k (target g j)))) (sym (alike.least_alike j m)) (sym (alike.most_alike j m)) (start m e)

  pub unfolds_unread : {K : ℕ} {graph : Graph} → Unfolds g K graph → Unfolds (restarted g es Es) K graph
  unfolds_unread x =
      record {
        event_count = x.event_count;
        sources_count = x.sources_count;
        targets_count = x.targets_count;
        leasts_count = x.leasts_count;
        mosts_count = x.mosts_count;
        each =
            λ k j lk lj.
            let r = x.each k j lk lj in
            record { from = r.from; to = r.to; from_number = r.from_number; to_number = r.to_number; instance = instance_unread r.instance };
      }

  templates_unread : TemplatesOutside g → TemplatesOutside (restarted g es Es)
  templates_unread (many_templates l) = many_templates l
  templates_unread (targets_differ d) = targets_differ d
  templates_unread (leasts_differ d) = leasts_differ d
  templates_unread (mosts_differ d) = mosts_differ d
  templates_unread (marks_differ d) = marks_differ d
  templates_unread (start_leasts_differ d) = start_leasts_differ (λ e. d (alike.least_lengths ∙ e))
  templates_unread (start_mosts_differ d) = start_mosts_differ (λ e. d (alike.most_lengths ∙ e))

  unfolding_unread : {K : ℕ} → UnfoldingOutside g K → UnfoldingOutside (restarted g es Es) K
  unfolding_unread (no_copies e) = no_copies e
  unfolding_unread (many_occurrences l) = many_occurrences l
  unfolding_unread (many_rules l) = many_rules l

  event_unread : (j : ℕ) → UnknownTemplateEvent g j → UnknownTemplateEvent (restarted g es Es) j
  event_unread j x = record { is_template = x.is_template; unknown = x.unknown }

  delay_unread : (j : ℕ) → TemplateDelayOutside g j → TemplateDelayOutside (restarted g es Es) j
  delay_unread j x =
      record {
        is_template = x.is_template;
        outside = ⊎_elim inl (λ s. inr (s.0, subst₂ OutsideDelays (alike.least_alike j s.0) (alike.most_alike j s.0) s.1)) x.outside;
      }

  mark_unread : (j : ℕ) → MarkOutside g j → MarkOutside (restarted g es Es) j
  mark_unread j x = record { is_template = x.is_template; not_zero = x.not_zero; not_one = x.not_one }

-- read the other way
alike_back : {g : ProcessGraph} {es Es : List ℤ} → StartsAlike g es Es → StartsAlike (restarted g es Es) g.start_leasts g.start_mosts
alike_back a =
    record {
      least_lengths = sym a.least_lengths;
      most_lengths = sym a.most_lengths;
      least_alike = λ j m. sym (a.least_alike j m);
      most_alike = λ j m. sym (a.most_alike j m);
    }

-- what is lowest of one is so of the other
lowest_too : {A B : ℕ → Type 0} → ((j : ℕ) → A j → B j) → ((j : ℕ) → B j → A j) → (p : ℕ) → Lowest A p → Lowest B p
lowest_too f b p a = record { holds = f p a.holds; lowest = λ q l h. a.lowest q l (b q h) }

module _ {g : ProcessGraph} {es Es : List ℤ} (alike : StartsAlike g es Es) {K : ℕ} where
  checks_unread : {Short : Type 0} → Alike (process_checks g K Short) (process_checks (restarted g es Es) K Short)
  checks_unread =
      let back = alike_back alike in
      more_alike (λ q a. a) (λ q a. a)
      (more_alike (short_at (templates_unread alike)) (short_at (templates_unread back))
      (more_alike (short_at (unfolding_unread alike)) (short_at (unfolding_unread back))
      (more_alike (λ q a. a) (λ q a. a)
      (more_alike (lowest_too (event_unread alike) (event_unread back)) (lowest_too (event_unread back) (event_unread alike))
      (more_alike (lowest_too (delay_unread alike) (delay_unread back)) (lowest_too (delay_unread back) (delay_unread alike))
      (more_alike (lowest_too (mark_unread alike) (mark_unread back)) (lowest_too (mark_unread back) (mark_unread alike)) none_alike))))))

  pub verdict_unread : {Short : Type 0} {j q : ℕ} → UnfoldingVerdict g K Short j q → UnfoldingVerdict (restarted g es Es) K Short j q
  verdict_unread {j = j} {q} v = then_alike checks_unread Accepted j q v

  pub answered_unread : {Short : Type 0} {a : Unfolded} → UnfoldingAnswered g K Short a → UnfoldingAnswered (restarted g es Es) K Short a
  answered_unread x =
      record { verdict = verdict_unread x.verdict; event_count = x.event_count; rule_count = x.rule_count; no_events = x.no_events; no_rules = x.no_rules }

  pub written_unread : {a : Unfolded} {ss₀ ts₀ : List ℕ} {ds₀ Ds₀ : List ℤ} {ss ts : List ℕ} {ds Ds : List ℤ} →
      UnfoldingWritten g K a ss₀ ts₀ ds₀ Ds₀ ss ts ds Ds →
      UnfoldingWritten (restarted g es Es) K a ss₀ ts₀ ds₀ Ds₀ ss ts ds Ds
  written_unread w =
      record {
        unfolds = λ e. unfolds_unread alike (w.unfolds e);
        sources_beyond = w.sources_beyond;
        targets_beyond = w.targets_beyond;
        leasts_beyond = w.leasts_beyond;
        mosts_beyond = w.mosts_beyond;
        sources_kept = w.sources_kept;
        targets_kept = w.targets_kept;
        leasts_kept = w.leasts_kept;
        mosts_kept = w.mosts_kept;
        lengths_kept = w.lengths_kept;
      }
