-- The answer to an unfolding, put together from the checks.
--     known_kept, inside_kept, start_kept              what a search calls good is kept
--     kept_not_broken                                  a template's intervals are kept, or one is not, never both
--     lesser_search, lesser_found                      the lesser of what the searches of the delays and of the start intervals find, for both at once
--     lowest_unknown, lowest_outside, lowest_broken    a search that stopped has found the lowest template that breaks the rule
--     process_23 … process_7, process_0                the refusals, each from the facts that shut out the earlier ones, and that none applies
--     refusal_checked, counts_checked, kept_checked    what check_process answers
--     some_short, shortest                             one of four lists is too short exactly where the shortest is
--     answered_lists                                   the answer for the four lists, from that for the shortest
-- Assumes nothing.
use Rattle.std.proofs.Common.{Ok, Err}
use mathlib.Core.Path.{◌≡◌, refl, sym, subst, ◌∙◌}
use mathlib.Core.Logic.{◌⊎◌, inl, inr, ⊎_elim}
use Prim.Native.Nat.{ℕ, ◌+◌, ◌*◌, ◌<◌, ◌≤◌, min}
use native.Mathlib.Decide.{dec_lt, dec_le}
use native.Mathlib.Omega.{arith}
use mathlib.Core.List.{List}
use lib.IntN.{ℤ}
use lib.ListN.{length}
use Rattle.verdicts.specs.Verdict.{given, passed, Accepted, FirstOf, Lowest, LowestOr, FoundAt}
use Rattle.verdicts.proofs.Verdicts.{misses_at_zero, none_accepted, front_given, then_alike}
use Rattle.verdicts.proofs.Searches.{found_or, found_lowest, found_as_long, as_long}
use Rattle.graphs.specs.Limits.{EndsKept, DelaysKept}
use Rattle.refusals.specs.Faults.{EndsKnown, EndUnknown, DelaysInside, DelaysOutside}
use Rattle.refusals.specs.Numbers.{number_of, place_of}
use Rattle.refusals.specs.declared.Refusal.{Refusal}
use Rattle.refusals.proofs.Unique.{known_not_unknown, inside_not_outside, some_number}
use Rattle.processes.specs.declared.Unfolded.{Unfolded}
use Rattle.processes.specs.Numbers.{unfolded_numbers}
use Rattle.processes.specs.Process.{ProcessGraph, templates, mark}
use Rattle.processes.specs.Unfolding.{ShortRuleLists, short_sources, short_targets, short_leasts, short_mosts, UnknownTemplateEvent, TemplateDelayOutside, MarkOutside, process_checks, UnfoldingVerdict, UnfoldingAnswered}
use Rattle.processes.specs.Parts.Checks.{ProcessCountsKept, ListsKept, process_count_checks, MarkKept, MarkBroken, StartKept, StartBroken, IntervalsKept, IntervalsBroken, TemplateKept, TemplateBroken, ProcessKept, ProcessChecked}
use Rattle.processes.proofs.Refusals.{plain, started, after_counts, short_first, ends_miss, delays_miss, process_none, short_alike, delays_first}

module _ (g : ProcessGraph) where
  known_kept : ((j : ℕ) → j < templates g → EndsKnown g.events g.sources g.targets j) → (j : ℕ) → j < templates g → EndsKept (plain g) j
  known_kept known j l = let h = known j l in record { source_known = h.source_known; target_known = h.target_known }

  module _ (kept : (j : ℕ) → j < templates g → TemplateKept g j) where
    inside_kept : (j : ℕ) → j < templates g → DelaysKept 1000000 (plain g) j
    inside_kept j l = let h = (kept j l).delays in record { least_within = h.least_within; most_within = h.most_within; ordered = h.ordered }

    start_kept : (j : ℕ) → j < templates g → mark g j ≡ 1 → DelaysKept 1000000 (started g) j
    start_kept j l m = let h = (kept j l).start m in record { least_within = h.least_within; most_within = h.most_within; ordered = h.ordered }

-- ---- the searches

module _ {ds Ds : List ℤ} {ms : List ℕ} {es Es : List ℤ} where
  pub kept_not_broken : {j : ℕ} → IntervalsKept ds Ds ms es Es j → IntervalsBroken ds Ds ms es Es j → ⊥
  kept_not_broken k (inl o) = inside_not_outside k.delays o
  kept_not_broken k (inr b) = inside_not_outside (k.start b.marked) b.outside

  -- before the lesser of the two both kinds are kept; at it one is not, where it is before the end
  pub lesser_search : {n m a b r : ℕ} → m ≡ n → r ≤ a → r ≤ b → (r ≡ a) ⊎ (r ≡ b) →
      LowestOr n (DelaysInside ds Ds) (DelaysOutside ds Ds) a →
      LowestOr m (StartKept ms es Es) (StartBroken ms es Es) b →
      LowestOr n (IntervalsKept ds Ds ms es Es) (IntervalsBroken ds Ds ms es Es) r
  lesser_search {n} {m} {a} {b} {r} same la lb one x y =
      record {
        within = omega (arith, x.within);
        before = λ j l. record { delays = x.before j (omega arith); start = y.before j (omega arith) };
        bad = λ l. broken l one;
      }
    where
      broken : r < n → (r ≡ a) ⊎ (r ≡ b) → IntervalsBroken ds Ds ms es Es r
      broken l (inl e) = inl (subst (DelaysOutside ds Ds) (sym e) (x.bad (omega arith)))
      broken l (inr e) = inr (subst (StartBroken ms es Es) (sym e) (y.bad (omega arith)))

min_is_one : (a b : ℕ) → (min a b ≡ a) ⊎ (min a b ≡ b)
min_is_one a b = go (dec_le a b)
  where
    go : Dec (a ≤ b) → (min a b ≡ a) ⊎ (min a b ≡ b)
    go (yes l) = inl (omega arith)
    go (no n) = inr (omega arith)

module _ {g : ProcessGraph} where
  -- the same of what the two searches find
  pub lesser_found : {d e : ℕ} → ListsKept g →
      FoundAt (min (length g.leasts) (length g.mosts)) (DelaysInside g.leasts g.mosts) (DelaysOutside g.leasts g.mosts) d →
      FoundAt (length g.marks) (StartKept g.marks g.start_leasts g.start_mosts) (StartBroken g.marks g.start_leasts g.start_mosts) e →
      FoundAt (templates g) (TemplateKept g) (TemplateBroken g) (min d e)
  lesser_found {d} {e} lists x y =
      let below : min d e < length g.leasts = omega (arith, x.below) in
      let both =
      lesser_search (lists.marks_match ∙ sym lists.leasts_match) (omega arith) (omega arith) (min_is_one d e)
      (as_long (lists.mosts_match ∙ sym lists.leasts_match) (found_or x)) (found_or y) in
      record { below = omega (arith, lists.leasts_match); before = both.before; bad = both.bad below }

  module _ {r : ℕ} where
    pub lowest_unknown : length g.targets ≡ templates g →
        FoundAt (min (length g.sources) (length g.targets)) (EndsKnown g.events g.sources g.targets) (EndUnknown g.events g.sources g.targets) r →
        Lowest (UnknownTemplateEvent g) r
    lowest_unknown e h =
        found_lowest (UnknownTemplateEvent g) (λ j _ known u. known_not_unknown known u.unknown) (λ j l unknown. record { is_template = l; unknown = unknown })
        (found_as_long _ _ e h)

    pub lowest_outside : FoundAt (templates g) (TemplateKept g) (TemplateBroken g) r → Lowest (TemplateDelayOutside g) r
    lowest_outside =
        found_lowest
        (TemplateDelayOutside g)
        (λ j _ kept o. kept_not_broken kept (⊎_elim inl (λ b. inr (record { marked = b.0; outside = b.1 })) o.outside))
        (λ j l broken. record { is_template = l; outside = ⊎_elim inl (λ b. inr (b.marked, b.outside)) broken })

    pub lowest_broken : length g.marks ≡ templates g → FoundAt (length g.marks) (MarkKept g.marks) (MarkBroken g.marks) r → Lowest (MarkOutside g) r
    lowest_broken e =
        found_lowest
        (MarkOutside g)
        (λ j _ kept o. ⊎_elim o.not_zero o.not_one kept)
        (λ j l broken. record { is_template = omega arith; not_zero = broken.not_zero; not_one = broken.not_one })

-- ---- the verdict

module _ {g : ProcessGraph} {K n : ℕ} where
  pub process_23 : ProcessCountsKept g K → n < templates g * K → UnfoldingVerdict g K (n < templates g * K) 23 0
  process_23 counts l = short_first counts l

  module _ (counts : ProcessCountsKept g K) (room : templates g * K ≤ n) where
    pub process_2 : {p : ℕ} → Lowest (UnknownTemplateEvent g) p → UnfoldingVerdict g K (n < templates g * K) 2 p
    process_2 {p} h = after_counts counts _ 2 p (passed (misses_at_zero (λ l. omega arith)) (given h))

    module _ (known : (j : ℕ) → j < templates g → EndsKnown g.events g.sources g.targets j) where
      pub process_3 : {p : ℕ} → Lowest (TemplateDelayOutside g) p → UnfoldingVerdict g K (n < templates g * K) 3 p
      process_3 h = delays_first (λ l. omega arith) counts (known_kept g known) h

      module _ (inside : (j : ℕ) → j < templates g → TemplateKept g j) where
        pub process_7 : {p : ℕ} → Lowest (MarkOutside g) p → UnfoldingVerdict g K (n < templates g * K) 7 p
        process_7 {p} h =
            after_counts counts _ 7 p
            (passed (misses_at_zero (λ l. omega arith)) (passed (ends_miss (known_kept g known)) (passed (delays_miss (inside_kept g inside) (start_kept g inside)) (given h))))

        pub process_0 : ((j : ℕ) → j < templates g → MarkKept g.marks j) → UnfoldingVerdict g K (n < templates g * K) 0 0
        process_0 marked =
            none_accepted (process_checks g K (n < templates g * K))
            (process_none (λ l. omega arith)
            (record { counts = counts; each = record { ends = known_kept g known; delays = inside_kept g inside; starts = start_kept g inside; marks = marked } }))

  -- ---- what check_process answers

  pub refusal_checked : (r : Refusal) → UnfoldingVerdict g K (n < templates g * K) (number_of r) (place_of r) → ProcessChecked g K n (unfolded_numbers (Err r))
  refusal_checked r v =
      record {
        answered =
            record {
              verdict = v;
              event_count = λ e. absurd (some_number r e);
              rule_count = λ e. absurd (some_number r e);
              no_events = λ _. refl;
              no_rules = λ _. refl;
            };
        kept = λ e. absurd (some_number r e);
      }

  pub counts_checked : (r : Refusal) → FirstOf (process_count_checks g K) (number_of r) (place_of r) → ProcessChecked g K n (unfolded_numbers (Err r))
  counts_checked r v = refusal_checked r (front_given (process_count_checks g K) _ _ _ (some_number r) v)

  pub kept_checked : ((j : ℕ) → j < templates g → TemplateKept g j) → ProcessKept g K n → ProcessChecked g K n (unfolded_numbers (Ok (record { events = 1 + g.events * K; rules = templates g * K })))
  kept_checked inside k =
      record {
        answered =
            record {
              verdict = process_0 k.counts k.room k.known inside k.marked;
              event_count = λ _. refl;
              rule_count = λ _. refl;
              no_events = λ not. absurd (not refl);
              no_rules = λ not. absurd (not refl);
            };
        kept = λ _. k;
      }

-- ---- the four lists for the shortest

module _ {g : ProcessGraph} {K n : ℕ} {ss ts : List ℕ} {ds Ds : List ℤ} (least : n ≡ min (min (min (length ss) (length ts)) (length ds)) (length Ds)) where
  some_short : n < templates g * K → ShortRuleLists g K ss ts ds Ds
  some_short l = go (dec_lt (length ss) (templates g * K)) (dec_lt (length ts) (templates g * K)) (dec_lt (length ds) (templates g * K))
    where
      go : Dec (length ss < templates g * K) → Dec (length ts < templates g * K) → Dec (length ds < templates g * K) → ShortRuleLists g K ss ts ds Ds
      go (yes s) _ _ = short_sources s
      go (no s) (yes t) _ = short_targets t
      go (no s) (no t) (yes d) = short_leasts d
      go (no s) (no t) (no d) = short_mosts (omega arith)

  shortest : ShortRuleLists g K ss ts ds Ds → n < templates g * K
  shortest (short_sources l) = omega arith
  shortest (short_targets l) = omega arith
  shortest (short_leasts l) = omega arith
  shortest (short_mosts l) = omega arith

  pub answered_lists : {a : Unfolded} → UnfoldingAnswered g K (n < templates g * K) a → UnfoldingAnswered g K (ShortRuleLists g K ss ts ds Ds) a
  answered_lists h =
      record {
        verdict = then_alike (short_alike some_short shortest) Accepted _ _ h.verdict;
        event_count = h.event_count;
        rule_count = h.rule_count;
        no_events = h.no_events;
        no_rules = h.no_rules;
      }
