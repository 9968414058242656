-- The table of all pairs, row by row.
--     copied_none, copied_more    a loop that copies one place of row s a turn
--     times_small                 the times of a latest schedule are small, so that their differences fit a word
--     row_refused, row_answered   what one row's function promises, from the promises of the analysis and of the copying
--     RowsDone                    the first k rows are filled, all other places are kept; the graph is accepted where a row is filled
--     rows_none, rows_more        a loop that fills one row a turn
--     TableSmall                  the graph is small, and the lent table long enough
--     table_counts, table_short   else the table is refused with 21, 22 or 23
--     table_alone                 where it is so the graph's verdict is the table's
--     table_refused, table_done   what the table's function promises then
-- A graph is refused at row 0 or never, since its verdict is one and the same for each row: so what is refused has left no row behind. Assumes nothing.
use Rattle.std.proofs.Common.{Result, Ok, Err, ap}
use mathlib.Core.Path.{◌≡◌, refl, sym, subst, subst₂, ◌∙◌}
use mathlib.Core.Logic.{inl, inr}
use mathlib.Core.List.{List, [], ◌∷◌, ◌++◌}
use Prim.Native.Nat.{ℕ, ◌+◌, ◌*◌, ◌<◌, ◌≤◌}
use native.Mathlib.Decide.{ℕ_discrete}
use native.Mathlib.Omega.{arith}
use lib.IntN.{ℤ, pos, ◌-ℤ◌}
use lib.ListN.{length, set, length-set}
use lib.Seq.{get_or-set_same, get_or-set_other}
use borrow.Author.Count.{below_none, below_more}
use Rattle.integers.specs.Within.{Within}
use Rattle.verdicts.specs.Verdict.{check, given, passed, FirstThen, FirstOf, AtZero}
use Rattle.verdicts.proofs.Verdicts.{Misses, NoneApplies, at_zero, misses_at_zero, holds_not, passed_all, rest_of}
use Rattle.graphs.specs.Graph.{Graph, rules}
use Rattle.graphs.specs.Limits.{EventGraph}
use Rattle.graphs.specs.Refusal.{EventsOutside, no_events, many_events, RulesOutside, many_rules, targets_differ, leasts_differ, mosts_differ, count_checks, rule_checks, path_checks, GraphVerdict}
use Rattle.graphs.proofs.Refusals.{graph_alone, graph_place, graph_verdict_unique}
use Rattle.refusals.proofs.Counts.{counts_given, counts_in}
use Rattle.executions.specs.Separation.{Separation}
use Rattle.executions.proofs.Sizes.{times_within}
use Rattle.refusals.specs.declared.Refusal.{Refusal}
use Rattle.refusals.specs.declared.Refusal.TheVariants.{ShortList}
use Rattle.refusals.specs.Numbers.{number_of, place_of, number_in, place_in}
use Rattle.refusals.proofs.Unique.{some_number}
use Rattle.separation.specs.declared.Separated.{Separated}
use Rattle.separation.specs.Numbers.{answer_numbers}
use Rattle.separation.specs.Promise.{at, Answered, Written, ShortLists}
use Rattle.table.specs.Table.{entry, RowFilled, RowsFilled, OthersKept, ShortTable, TableVerdict, TableAnswered}
use Rattle.table.specs.Parts.Rows.{RowKept, RowCopied, RowAnswered}

-- ---- one row copied

row_same : {n s : ℕ} {table : List ℤ} → RowKept n s table table
row_same = record { same_length = refl; other = λ i none. refl }

pub copied_none : {s : ℕ} {times table : List ℤ} → RowCopied 0 s times table table
copied_none {s} {times} {table} = record { kept = row_same; copied = below_none (λ t. entry table s t ≡ at times t -ℤ at times s) }

pub copied_more : {k s : ℕ} {times table₀ table : List ℤ} {x : ℤ} → s * 64 + k < length table₀ → RowCopied k s times table₀ table → x ≡ at times k -ℤ at times s → RowCopied (k + 1) s times table₀ (set table (s * 64 + k) x)
copied_more {k} {s} {times} {table₀} {table} {x} room c e =
    let long = c.kept.same_length in
    record {
      kept =
          record {
            same_length = length-set table (s * 64 + k) x ∙ long;
            other = λ i none.
                get_or-set_other table (s * 64 + k) i x (pos 0) (none k (omega arith)) ∙ c.kept.other i (λ t l. none t (omega arith));
          };
      copied =
          below_more
          (λ t. entry (set table (s * 64 + k) x) s t ≡ at times t -ℤ at times s)
          k
          (λ t l. get_or-set_other table (s * 64 + k) (s * 64 + t) x (pos 0) (λ h. let no : ⊥ = omega arith in no) ∙ c.copied t l)
          (get_or-set_same table (s * 64 + k) x (pos 0) (omega arith) ∙ e);
    }

-- ---- one row answered: the times of the latest schedule against s

module _ {g : Graph} {s : ℕ} (x : Result Separated Refusal) {times₀ delays₀ times delays : List ℤ} (known : s < g.events) (p : Answered g s s (ShortLists g times₀ delays₀) (answer_numbers x)) (w : Written g s (answer_numbers x) times₀ delays₀ times delays) where
  pub times_small : (answer_numbers x).refusal ≡ 0 → (v : ℕ) → v < g.events → Within 1023000000 (at times v)
  times_small e v l = times_within (p.found e).graph.sized (p.found e).graph.acyclic (w.schedule e).execution v l

  module _ (room : g.events ≤ length times₀) (room' : rules g ≤ length delays₀) where
    enough : ShortLists g times₀ delays₀ → ⊥
    enough (inl l) = omega arith
    enough (inr l) = omega arith

    verdict : GraphVerdict g (answer_numbers x).refusal (answer_numbers x).place
    verdict = graph_alone enough known known (answer_numbers x).refusal (answer_numbers x).place p.verdict

    pub row_refused : {r : Refusal} → x ≡ Err r → {table : List ℤ} → RowAnswered g s (Err r) table table
    row_refused {r} e =
        record {
          verdict = subst (λ (y : Result Separated Refusal). GraphVerdict g (answer_numbers y).refusal (answer_numbers y).place) e verdict;
          graph = λ z. absurd (some_number r z);
          filled = λ z. absurd (some_number r z);
          kept = row_same;
          untouched = λ _. refl;
        }

    pub row_answered : {f : Separated} → x ≡ Ok f → {table₀ table : List ℤ} → RowCopied g.events s times table₀ table → RowAnswered g s (Ok tt) table₀ table
    row_answered e {table = table} c =
        let zero : (answer_numbers x).refusal ≡ 0 = ap (λ (y : Result Separated Refusal). (answer_numbers y).refusal) e in
        record {
          verdict = subst (λ (y : Result Separated Refusal). GraphVerdict g (answer_numbers y).refusal (answer_numbers y).place) e verdict;
          graph = λ _. (p.found zero).graph;
          filled = λ _. record { each = λ t l. subst (Separation g s t) (sym (c.copied t l)) ((w.schedule zero).latest t l) };
          kept = c.kept;
          untouched = λ n. absurd (n refl);
        }

-- ---- all rows

pub record RowsDone (g : Graph) (k : ℕ) (table₀ table : List ℤ) : Type 0 where
  pub filled : RowsFilled g k table
  pub others : OthersKept g.events k table₀ table
  pub accepted : 0 < k → GraphVerdict g 0 0
  pub graph : 0 < k → EventGraph 1000000 g
  pub untouched : k ≡ 0 → table ≡ table₀

pub rows_none : {g : Graph} {table : List ℤ} → RowsDone g 0 table table
rows_none {g} {table} =
    record {
      filled = record { row = below_none (λ s. RowFilled g s table) };
      others = record { same_length = refl; other = λ i none. refl };
      accepted = λ l. absurd (let no : ⊥ = omega arith in no);
      graph = λ l. absurd (let no : ⊥ = omega arith in no);
      untouched = λ _. refl;
    }

-- a row of at most 64 events stands in its own 64 places
row_stays : {g : Graph} {s k : ℕ} {table₀ table : List ℤ} → g.events ≤ 64 → s < k → RowKept g.events k table₀ table → RowFilled g s table₀ → RowFilled g s table
row_stays {g} {s} {k} {table₀} {table} few l kept r =
    record { each = λ t h. subst (Separation g s t) (sym (kept.other (s * 64 + t) (λ u m e. let no : ⊥ = omega arith in no))) (r.each t h) }

module _ {g : Graph} {k : ℕ} (x : Result Unit Refusal) {table₀ table table' : List ℤ} (d : RowsDone g k table₀ table) (r : RowAnswered g k x table table') where
  pub rows_more : g.events ≤ 64 → number_in x ≡ 0 → RowsDone g (k + 1) table₀ table'
  rows_more few e =
      record {
        filled = record { row = below_more (λ s. RowFilled g s table') k (λ s l. row_stays few l r.kept (d.filled.row s l)) (r.filled e) };
        others =
            record {
              same_length = r.kept.same_length ∙ d.others.same_length;
              other = λ i none. r.kept.other i (λ t l. none k t (omega arith) l) ∙ d.others.other i (λ s t l. none s t (omega arith));
            };
        accepted = λ _. subst₂ (GraphVerdict g) e (graph_place g (number_in x) (place_in x) e r.verdict) r.verdict;
        graph = λ _. r.graph e;
        untouched = λ h. absurd (let no : ⊥ = omega arith in no);
      }

  -- a graph that is refused was refused at once
  first_row : (number_in x ≡ 0 → ⊥) → k ≡ 0
  first_row n = go (ℕ_discrete k 0)
    where
      go : Dec (k ≡ 0) → k ≡ 0
      go (yes e) = e
      go (no some) = absurd (n (sym (graph_verdict_unique g 0 0 (number_in x) (place_in x) (d.accepted (omega arith)) r.verdict).0))

-- ---- the table

pub record TableSmall (g : Graph) (table₀ : List ℤ) : Type 0 where
  pub none : NoneApplies (count_checks 64 1024 g)
  pub room : g.events * 64 ≤ length table₀

module _ {g : Graph} {table₀ : List ℤ} where
  front_refused : (r : Refusal) → TableVerdict g table₀ (number_of r) (place_of r) → TableAnswered g table₀ (Err r) table₀
  front_refused r v = record { verdict = v; graph = λ e. absurd (some_number r e); filled = λ e. absurd (some_number r e); others = λ e. absurd (some_number r e); kept = λ _. refl }

  pub table_counts : (r : Refusal) → FirstOf (count_checks 64 1024 g) (number_of r) (place_of r) → TableAnswered g table₀ (Err r) table₀
  table_counts r v = front_refused r (counts_given _ (some_number r) v)

  pub table_short : NoneApplies (count_checks 64 1024 g) → length table₀ < g.events * 64 → TableAnswered g table₀ (Err ShortList) table₀
  table_short none l = front_refused ShortList (passed none.0 (passed none.1.0 (given (at_zero l))))

  module _ (small : TableSmall g table₀) where
    -- the table's limits are less than the graph's
    graph_counts : NoneApplies (count_checks 1024 4096 g)
    graph_counts = (misses_at_zero no_21, (misses_at_zero no_22, tt))
      where
        no_21 : EventsOutside 1024 g.events → ⊥
        no_21 (no_events e) = holds_not small.none.0 (no_events e)
        no_21 (many_events l) = holds_not small.none.0 (many_events (omega arith))

        no_22 : RulesOutside 4096 g → ⊥
        no_22 (many_rules l) = holds_not small.none.1.0 (many_rules (omega arith))
        no_22 (targets_differ d) = holds_not small.none.1.0 (targets_differ d)
        no_22 (leasts_differ d) = holds_not small.none.1.0 (leasts_differ d)
        no_22 (mosts_differ d) = holds_not small.none.1.0 (mosts_differ d)

    long : Misses (AtZero (ShortTable g table₀))
    long = misses_at_zero (λ l. omega (arith, small.room))

    -- then the refusals of a table are those of the graph alone
    table_verdict : (j p : ℕ) → GraphVerdict g j p → TableVerdict g table₀ j p
    table_verdict j p v =
        passed small.none.0
        (passed small.none.1.0 (passed long (rest_of (count_checks 1024 4096 g) (FirstThen (rule_checks 1000000 g) (FirstOf (path_checks g))) j p graph_counts v)))

    pub table_alone : (j p : ℕ) → TableVerdict g table₀ j p → GraphVerdict g j p
    table_alone j p v =
        passed_all (count_checks 1024 4096 g) (FirstThen (rule_checks 1000000 g) (FirstOf (path_checks g))) j p graph_counts
        (rest_of (count_checks 64 1024 g ++ (check 23 (AtZero (ShortTable g table₀)) ∷ [])) (FirstThen (rule_checks 1000000 g) (FirstOf (path_checks g))) j p (small.none.0, (small.none.1.0, (long, tt))) v)

    pub table_refused : {k : ℕ} (r : Refusal) {table table' : List ℤ} → RowsDone g k table₀ table → RowAnswered g k (Err r) table table' → TableAnswered g table₀ (Err r) table'
    table_refused r d a =
        record {
          verdict = table_verdict (number_of r) (place_of r) a.verdict;
          graph = λ e. absurd (some_number r e);
          filled = λ e. absurd (some_number r e);
          others = λ e. absurd (some_number r e);
          kept = λ n. a.untouched n ∙ d.untouched (first_row (Err r) d a n);
        }

    pub table_done : {k : ℕ} {table : List ℤ} → k ≡ g.events → RowsDone g k table₀ table → TableAnswered g table₀ (Ok tt) table
    table_done {k} {table} e d =
        let all : RowsDone g g.events table₀ table = subst (λ (m : ℕ). RowsDone g m table₀ table) e d in
        record {
          verdict = table_verdict 0 0 (all.accepted (counts_in small.none).0);
          graph = λ _. all.graph (counts_in small.none).0;
          filled = λ _. all.filled;
          others = λ _. all.others;
          kept = λ n. absurd (n refl);
        }
