-- What the pair program writes, put together from what its parts promise.
--     list_refused      into a list that is too short nothing is written
--     output_written    an output put into a list that is long enough
--     OutputPut         an output written from place 0 on
--     refusal_put       the line of a refusal
--     table_verdict     the pair program refuses a text as its table is refused
--     tabled            what is known of a table that is not
--     table_put         and its lines
--     text_counts       a text that is not refused has a graph as small as a table's
-- Assumes nothing.
use Rattle.std.proofs.Common.{Result, Ok, Err}
use mathlib.Core.Path.{◌≡◌, refl, ap, sym, subst, ◌∙◌}
use mathlib.Core.List.{List, [], ◌∷◌, ◌++◌}
use Prim.Native.Nat.{ℕ, ◌+◌, ◌≤◌}
use native.Mathlib.Omega.{arith}
use lib.IntN.{ℤ}
use lib.ListN.{length, take, drop, length-map}
use Rattle.graphs.specs.Graph.{Graph, graph_of}
use Rattle.graphs.specs.Limits.{EventGraph}
use Rattle.graphs.specs.Refusal.{EventsOutside, no_events, many_events, RulesOutside, many_rules, targets_differ, leasts_differ, mosts_differ, count_checks, GraphVerdict}
use Rattle.verdicts.specs.Verdict.{given, check, AtZero}
use Rattle.verdicts.proofs.Verdicts.{NoneApplies, misses_at_zero, none_accepted}
use Rattle.refusals.specs.declared.Refusal.{Refusal}
use Rattle.refusals.specs.declared.Refusal.TheVariants.{ShortList}
use Rattle.refusals.specs.Numbers.{number_of, place_of, number_in, place_in}
use Rattle.refusals.proofs.Unique.{some_number}
use Rattle.text.specs.declared.Reading.{Reading}
use Rattle.text.specs.Parts.Tabling.{Tabled}
use Rattle.text.specs.Grammar.{Rule}
use Rattle.text.specs.Reading.{events, graph_of_rules, ShortForRules, reading_numbers, ReadOff, RulesWritten}
use Rattle.text.specs.Output.{pairs, ending, Lines, pair_header, RefusedLine, PairsVerdict, Output, table, refused, output_places, ShortOutput, output_numbers, PairsWritten}
use Rattle.numerals.specs.Appending.{Appended}
use Rattle.table.specs.Table.{RowsFilled, TableAnswered}
use Rattle.table.proofs.Rows.{table_alone}
use Rattle.text.proofs.Handed.{handed, accepted_on}

-- ---- the lent list

abbrev pub OutputPut : List ℕ → List ℕ → List ℕ → ℕ → Type 0
OutputPut bs out₀ out k = (bytes : List ℕ) × Output bs bytes × Appended out₀ 0 bytes out k

pub list_refused : {bs out : List ℕ} → ShortOutput out → PairsWritten bs out (output_numbers (Err ShortList)) out
list_refused short =
    record {
      verdict = given (record { zero_place = refl; holds = short });
      written = λ e. absurd (let no : ⊥ = omega arith in no);
      no_bytes = λ n. refl;
      kept = λ n. refl;
    }

pub output_written : {bs out₀ out : List ℕ} {k : ℕ} → output_places ≤ length out₀ → OutputPut bs out₀ out k → PairsWritten bs out₀ (output_numbers (Ok k)) out
output_written {out₀ = out₀} {out} room (bytes, o, a) =
    let count : length bytes ≡ 0 + length bytes = omega arith in
    record {
      verdict = none_accepted (check 23 (AtZero (ShortOutput out₀)) ∷ []) (λ p short. let no : ⊥ = omega (arith, short.holds) in no, tt);
      written = λ e. (bytes, o, a.after ∙ sym count, a.bytes ∙ ap (λ (m : ℕ). bytes ++ drop m out₀) (a.after ∙ sym count));
      no_bytes = λ n. absurd (n refl);
      kept = λ n. absurd (n refl);
    }

some_event : (rs : List Rule) → 1 ≤ events rs
some_event [] = omega arith
some_event (r ∷ rs) = omega (arith, some_event rs)

-- ---- one list of bytes

not_zero : {k : ℕ} → (k ≡ 0 → ⊥) → 1 ≤ k
not_zero n = omega arith

-- what the writers promise of a refusal line, and of the table of n events
abbrev pub LineWritten : ℕ → ℕ → List ℕ → List ℕ → ℕ → Type 0
LineWritten j p out₀ out k = (line : List ℕ) × RefusedLine j p line × Appended out₀ 0 line out k

abbrev pub TableWritten : Graph → ℕ → List ℕ → List ℕ → ℕ → Type 0
TableWritten g n out₀ out k = (lines : List ℕ) × Lines g (pairs n) lines × Appended out₀ 0 (pair_header ++ (ending ++ lines)) out k

pub refusal_put : {bs out₀ out : List ℕ} {k : ℕ} (r : Refusal) → PairsVerdict bs (number_of r) (place_of r) → LineWritten (number_of r) (place_of r) out₀ out k → OutputPut bs out₀ out k
refusal_put r v (line, is-line, a) = (line, refused (number_of r) (place_of r) (not_zero (some_number r)) v is-line, a)

-- ---- after a reading

-- a text's graph has an event at least, and lists of one length
text_counts : (rs : List Rule) → events rs ≤ 64 → length rs ≤ 1024 → NoneApplies (count_checks 64 1024 (graph_of_rules rs))
text_counts rs few few_rows = (misses_at_zero no_21, (misses_at_zero no_22, tt))
  where
    no_21 : EventsOutside 64 (events rs) → ⊥
    no_21 (no_events e) = omega (arith, some_event rs)
    no_21 (many_events l) = omega arith

    no_22 : RulesOutside 1024 (graph_of_rules rs) → ⊥
    no_22 (many_rules l) = omega (arith, length-map rs (λ (r : Rule). r.source))
    no_22 (targets_differ d) = d (length-map rs (λ (r : Rule). r.target) ∙ sym (length-map rs (λ (r : Rule). r.source)))
    no_22 (leasts_differ d) = d (length-map rs (λ (r : Rule). r.least) ∙ sym (length-map rs (λ (r : Rule). r.source)))
    no_22 (mosts_differ d) = d (length-map rs (λ (r : Rule). r.most) ∙ sym (length-map rs (λ (r : Rule). r.source)))

module _ {bs : List ℕ} {a : Reading} {ss₀ ts₀ : List ℕ} {ds₀ Ds₀ : List ℤ} {ss ts : List ℕ} {ds Ds : List ℤ} (w : RulesWritten bs (reading_numbers (Ok a)) ss₀ ts₀ ds₀ Ds₀ ss ts ds Ds) (r : ReadOff bs (ShortForRules ss₀ ts₀ ds₀ Ds₀) (reading_numbers (Ok a))) where
  module _ (x : Result Unit Refusal) {entries₀ entries : List ℤ} (long : length entries₀ ≡ 4096) (t : TableAnswered (graph_of a.events (take a.rules ss) (take a.rules ts) (take a.rules ds) (take a.rules Ds)) entries₀ x entries) where
    -- the table is refused as the graph is alone
    read_alone : GraphVerdict (graph_of a.events (take a.rules ss) (take a.rules ts) (take a.rules ds) (take a.rules Ds)) (number_in x) (place_in x)
    read_alone =
        let h = handed w r refl in
        let none = subst (λ (g : Graph). NoneApplies (count_checks 64 1024 g)) (sym h.graph) (text_counts h.rs (omega (arith, h.few, h.event_count)) h.few_rules) in
        table_alone {table₀ = entries₀} (record { none = none; room = omega (arith, h.few) }) (number_in x) (place_in x) t.verdict

    pub table_verdict : PairsVerdict bs (number_in x) (place_in x)
    table_verdict =
        let h = handed w r refl in
        accepted_on r.verdict refl (h.rs, h.text, subst (λ (g : Graph). GraphVerdict g (number_in x) (place_in x)) h.graph read_alone)

  pub tabled : {entries₀ entries : List ℤ} → length entries₀ ≡ 4096 → TableAnswered (graph_of a.events (take a.rules ss) (take a.rules ts) (take a.rules ds) (take a.rules Ds)) entries₀ (Ok tt) entries → Tabled bs entries a.events
  tabled {entries₀} {entries} long t =
      let h = handed w r refl in
      let answered : TableAnswered (graph_of_rules h.rs) entries₀ (Ok tt) entries = subst (λ (g : Graph). TableAnswered g entries₀ (Ok tt) entries) h.graph t in
      record {
        rs = h.rs;
        text = h.text;
        event_count = h.event_count;
        few = h.few;
        long = (answered.others refl).same_length ∙ long;
        graph = answered.graph refl;
        filled = subst (λ (n : ℕ). RowsFilled (graph_of_rules h.rs) n entries) (sym h.event_count) (answered.filled refl);
        verdict = table_verdict (Ok tt) long t;
      }

pub table_put : {bs out₀ out : List ℕ} {entries : List ℤ} {n k : ℕ} →
    Tabled bs entries n →
    ((g : Graph) → g.events ≡ n → EventGraph 1000000 g → RowsFilled g n entries → TableWritten g n out₀ out k) →
    OutputPut bs out₀ out k
table_put t writes =
    let (lines, are-lines, written) = writes (graph_of_rules t.rs) (sym t.event_count) t.graph t.filled in
    let lines_of : Lines (graph_of_rules t.rs) (pairs (events t.rs)) lines = subst (λ (m : ℕ). Lines (graph_of_rules t.rs) (pairs m) lines) t.event_count are-lines in
    (pair_header ++ (ending ++ lines), table t.rs lines t.verdict t.text lines_of refl, written)
