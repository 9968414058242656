-- The numbers of a refusal line are small: two digits for the number, five for the place.
--     ended_bytes      each row that is ended takes two bytes at least
--     Small j p        number j and place p are small
--     text_small       so are those of a text's refusals, where what follows the counts has small ones
--     read_small       so are those of the reader's refusals
--     graph_small      and those of a graph with few events and rules
--     pairs_small      and those of the pair program's
-- Assumes nothing.
use mathlib.Core.Path.{◌≡◌, refl}
use mathlib.Core.List.{List, ◌∷◌, ◌++◌}
use Prim.Native.Nat.{ℕ, ◌+◌, ◌*◌, ◌<◌, ◌≤◌}
use native.Mathlib.Omega.{arith}
use lib.ListN.{length, length-append, length-map}
use Rattle.graphs.specs.Graph.{Graph, rules}
use Rattle.verdicts.specs.Verdict.{Accepted, accepted, AtZero, Lowest}
use Rattle.verdicts.proofs.Verdicts.{Misses, NoneApplies, holds_not, none_lowest, PlacesAfter, then_place_after}
use Rattle.graphs.specs.Refusal.{UnknownEvent, graph_checks, path_checks, GraphVerdict}
use Rattle.graphs.specs.Path.{OnCycle}
use Rattle.graphs.proofs.Cycle.{on_cycle_known}
use Rattle.graphs.proofs.Unique.{known_ends}
use Rattle.text.specs.Grammar.{Rule, Text, Ended, start, ended, Broken}
use Rattle.text.specs.Reading.{events, graph_of_rules, text_checks, TextVerdict}
use Rattle.text.specs.Answers.{NoLists}
use Rattle.text.specs.Output.{PairsVerdict}

pub ended_bytes : {bs : List ℕ} {k : ℕ} {rest : List ℕ} → Ended bs k rest → 2 * k + length rest ≤ length bs
ended_bytes start = omega arith
ended_bytes (ended {k = k} {after = after} line rest before e right) =
    let cut : length after ≡ length line + length (13 ∷ (10 ∷ rest)) = rw e (length-append line (13 ∷ (10 ∷ rest))) in
    omega (arith, ended_bytes before)

pub record Small (j p : ℕ) : Type 0 where
  pub number : j < 100
  pub place : p < 100000

at_zero_small : {A : Type 0} (k p : ℕ) → k < 100 → AtZero A p → Small k p
at_zero_small k p l a = record { number = l; place = omega (arith, a.zero_place) }

broken_place : {bs : List ℕ} {k : ℕ} → Broken bs k → k ≤ 1 + length bs
broken_place b = omega (arith, ended_bytes b.rows_before)

pub text_small : {bs : List ℕ} {Short : List Rule → Type 0} {Rest : ℕ → ℕ → Type 0} → (NoneApplies (text_checks bs Short) → (j p : ℕ) → Rest j p → Small j p) → {j p : ℕ} → TextVerdict bs Short Rest j p → Small j p
text_small {bs} {Short} {Rest} rest {j} {p} v = then_place_after Small (text_checks bs Short) Rest j p each (λ none r. rest none j p r) v
  where
    broken_small : Misses (AtZero (32768 < length bs)) → (q : ℕ) → Broken bs q → Small 8 q
    broken_small bytes q b =
        let few : 32768 < length bs → ⊥ = λ l. bytes 0 (record { zero_place = refl; holds = l }) in
        record { number = omega arith; place = omega (arith, broken_place b) }

    each : PlacesAfter Small (text_checks bs Short)
    each = (
      λ q a. at_zero_small 1 q (omega arith) a,
      λ bytes. (
        broken_small bytes,
        λ rows. (
          λ q a. at_zero_small 21 q (omega arith) a,
          λ few. (λ q a. at_zero_small 22 q (omega arith) a, λ few_rows. (λ q a. at_zero_small 23 q (omega arith) a, λ lists. tt)),
        ),
      ),
    )

accepted_small : {j p : ℕ} → Accepted j p → Small j p
accepted_small accepted = record { number = omega arith; place = omega arith }

pub read_small : {bs : List ℕ} {Short : List Rule → Type 0} {j p : ℕ} → TextVerdict bs Short Accepted j p → Small j p
read_small = text_small (λ none j p. accepted_small)

pub graph_small : {g : Graph} → g.events ≤ 64 → rules g ≤ 1024 → {j p : ℕ} → GraphVerdict g j p → Small j p
graph_small {g} few_events few_rules {j} {p} v = then_place_after Small (graph_checks g ++ path_checks g) Accepted j p each (λ none. accepted_small) v
  where
    -- past refusal 2 an event on a cycle is one of the graph's
    on_cycle_small : Misses (Lowest (UnknownEvent g)) → (q : ℕ) → Lowest (OnCycle g) q → Small 5 q
    on_cycle_small ends q a = record { number = omega arith; place = omega (arith, on_cycle_known (λ i l. known_ends l (none_lowest ends i)) a.holds) }

    each : PlacesAfter Small (graph_checks g ++ path_checks g)
    each = (
      λ q a. at_zero_small 21 q (omega arith) a,
      λ _. (
        λ q a. at_zero_small 22 q (omega arith) a,
        λ _. (
          λ q a. record { number = omega arith; place = omega (arith, a.holds.is_rule) },
          λ ends. (
            λ q a. record { number = omega arith; place = omega (arith, a.holds.is_rule) },
            λ _. (on_cycle_small ends, λ _. (λ q a. record { number = omega arith; place = omega (arith, a.holds.is_event) }, λ _. tt)),
          ),
        ),
      ),
    )

pub pairs_small : {bs : List ℕ} {j p : ℕ} → PairsVerdict bs j p → Small j p
pairs_small {bs} = text_small graphs
  where
    graphs : NoneApplies (text_checks bs NoLists) → (j p : ℕ) → (rs : List Rule) × Text bs rs × GraphVerdict (graph_of_rules rs) j p → Small j p
    graphs (_, (_, (no_21, (no_22, _)))) j p (rs, text, v) =
        let few_events : 64 < events rs → ⊥ = λ l. holds_not no_21 (record { rs = rs; text = text; holds = l }) in
        let few_rows : 1024 < length rs → ⊥ = λ l. holds_not no_22 (record { rs = rs; text = text; holds = l }) in
        graph_small (omega arith) (omega (arith, length-map rs (λ (r : Rule). r.source))) v
