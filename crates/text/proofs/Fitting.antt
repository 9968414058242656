-- Every output fits the places that are asked for.
--     Known n ps       the pairs ps are pairs of n events
--     pairs_known      so are those of `pairs n`
--     pairs_few        and of at most 64 events there are at most 64 × 64
--     line_places      a pair's line takes at most 31 places
--     output_fits      so an output takes at most `output_places`
-- The idea. The table is written for a graph that is accepted, of at most 64 events. Its values are differences of two times of an execution, at most
-- 2,046,000,000 either side of zero: eleven places with the minus. With two event numbers of two digits, three commas and the ending a line takes 31 places
-- at most. The header takes 20, and 20 + 31 × 64 × 64 is below 131,072. The line of a refusal takes far fewer: its number has one digit, its place five at
-- most. Assumes nothing.
use mathlib.Core.Path.{◌≡◌, refl, subst}
use mathlib.Core.List.{List, [], ◌∷◌, ◌++◌, map}
use Prim.Native.Nat.{ℕ, zero, suc, ◌+◌, ◌*◌, ◌-◌, ◌<◌, ◌≤◌}
use native.Mathlib.Omega.{arith}
use lib.ListN.{length, length-append}
use Rattle.integers.specs.Within.{Within}
use Rattle.graphs.specs.Graph.{Graph}
use Rattle.graphs.specs.Path.{HasCycle}
use Rattle.graphs.specs.Limits.{Sized}
use Rattle.graphs.specs.Refusal.{GraphVerdict}
use Rattle.graphs.proofs.Refusals.{graph_accepted}
use Rattle.executions.proofs.Sizes.{gap_within}
use Rattle.text.specs.Grammar.{Rule}
use Rattle.text.specs.Reading.{events, graph_of_rules}
use Rattle.text.specs.Output.{Pair, pair_of, up_from, pairs_of_all, pairs, PairLine, Lines, PairsVerdict, Output, table, refused, output_places}
use Rattle.text.specs.Output as output
use Rattle.text.proofs.Texts.{text_unique}
use Rattle.numerals.proofs.Decimal.{natural_places, integer_places}
use Rattle.text.proofs.Handed.{text_passed, counts_small}
use Rattle.text.proofs.Places.{pairs_small}

-- ---- the pairs

pub data Known (n : ℕ) : List Pair → Type 0 where
  none : Known n []
  more : {p : Pair} {ps : List Pair} → p.from < n → p.to < n → Known n ps → Known n (p ∷ ps)

known_append : {n : ℕ} {ps qs : List Pair} → Known n ps → Known n qs → Known n (ps ++ qs)
known_append none ks = ks
known_append (more f t js) ks = more f t (known_append js ks)

module _ (n : ℕ) where
  row_known : (s a k : ℕ) → s < n → a + k ≤ n → Known n (map (pair_of s) (up_from a k))
  row_known s a zero hs l = none
  row_known s a (suc k) hs l = more {p = pair_of s a} hs (omega arith) (row_known s (suc a) k hs (omega arith))

  all_known : (a k : ℕ) → a + k ≤ n → Known n (pairs_of_all n (up_from a k))
  all_known a zero l = none
  all_known a (suc k) l = known_append (row_known a (suc a) (n - suc a) (omega arith) (omega arith)) (all_known (suc a) k (omega arith))

  pub pairs_known : Known n (pairs n)
  pairs_known = all_known 0 n (omega arith)

  row_length : (s a k : ℕ) → length (map (pair_of s) (up_from a k)) ≡ k
  row_length s a zero = refl
  row_length s a (suc k) = omega (arith, row_length s (suc a) k)

  all_few : (a k : ℕ) → n ≤ 64 → length (pairs_of_all n (up_from a k)) ≤ 64 * k
  all_few a zero l = omega arith
  all_few a (suc k) l = rw length-append (omega (arith, row_length a (suc a) (n - suc a), all_few (suc a) k l))

  pub pairs_few : n ≤ 64 → length (pairs n) ≤ 4096
  pairs_few l = omega (arith, all_few 0 n l)

-- ---- the table

module _ {g : Graph} (sized : Sized 1000000 g) (acyclic : HasCycle g → ⊥) (few : g.events ≤ 64) where
  pub line_places : {p : Pair} {bs : List ℕ} → p.from < g.events → p.to < g.events → PairLine g p bs → length bs ≤ 31
  line_places {p} f t w =
      let (_, _, x, least-gap) = w.is_least.reached in
      let (_, _, y, most-gap) = w.is_most.reached in
      let from_Places = natural_places 2 (omega arith) (omega arith) w.from_written in
      let to-places = natural_places 2 (omega arith) (omega arith) w.to_written in
      let least-places = integer_places (subst (Within 2046000000) least-gap (gap_within sized acyclic x p.from p.to f t)) w.least_written in
      let most-places = integer_places (subst (Within 2046000000) most-gap (gap_within sized acyclic y p.from p.to f t)) w.most_written in
      rw w.bytes (simp length-append (omega (arith, from_Places, to-places, least-places, most-places)))

  lines_places : {ps : List Pair} {bs : List ℕ} → Known g.events ps → Lines g ps bs → length bs ≤ 31 * length ps
  lines_places none output.none = omega arith
  lines_places (more f t ks) (output.more line rest e l ls) = rw e (rw length-append (omega (arith, line_places f t l, lines_places ks ls)))

pub output_fits : {bs out : List ℕ} → Output bs out → length out ≤ output_places
output_fits {bs} (table rs lines v text are e) =
    let (few, _, _) = counts_small v refl text in
    let (sized, acyclic) = graph_accepted (graph_of_rules rs) 0 0 refl (accepted v) in
    rw e (simp length-append (omega (arith, lines_places sized acyclic few (pairs_known (events rs)) are, pairs_few (events rs) few)))
  where
    accepted : PairsVerdict bs 0 0 → GraphVerdict (graph_of_rules rs) 0 0
    accepted v =
        let (_, (rs', text', v0)) = text_passed v refl in
        subst (λ (rs : List Rule). GraphVerdict (graph_of_rules rs) 0 0) (text_unique text' text) v0
output_fits (refused k p l v line) =
    let small = pairs_small v in
    let number-places = natural_places 2 (omega arith) (omega (arith, small.number)) line.number_written in
    let place-places = natural_places 5 (omega arith) (omega (arith, small.place)) line.place_written in
    rw line.bytes (simp length-append (omega (arith, number-places, place-places)))
