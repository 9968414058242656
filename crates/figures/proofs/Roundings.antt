-- The test that two lists are the delays of a graph, rounded outward to steps of q.
--     rounds_to q g lows highs     the test: each number of the lists is a multiple of q, on its side of the delay, and less than q away
--     rounds_to_lem                   where it passes, the graph with these delays is the rounded graph
-- Assumes nothing.
use mathlib.Core.Path.{refl}
use mathlib.Core.Bool.{Bool, ◌&&◌}
use mathlib.Core.List.{List}
use Prim.Native.Nat.{ℕ, ◌<◌}
use lib.IntN.{ℤ, pos, ◌+ℤ◌, ◌*ℤ◌}
use lib.Signed.{le_z, lt_z, quot_z}
use lib.ListN.{length, get_or}
use lib.Dec.{T, eqb, eqb→eq}
use Rattle.graphs.specs.Graph.{Graph, graph_of, rules, least, most}
use Rattle.rounding.specs.Rounding.{Multiple, Down, Up, Rounded}
use Rattle.figures.proofs.Tests.{both_pass, all_below, all_pass, eq_z, eq_z_passes}

abbrev is_multiple : ℕ → ℤ → Bool
is_multiple q y = eq_z y (quot_z y (pos q) *ℤ pos q)

multiple_passes : (q : ℕ) (y : ℤ) → T (is_multiple q y) → Multiple q y
multiple_passes q y t = record { times = quot_z y (pos q); product = eq_z_passes y (quot_z y (pos q) *ℤ pos q) t }

-- y is the multiple on this side, where low ≤ high < low + q
abbrev is_beside : ℕ → ℤ → ℤ → ℤ → Bool
is_beside q y low high = is_multiple q y && (le_z low high && lt_z high (low +ℤ pos q))

down_passes : (q : ℕ) (x y : ℤ) → T (is_beside q y y x) → Down q x y
down_passes q x y t =
    let (multiple, rest) = both_pass (is_multiple q y) _ t in
    let (under, near) = both_pass (le_z y x) _ rest in
    record { multiple = multiple_passes q y multiple; not_above = record { le = under }; next_above = record { lt = near } }

up_passes : (q : ℕ) (x y : ℤ) → T (is_beside q y x y) → Up q x y
up_passes q x y t =
    let (multiple, rest) = both_pass (is_multiple q y) _ t in
    let (over, near) = both_pass (le_z x y) _ rest in
    record { multiple = multiple_passes q y multiple; not_below = record { le = over }; next_below = record { lt = near } }

abbrev rule_rounds : ℕ → Graph → List ℤ → List ℤ → ℕ → Bool
rule_rounds q g lows highs i =
    is_beside q (get_or lows i (pos 0)) (get_or lows i (pos 0)) (least g i) && is_beside q (get_or highs i (pos 0)) (most g i) (get_or highs i (pos 0))

abbrev pub rounds_to : ℕ → Graph → List ℤ → List ℤ → Bool
rounds_to q g lows highs =
    (eqb (length lows) (length g.leasts) && eqb (length highs) (length g.mosts)) && all_below (rules g) (rule_rounds q g lows highs)

pub rounds_to_lem : (q : ℕ) (g : Graph) (lows highs : List ℤ) → T (rounds_to q g lows highs) → Rounded q g (graph_of g.events g.sources g.targets lows highs)
rounds_to_lem q g lows highs t =
    let (lengths, each) = both_pass (eqb (length lows) (length g.leasts) && eqb (length highs) (length g.mosts)) _ t in
    let (n-lows, n-highs) = both_pass (eqb (length lows) (length g.leasts)) _ lengths in
    record {
      same = record { events_same = refl; sources_same = refl; targets_same = refl };
      as_many_leasts = eqb→eq (length lows) (length g.leasts) n-lows;
      as_many_mosts = eqb→eq (length highs) (length g.mosts) n-highs;
      down = λ i l. down_passes q (least g i) (get_or lows i (pos 0)) (sides each i l).0;
      up = λ i l. up_passes q (most g i) (get_or highs i (pos 0)) (sides each i l).1;
    }
  where
    sides : T (all_below (rules g) (rule_rounds q g lows highs)) → (i : ℕ) → i < rules g → T (is_beside q (get_or lows i (pos 0)) (get_or lows i (pos 0)) (least g i)) × T (is_beside q (get_or highs i (pos 0)) (most g i) (get_or highs i (pos 0)))
    sides each i l = both_pass (is_beside q (get_or lows i (pos 0)) (get_or lows i (pos 0)) (least g i)) _ (all_pass (rules g) (rule_rounds q g lows highs) each i l)
