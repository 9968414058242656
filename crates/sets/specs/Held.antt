-- Limits, pairs and sets as the code holds them, and candidates as it is handed them.
--     limit a f                   == the limit that the number a and the flag f stand for: where the flag is set the number is not read
--     limit_of e, held_limit x    == the limit that e stands for; limit x as it is held
--     pair_of e, held_pair p      == the pair that e stands for; pair p as it is held
--     pairs_of s                  == the pairs that the set s stands for: those in its first places, as many as it counts
--     held T                      == the pairs T as a set is held: in their order in the first places, the unit in those beyond
--     candidates_of es            == the pairs that the list es stands for
--     candidates ls fs ws gs      == the pairs that four lists stand for: of each l its number and flag, of each w its number and flag. There are as many as the
--                                    shortest list has entries
--     candidate_at ls fs ws gs i  == the pair at place i
-- There is one way to hold a limit, a pair and a list of pairs. Assumes nothing.
use Rattle.std.specs.Prelude.{Bool, true, false, ℕ, ◌-◌, ℤ, pos, List, map, ◌++◌, length, replicate, take, get_or}
use mathlib.Core.List.{zip_with}
use Rattle.sets.specs.Limit.{Limit, number, unlimited}
use Rattle.sets.specs.Pair.{Pair, pair, unit}
use Rattle.sets.specs.declared.Limit.{Limit as HeldLimit}
use Rattle.sets.specs.declared.Limit.TheVariants.{Number, Unlimited}
use Rattle.sets.specs.declared.Pair.{Pair as HeldPair}
use Rattle.sets.specs.declared.PrunedSet.{PrunedSet}

abbrev pub limit : ℤ → Bool → Limit
limit a false = number a
limit a true = unlimited

abbrev pub limit_of : HeldLimit → Limit
limit_of (Number a) = number a
limit_of Unlimited = unlimited

abbrev pub held_limit : Limit → HeldLimit
held_limit (number a) = Number a
held_limit unlimited = Unlimited

abbrev pub pair_of : HeldPair → Pair
pair_of e = pair (limit_of e.l) (limit_of e.w)

abbrev pub held_pair : Pair → HeldPair
held_pair p = record { l = held_limit p.l; w = held_limit p.w }

abbrev pub pairs_of : PrunedSet → List Pair
pairs_of s = map pair_of (take s.count s.pairs)

abbrev pub held : List Pair → PrunedSet
held T = record { pairs = map held_pair T ++ replicate (64 - length T) (held_pair unit); count = length T }

abbrev pub candidates_of : List HeldPair → List Pair
candidates_of es = map pair_of es

abbrev pub candidates : List ℤ → List Bool → List ℤ → List Bool → List Pair
candidates ls fs ws gs = zip_with pair (zip_with limit ls fs) (zip_with limit ws gs)

abbrev pub candidate_at : List ℤ → List Bool → List ℤ → List Bool → ℕ → Pair
candidate_at ls fs ws gs i = pair (limit (get_or ls i (pos 0)) (get_or fs i false)) (limit (get_or ws i (pos 0)) (get_or gs i false))
