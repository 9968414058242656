-- Laws of pairs and sets as the code holds them.
--     limit_back, pair_back, pairs_back     what is held is read back; of a set, all its pairs
--     limit_held, pair_held                 what is read back and held is the same
-- Assumes nothing.
use lib.ListN.{length-map}
use lib.Seq.{take_at}
use Rattle.std.proofs.Common.{◌≡◌, refl, List, [], ◌∷◌, map, ◌-◌, length, replicate}
use Rattle.sets.specs.Limit.{Limit, number, unlimited}
use Rattle.sets.specs.Pair.{Pair, unit}
use Rattle.sets.specs.Held.{limit_of, held_limit, pair_of, held_pair, pairs_of, held}
use Rattle.sets.specs.declared.Limit.{Limit as HeldLimit}
use Rattle.sets.specs.declared.Limit.TheVariants.{Number, Unlimited}
use Rattle.sets.specs.declared.Pair.{Pair as HeldPair}
use Rattle.sets.proofs.Pairs.{pair_same}

pub limit_back : (a : Limit) → limit_of (held_limit a) ≡ a
limit_back (number a) = refl
limit_back unlimited = refl

pub limit_held : (e : HeldLimit) → held_limit (limit_of e) ≡ e
limit_held (Number a) = refl
limit_held Unlimited = refl

pub pair_back : (p : Pair) → pair_of (held_pair p) ≡ p
pair_back p = pair_same (limit_back p.l) (limit_back p.w)

pub pair_held : (e : HeldPair) → held_pair (pair_of e) ≡ e
pair_held e = λ i. record { l = limit_held e.l i; w = limit_held e.w i }

map_back : (T : List Pair) → map pair_of (map held_pair T) ≡ T
map_back [] = refl
map_back (p ∷ T) = let e : pair_of (held_pair p) ≡ p = pair_back p in let f : map pair_of (map held_pair T) ≡ T = map_back T in cc

pub pairs_back : (T : List Pair) → pairs_of (held T) ≡ T
pairs_back T = rw (take_at (map held_pair T) (replicate (64 - length T) (held_pair unit)) (length T) (length-map T held_pair)) (map_back T)
