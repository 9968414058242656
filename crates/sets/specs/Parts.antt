-- What the functions within promise.
--     NearChecked a r           == r is the number a, which is within the bound on sums, or says that it is beyond
--     NumbersSummed a b r       == r is the sum of the numbers a and b, which are within the bound on sums, or says that they are not both
--     LimitsSummed x y r        == r is the sum of the limits x and y, which are near, or says that they are not both
--     PairValued p x r          == r is the value of p at x, or says that p can't be summed with x
--     Prior p q                 == p may be selected before q: its w is the greater, or they have one w and its l is at least as great
--     Left last p               == p is left to be selected: its l is above that of the pair kept last, if there is one
--     Chosen C last r           == r is the one of the candidates C that is selected next, or nothing, where none is left
--     Selects C gives           == after each pair kept last `gives` gives the one of the candidates C that is selected next
--     PrunedBy gives room r     == r is what pruning leaves of any candidates of which `gives` gives the one that is selected next
-- Assumes nothing.
use Rattle.std.specs.Prelude.{◌≡◌, ℕ, ℤ, ◌+ℤ◌, List, Option, Some, None, Result, Ok, Err}
use Rattle.integers.specs.Within.{Within}
use Rattle.sets.specs.Limit.{Limit, number, ◌≤ᴸ◌, ◌<ᴸ◌, ◌+ᴸ◌}
use Rattle.sets.specs.Pair.{Pair, value}
use Rattle.sets.specs.Set.{◌∈◌}
use Rattle.sets.specs.Held.{limit_of, held_limit, pair_of}
use Rattle.sets.specs.Promise.{Near, Summable, PrunedTo}
use Rattle.sets.specs.declared.Limit.{Limit as HeldLimit}
use Rattle.sets.specs.declared.MorePairs.{MorePairs}
use Rattle.sets.specs.declared.Outside.{Outside}
use Rattle.sets.specs.declared.Pair.{Pair as HeldPair}
use Rattle.sets.specs.declared.PrunedSet.{PrunedSet}

abbrev pub NearChecked : ℤ → Result ℤ Outside → Type 0
NearChecked a (Ok b) = (b ≡ a) × Within 4000000000000000000 a
NearChecked a (Err _) = Within 4000000000000000000 a → ⊥

abbrev pub NumbersSummed : ℤ → ℤ → Result ℤ Outside → Type 0
NumbersSummed a b (Ok y) = (y ≡ a +ℤ b) × Within 4000000000000000000 a × Within 4000000000000000000 b
NumbersSummed a b (Err _) = Within 4000000000000000000 a → Within 4000000000000000000 b → ⊥

abbrev pub LimitsSummed : Limit → Limit → Result HeldLimit Outside → Type 0
LimitsSummed x y (Ok e) = (e ≡ held_limit (x +ᴸ y)) × Near x × Near y
LimitsSummed x y (Err _) = Near x → Near y → ⊥

abbrev pub PairValued : Pair → ℤ → Result ℤ Outside → Type 0
PairValued p x (Ok y) = (value p (number x) ≡ number y) × Summable x p
PairValued p x (Err _) = Summable x p → ⊥

-- ---- selection

pub record Prior (p q : Pair) : Type 0 where
  pub higher : q.w ≤ᴸ p.w
  pub longer : p.w ≤ᴸ q.w → q.l ≤ᴸ p.l

abbrev pub Left : Option HeldPair → Pair → Type 0
Left None p = Unit {0}
Left (Some q) p = limit_of q.l <ᴸ p.l

abbrev pub Chosen : List Pair → Option HeldPair → Option HeldPair → Type 0
Chosen C last (Some e) = (pair_of e ∈ C) × Left last (pair_of e) × ((p : Pair) → p ∈ C → Left last p → Prior (pair_of e) p)
Chosen C last None = (p : Pair) → p ∈ C → Left last p → ⊥

abbrev pub Selects : List Pair → (Option HeldPair → Option HeldPair → Type 0) → Type 0
Selects C gives = (last r : Option HeldPair) → gives last r → Chosen C last r

abbrev pub PrunedBy : (Option HeldPair → Option HeldPair → Type 0) → ℕ → Result PrunedSet MorePairs → Type 0
PrunedBy gives room r = (C : List Pair) → Selects C gives → PrunedTo C room r
