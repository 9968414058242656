-- What the public functions promise, beside `held` of Held.antt.
--     Near x                == limit x, if it is a number, is within 4,000,000,000,000,000,000 either side of zero
--     Addable p q           == the sums of p ∘ q can be formed: l and w of p and l of q are near
--     ComposedTo p q r      == r is p ∘ q, or says that its sums can't be formed
--     Summable x p          == x + l of p can be formed: both are within 4,000,000,000,000,000,000 either side of zero, or l is unlimited and w is a number
--     Valued T x r          == r is the value of T at x; or says that T is empty; or that some pair of T can't be summed with x
--     PrunedTo C room r     == r holds what pruning leaves of C, if that is at most room pairs; else it says that there are more
-- Two numbers within that bound have a sum of 64 bits. The numbers of requests 7 and 14 stay below 10,000,000,000,000. Assumes nothing.
use Rattle.std.specs.Prelude.{◌≡◌, List, [], ℕ, ◌<◌, ◌≤◌, ℤ, length, Option, Some, None, Result, Ok, Err}
use Rattle.integers.specs.Within.{Within}
use Rattle.sets.specs.Limit.{Limit, number, unlimited}
use Rattle.sets.specs.Pair.{Pair, compose}
use Rattle.sets.specs.Set.{◌∈◌, SetValue, Prunes}
use Rattle.sets.specs.Held.{held_pair, held}
use Rattle.sets.specs.declared.MorePairs.{MorePairs}
use Rattle.sets.specs.declared.Outside.{Outside}
use Rattle.sets.specs.declared.Pair.{Pair as HeldPair}
use Rattle.sets.specs.declared.PrunedSet.{PrunedSet}

pub record Near (x : Limit) : Type 0 where
  pub near : (a : ℤ) → x ≡ number a → Within 4000000000000000000 a

pub record Addable (p q : Pair) : Type 0 where
  pub l_near : Near p.l
  pub w_near : Near p.w
  pub step_near : Near q.l

abbrev pub ComposedTo : Pair → Pair → Result HeldPair Outside → Type 0
ComposedTo p q (Ok e) = (e ≡ held_pair (compose p q)) × Addable p q
ComposedTo p q (Err _) = Addable p q → ⊥

pub data Summable (x : ℤ) (p : Pair) : Type 0 where
  sum_within : (a : ℤ) → p.l ≡ number a → Within 4000000000000000000 x → Within 4000000000000000000 a → Summable x p
  cap_alone : (b : ℤ) → p.l ≡ unlimited → p.w ≡ number b → Summable x p

abbrev pub Valued : List Pair → ℤ → Result (Option ℤ) Outside → Type 0
Valued T x (Ok (Some y)) = SetValue T x y × ((p : Pair) → p ∈ T → Summable x p)
Valued T x (Ok None) = T ≡ []
Valued T x (Err _) = (p : Pair) × (p ∈ T) × (Summable x p → ⊥)

-- request 7: "exactly if … the fully pruned set over all paths to the target has more than 64 pairs"
pub record PrunedTo (C : List Pair) (room : ℕ) (r : Result PrunedSet MorePairs) : Type 0 where
  pub left : List Pair
  pub prunes : Prunes C left
  pub whole : length left ≤ room → r ≡ Ok (held left)
  pub over : room < length left → r ≡ Err (record {})
