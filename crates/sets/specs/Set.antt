-- Sets of pairs, as lists. Document 02, request 7: "a set of pairs (l, w), meaning the greatest of the lesser of x + l and w … Prune as document 002,
-- equation 11: l rising, w falling, strictly".
--     p ∈ T                  == pair p stands in the list T
--     SetValue T x y         == y is the greatest of the values of T's pairs at x; the empty set has none
--     Joined A B C           == C holds the pairs of A and those of B, and no others: the greater of two functions
--     Composed A B C         == C holds every pair of A composed with every pair of B, and no others: A first and then B
--     Ahead p T              == p comes before the first pair of T, if T has one
--     Pruned T               == T is in pruned order: along it l rises and w falls, strictly
--     Dominated C p          == a pair of C dominates p
--     Prunes C T             == T is what pruning leaves of C: in pruned order, of C's pairs alone, and each pair of C is dominated by one of T
--     pass_everything         == the unit alone, the report's 1̄
--     pass_nothing            == the empty set, in place of the report's 0̄
-- Joining and composing are relations, since the order in which the pairs are listed does not matter. Assumes nothing.
use Rattle.std.specs.Prelude.{◌≡◌, ◌⊎◌, ℤ}
use mathlib.Core.List.{List, [], ◌∷◌, Memᴰ}
use Rattle.sets.specs.Limit.{number, ◌≤ᴸ◌}
use Rattle.sets.specs.Pair.{Pair, value, compose, Dominates, Before, unit}

infix 50 ◌∈◌
abbrev pub ◌∈◌ : Pair → List Pair → Type 0
p ∈ T = Memᴰ p T

-- report, equation 10: "f(x) = max{min(x + ℓi, wi) | 1 ≤ i ≤ n}"
pub record SetValue (T : List Pair) (x y : ℤ) : Type 0 where
  pub reached : (p : Pair) × (p ∈ T) × (value p (number x) ≡ number y)
  pub bound : (p : Pair) → p ∈ T → value p (number x) ≤ᴸ number y

-- report, section 3.2: "We denote this max operation in our ordered pair form as set union"
pub record Joined (A B C : List Pair) : Type 0 where
  pub left : (p : Pair) → p ∈ A → p ∈ C
  pub right : (p : Pair) → p ∈ B → p ∈ C
  pub only : (p : Pair) → p ∈ C → (p ∈ A) ⊎ (p ∈ B)

-- report, equation 12: "g ∘ h = {gi ∘ hj | 1 ≤ i ≤ n, 1 ≤ j ≤ m}"
pub record Composed (A B C : List Pair) : Type 0 where
  pub every : (p q : Pair) → p ∈ A → q ∈ B → compose p q ∈ C
  pub only : (r : Pair) → r ∈ C → (p : Pair) × (q : Pair) × (p ∈ A) × (q ∈ B) × (r ≡ compose p q)

-- "Prune as document 002, equation 11: l rising, w falling, strictly"
abbrev pub Ahead : Pair → List Pair → Type 0
Ahead p [] = Unit {0}
Ahead p (q ∷ T) = Before p q

pub data Pruned : List Pair → Type 0 where
  none : Pruned []
  first : {p : Pair} {T : List Pair} → Ahead p T → Pruned T → Pruned (p ∷ T)

pub record Dominated (C : List Pair) (p : Pair) : Type 0 where
  pub by : Pair
  pub among : by ∈ C
  pub dominates : Dominates by p

-- report, section 3.2: "By proper application of this pruning rule, we can always write our sets of ordered pairs (9) such that" equation 11 holds
pub record Prunes (C T : List Pair) : Type 0 where
  pub ordered : Pruned T
  pub from : (p : Pair) → p ∈ T → p ∈ C
  pub bound : (p : Pair) → p ∈ C → Dominated T p

-- request 14: "the pass-everything function and the pass-nothing function"
abbrev pub pass_everything : List Pair
pass_everything = unit ∷ []

abbrev pub pass_nothing : List Pair
pass_nothing = []
