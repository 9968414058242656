-- Families of pairs, finite or not, and the sets that stand for them. Document 02, request 7: "the function from its value to the target's, over all
-- paths between them" and "the fully pruned set over all paths to the target". The pairs of all paths are a family; the set that closes it is the fully
-- pruned set.
--     Family              == a property of pairs whose l is a number
--     Of C                == the family of the pairs of a list C
--     Either P Q          == the pairs of P and those of Q
--     Then P Q            == the pairs of P composed with those of Q
--     FamilyValue P x y   == y is the greatest of the values of P's pairs at x
--     Covers C P          == C stands for P: no pair of P is above C, and P comes as near to each pair of C as one likes
--     Closes T P          == T covers P and is in pruned order: "the fully pruned set" of P
-- Assumes nothing.
use Rattle.std.specs.Prelude.{◌≡◌, ◌⊎◌, List, ℤ, ◌+ℤ◌, ◌≤ℤ◌}
use Rattle.sets.specs.Limit.{Limit, number, ◌≤ᴸ◌, ◌+ᴸ◌, lesser}
use Rattle.sets.specs.Pair.{Pair, pair, value}
use Rattle.sets.specs.Set.{◌∈◌, Pruned, Dominated}

abbrev pub Family : Type 1
Family = ℤ → Limit → Type 0

abbrev pub Of : List Pair → Family
Of C l w = pair (number l) w ∈ C

abbrev pub Either : Family → Family → Family
Either P Q l w = P l w ⊎ Q l w

-- report, equation 12, of families
pub record Then (P Q : Family) (l : ℤ) (w : Limit) : Type 0 where
  pub l₁ : ℤ
  pub w₁ : Limit
  pub l₂ : ℤ
  pub w₂ : Limit
  pub former : P l₁ w₁
  pub latter : Q l₂ w₂
  pub l_is : l ≡ l₁ +ℤ l₂
  pub w_is : w ≡ lesser (w₁ +ᴸ number l₂) w₂

pub record FamilyValue (P : Family) (x y : ℤ) : Type 0 where
  pub reached : (l : ℤ) × (w : Limit) × P l w × (value (pair (number l) w) (number x) ≡ number y)
  pub bound : (l : ℤ) (w : Limit) → P l w → value (pair (number l) w) (number x) ≤ᴸ number y

-- where l is a number, `approached` at N = l says that P has a pair that dominates (l, w). Where l is unlimited, as in equation 22, it says that P comes
-- as far up as one likes under the cap w
pub record Covers (C : List Pair) (P : Family) : Type 0 where
  pub bound : (l : ℤ) (w : Limit) → P l w → Dominated C (pair (number l) w)
  pub approached : (p : Pair) → p ∈ C → (N : ℤ) → number N ≤ᴸ p.l → (l : ℤ) × (w : Limit) × P l w × (N ≤ℤ l) × (p.w ≤ᴸ w)

-- "the fully pruned set over all paths to the target"
pub record Closes (T : List Pair) (P : Family) : Type 0 where
  pub ordered : Pruned T
  pub covers : Covers T P
