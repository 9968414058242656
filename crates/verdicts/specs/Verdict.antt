-- Verdicts. Document 01, section "Refusal numbers": "The first that applies is given, in this order".
--     Check                 == one row of the table of refusals: its number, and the places at which it applies
--     check k At            == the check with number k that applies at place p exactly where At p holds
--     First k At Rest       == the verdict whose first check is: number k, with place p exactly where At p holds; else as Rest says
--     Accepted              == the verdict when no check is left: number 0, which is no refusal, place 0
--     FirstThen checks Rest == the verdict of a list of checks: the first that applies is given; else as Rest says
--     FirstOf checks        == the same, and number 0 where none applies
--     AtZero A              == A holds, and the place is 0
--     Lowest A p            == p is the lowest number of which A holds
--     LowestOr k Good Bad r == what a search finds: r is the lowest number below k of which Bad holds, Good holds of all before it; or k, where there is none
--     FoundAt k Good Bad i  == i is below k, Bad holds of it, and Good of all before it
--     LowestIn k Good Bad o == what a search finds: the lowest number below k of which Bad holds, Good holds of all before it; or none, where Good holds of all
-- A verdict is a relation of a number and a place. `FirstThen` of a list that is written out computes to a chain of `First` that ends in Rest.
-- Assumes nothing.
use Rattle.std.specs.Prelude.{◌≡◌, Option, Some, None, List, [], ◌∷◌, ℕ, ◌<◌, ◌≤◌}

pub record Check : Type 1 where
  pub number : ℕ
  pub At : ℕ → Type 0

abbrev pub check : ℕ → (ℕ → Type 0) → Check
check k At = record { number = k; At = At }

pub data First (k : ℕ) (At : ℕ → Type 0) (Rest : ℕ → ℕ → Type 0) : ℕ → ℕ → Type 0 where
  given : {p : ℕ} → At p → First k At Rest k p
  passed : {j p : ℕ} → ((q : ℕ) → At q → ⊥) → Rest j p → First k At Rest j p

pub data Accepted : ℕ → ℕ → Type 0 where
  accepted : Accepted 0 0

-- "The first that applies is given, in this order"
abbrev pub FirstThen : List Check → (ℕ → ℕ → Type 0) → ℕ → ℕ → Type 0
FirstThen [] Rest = Rest
FirstThen (c ∷ cs) Rest = First c.number c.At (FirstThen cs Rest)

abbrev pub FirstOf : List Check → ℕ → ℕ → Type 0
FirstOf cs = FirstThen cs Accepted

pub record AtZero (A : Type 0) (p : ℕ) : Type 0 where
  pub zero_place : p ≡ 0
  pub holds : A

pub record Lowest (A : ℕ → Type 0) (p : ℕ) : Type 0 where
  pub holds : A p
  pub lowest : (q : ℕ) → q < p → A q → ⊥

pub record LowestOr (k : ℕ) (Good Bad : ℕ → Type 0) (r : ℕ) : Type 0 where
  pub within : r ≤ k
  pub before : (i : ℕ) → i < r → Good i
  pub bad : r < k → Bad r

pub record FoundAt (k : ℕ) (Good Bad : ℕ → Type 0) (i : ℕ) : Type 0 where
  pub below : i < k
  pub before : (j : ℕ) → j < i → Good j
  pub bad : Bad i

abbrev pub LowestIn : ℕ → (ℕ → Type 0) → (ℕ → Type 0) → Option ℕ → Type 0
LowestIn k Good Bad (Some i) = FoundAt k Good Bad i
LowestIn k Good Bad None = (j : ℕ) → j < k → Good j
