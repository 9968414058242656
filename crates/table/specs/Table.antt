-- The table of all pairs of events: 64 places a row, and in row s and column t the greatest t(t) − t(s). Document 01, sections "Executions", "Text form and
-- the pair program" and "Refusal numbers"; demands 1 and 2.
--     entry table s t         == what stands in row s and column t
--     RowFilled g s table     == row s of the table holds the separations from s
--     RowsFilled g k table    == the first k rows do
--     OthersKept n k table₀ table == every place outside the first n columns of the first k rows holds what it held
--     ShortTable g table₀     == refusal 23: the lent table has too few places
--     table_checks g table₀    == refusals 21, 22, 23, 2 and 3, in this order, with the pair program's limits of events and rules
--     TableVerdict g table₀   == the refusals of a table: these, 5 and 6
--     TableAnswered g table₀ x table == x is the answer, and the lent table, which held table₀, holds table
-- Assumes nothing.
use Rattle.std.specs.Prelude.{◌≡◌, Result, List, ◌∷◌, ◌++◌, ℕ, ◌+◌, ◌*◌, ◌<◌, ℤ, pos, length, get_or}
use Rattle.verdicts.specs.Verdict.{Check, check, FirstOf, AtZero}
use Rattle.graphs.specs.Graph.{Graph}
use Rattle.graphs.specs.Limits.{EventGraph}
use Rattle.graphs.specs.Refusal.{count_checks, rule_checks, path_checks}
use Rattle.executions.specs.Separation.{Separation}
use Rattle.separation.specs.Promise.{at}
use Rattle.refusals.specs.declared.Refusal.{Refusal}
use Rattle.refusals.specs.Numbers.{number_in, place_in}

abbrev pub entry : List ℤ → ℕ → ℕ → ℤ
entry table s t = get_or table (s * 64 + t) (pos 0)

-- "the answer is the greatest t(t) − t(s) over all executions"
pub record RowFilled (g : Graph) (s : ℕ) (table : List ℤ) : Type 0 where
  pub each : (t : ℕ) → t < g.events → Separation g s t (entry table s t)

pub record RowsFilled (g : Graph) (k : ℕ) (table : List ℤ) : Type 0 where
  pub row : (s : ℕ) → s < k → RowFilled g s table

-- "places beyond keep what they held"
pub record OthersKept (n k : ℕ) (table₀ table : List ℤ) : Type 0 where
  pub same_length : length table ≡ length table₀
  pub other : (i : ℕ) → ((s t : ℕ) → s < k → t < n → i ≡ s * 64 + t → ⊥) → at table i ≡ at table₀ i

-- 02: "short output list 23"
abbrev pub ShortTable : Graph → List ℤ → Type 0
ShortTable g table₀ = length table₀ < g.events * 64

-- "at most … 64 events and 1,024 rows"
abbrev pub table_checks : Graph → List ℤ → List Check
table_checks g table₀ = count_checks 64 1024 g ++ (check 23 (AtZero (ShortTable g table₀)) ∷ rule_checks 1000000 g)

abbrev pub TableVerdict : Graph → List ℤ → ℕ → ℕ → Type 0
TableVerdict g table₀ = FirstOf (table_checks g table₀ ++ path_checks g)

-- "A refusal returns its number and place … and every lent list keeps its contents"
pub record TableAnswered (g : Graph) (table₀ : List ℤ) (x : Result Unit Refusal) (table : List ℤ) : Type 0 where
  pub verdict : TableVerdict g table₀ (number_in x) (place_in x)
  pub graph : number_in x ≡ 0 → EventGraph 1000000 g
  pub filled : number_in x ≡ 0 → RowsFilled g g.events table
  pub others : number_in x ≡ 0 → OthersKept g.events g.events table₀ table
  pub kept : (number_in x ≡ 0 → ⊥) → table ≡ table₀
