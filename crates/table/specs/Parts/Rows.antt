-- The table, row by row: what the functions within promise.
--     RowKept n s table₀ table         == every place outside the first n columns of row s holds what it held
--     RowCopied n s times table₀ table == row s of table holds the times of the n events after that of s, all other places what they held
--     RowAnswered g s x table₀ table   == x is what the analysis answers of the graph alone; not refused, row s is filled; all other places are kept
-- Assumes nothing.
use Rattle.std.specs.Prelude.{◌≡◌, Result, List, ℕ, ◌+◌, ◌*◌, ◌<◌, ℤ, ◌-ℤ◌, length}
use Rattle.graphs.specs.Graph.{Graph}
use Rattle.graphs.specs.Limits.{EventGraph}
use Rattle.graphs.specs.Refusal.{GraphVerdict}
use Rattle.separation.specs.Promise.{at}
use Rattle.refusals.specs.declared.Refusal.{Refusal}
use Rattle.refusals.specs.Numbers.{number_in, place_in}
use Rattle.table.specs.Table.{entry, RowFilled}

pub record RowKept (n s : ℕ) (table₀ table : List ℤ) : Type 0 where
  pub same_length : length table ≡ length table₀
  pub other : (i : ℕ) → ((t : ℕ) → t < n → i ≡ s * 64 + t → ⊥) → at table i ≡ at table₀ i

pub record RowCopied (n s : ℕ) (times table₀ table : List ℤ) : Type 0 where
  pub kept : RowKept n s table₀ table
  pub copied : (t : ℕ) → t < n → entry table s t ≡ at times t -ℤ at times s

pub record RowAnswered (g : Graph) (s : ℕ) (x : Result Unit Refusal) (table₀ table : List ℤ) : Type 0 where
  pub verdict : GraphVerdict g (number_in x) (place_in x)
  pub graph : number_in x ≡ 0 → EventGraph 1000000 g
  pub filled : number_in x ≡ 0 → RowFilled g s table
  pub kept : RowKept g.events s table₀ table
  pub untouched : (number_in x ≡ 0 → ⊥) → table ≡ table₀
