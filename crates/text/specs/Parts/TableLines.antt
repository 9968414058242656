-- The lines of the pairs, within: what the writers of lines promise, with no word of executions.
--     LineOf s t least most bs  == bs is the line of these four numbers
--     TableLine n table p bs    == p is a pair of two of n events, and bs is its line, with the numbers of the table
--     TableLines n table ps bs  == bs are the lines of the pairs ps
--     SmallEntries n table      == "An exact answer lies between −2,046,000,000 and 2,046,000,000"
-- Assumes nothing.
use Rattle.std.specs.Prelude.{◌≡◌, List, [], ◌∷◌, ◌++◌, ℕ, ◌<◌, ℤ, neg_ℤ}
use Rattle.integers.specs.Within.{Within}
use Rattle.numerals.specs.Numbers.{Natural, Integer}
use Rattle.text.specs.Output.{Pair, ending}
use Rattle.table.specs.Table.{entry}

pub record LineOf (s t : ℕ) (least most : ℤ) (bs : List ℕ) : Type 0 where
  pub from_field : List ℕ
  pub to_field : List ℕ
  pub least_field : List ℕ
  pub most_field : List ℕ
  pub from_written : Natural from_field s
  pub to_written : Natural to_field t
  pub least_written : Integer least_field least
  pub most_written : Integer most_field most
  pub bytes : bs ≡ from_field ++ (44 ∷ (to_field ++ (44 ∷ (least_field ++ (44 ∷ (most_field ++ ending))))))

-- the least value is minus the entry of the events exchanged
pub record TableLine (n : ℕ) (table : List ℤ) (p : Pair) (bs : List ℕ) : Type 0 where
  pub from_known : p.from < n
  pub to_known : p.to < n
  pub line : LineOf p.from p.to (neg_ℤ (entry table p.to p.from)) (entry table p.from p.to) bs

pub data TableLines (n : ℕ) (table : List ℤ) : List Pair → List ℕ → Type 0 where
  none : TableLines n table [] []
  more : {p : Pair} {ps : List Pair} {bs : List ℕ} (line rest : List ℕ) → bs ≡ line ++ rest → TableLine n table p line → TableLines n table ps rest → TableLines n table (p ∷ ps) bs

pub record SmallEntries (n : ℕ) (table : List ℤ) : Type 0 where
  pub each : (s t : ℕ) → s < n → t < n → Within 2046000000 (entry table s t)
