-- What the loops of the reader know of the part of the text that they have read.
--     HeaderFound bs found == found says whether the first line of bs is the header
-- Assumes nothing.
use Rattle.std.specs.Prelude.{◌≡◌, Bool, true, false, List, ◌++◌, ℕ, ◌≤◌, length, drop}
use Rattle.text.specs.Grammar.{header}
use Rattle.text.specs.Parts.Scanning.{Ends}

pub record HeaderFound (bs : List ℕ) (found : Bool) : Type 0 where
  pub room : found ≡ true → 24 ≤ length bs
  pub stands : found ≡ true → bs ≡ header ++ drop 24 bs
  pub ends : found ≡ true → Ends (drop 24 bs)
  pub missing : found ≡ false → (rest : List ℕ) → bs ≡ header ++ rest → Ends rest → ⊥
