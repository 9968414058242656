-- What the parts of the reader find at one place of the text. The bytes from a place on are `drop at bs`.
--     Ends rest           == rest is nothing, or begins with CR LF
--     RowStanding bs at a == a row of a rule stands there, with its ending or the end after it: a says which rule, and where it stops
--     NoRow bs at         == none does
--     RowAt bs at a       == a says whether a row stands there, and which
--     RowGiven bs at a next == more than an ending is left after the line that ends at `at`, and a says which row follows it; the line of that row ends at next
--     reading_checks n r k  == the refusals 21, 22 and 23 of n events and r rules, where the shortest of the four lent lists has k places
--     Scanned bs a        == a says whether bs is a text, of how many rules and events; or which row is broken
-- Assumes nothing.
use Rattle.std.specs.Prelude.{◌≡◌, ◌⊎◌, List, [], ◌∷◌, ◌++◌, ℕ, ◌+◌, ◌<◌, ◌≤◌, length, drop, Option, Some, None, ⊤}
use Rattle.verdicts.specs.Verdict.{Check, check, AtZero}
use Rattle.text.specs.Grammar.{Rule, Row, Text, Broken}
use Rattle.text.specs.Reading.{events, ReadingNumbers}
use Rattle.text.specs.declared.rows.RuleRow.{RuleRow}

abbrev pub Ends : List ℕ → Type 0
Ends rest = (rest ≡ []) ⊎ ((after : List ℕ) × (rest ≡ 13 ∷ (10 ∷ after)))

abbrev pub rule_of : RuleRow → Rule
rule_of a = record { source = a.source; target = a.target; least = a.least; most = a.most }

pub record RowStanding (bs : List ℕ) (at : ℕ) (a : RuleRow) : Type 0 where
  pub within : a.next ≤ length bs
  pub line : List ℕ
  pub row : Row line (rule_of a)
  pub bytes : drop at bs ≡ line ++ drop a.next bs
  pub ends : Ends (drop a.next bs)
  pub later : at < a.next
  pub source_seven : a.source < 10000000
  pub target_seven : a.target < 10000000

pub record NoRow (bs : List ℕ) (at : ℕ) : Type 0 where
  pub none : (line rest : List ℕ) (r : Rule) → drop at bs ≡ line ++ rest → Ends rest → Row line r → ⊥

abbrev pub RowAt : List ℕ → ℕ → Option RuleRow → Type 0
RowAt bs at (Some a) = RowStanding bs at a
RowAt bs at None = NoRow bs at

abbrev pub EndsAt : Option RuleRow → ℕ → Type 0
EndsAt (Some a) next = next ≡ a.next
EndsAt None next = ⊤

pub record RowGiven (bs : List ℕ) (at : ℕ) (a : Option RuleRow) (next : ℕ) : Type 0 where
  pub room : at + 2 < length bs
  pub row : RowAt bs (at + 2) a
  pub ends_at : EndsAt a next

abbrev pub reading_checks : ℕ → ℕ → ℕ → List Check
reading_checks n r places = check 21 (AtZero (64 < n)) ∷ check 22 (AtZero (1024 < r)) ∷ check 23 (AtZero (places < r)) ∷ []

pub record Scanned (bs : List ℕ) (a : ReadingNumbers) : Type 0 where
  pub right : a.refusal ≡ 0 → (rs : List Rule) × Text bs rs × (a.events ≡ events rs) × (a.rules ≡ length rs)
  pub right_place : a.refusal ≡ 0 → a.place ≡ 0
  pub wrong : (a.refusal ≡ 0 → ⊥) → (a.refusal ≡ 8) × Broken bs a.place × (a.events ≡ 0) × (a.rules ≡ 0)
