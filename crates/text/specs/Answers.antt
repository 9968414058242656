-- What is asked of a text: the separation of two events of its graph, and what the C entry makes of the answer. Document 01, section "Text form and the
-- pair program"; demands 1 and 2.
--     NoLists               == no list is lent
--     TextAnswered bs s t a == a is the answer to s and t on the graph of the text bs, or the refusal
--     entry_number k x       == the C entry's number for refusal k, 0 being none, and separation x
--     Entered bs s t z      == z is the C entry's number
-- Assumes nothing.
use Rattle.std.specs.Prelude.{◌≡◌, List, ℕ, zero, suc, ◌+◌, ℤ, pos, neg_ℤ}
use Rattle.separation.specs.Promise.{Verdict, Found, Nothing}
use Rattle.separation.specs.declared.Answer.{Answer}
use Rattle.text.specs.Grammar.{Rule, Text}
use Rattle.text.specs.Reading.{TextVerdict, graph_of_rules}

abbrev pub NoLists : List Rule → Type 0
NoLists rs = ⊥

-- "Order: 1 for the bytes, 8, 1 for the counts, then as the analysis", with 21 and 22 for the counts; "There 4 is checked after 3", as it is in the analysis
pub record TextAnswered (bs : List ℕ) (s t : ℕ) (a : Answer) : Type 0 where
  pub verdict : TextVerdict bs NoLists (λ (j p : ℕ). (rs : List Rule) × Text bs rs × Verdict (graph_of_rules rs) s t ⊥ j p) a.refusal a.place
  pub found : a.refusal ≡ 0 → (rs : List Rule) × Text bs rs × Found (graph_of_rules rs) s t a
  pub nothing : (a.refusal ≡ 0 → ⊥) → Nothing a

-- "the separation, or −4,000,000,000 minus the refusal number"
abbrev pub entry_number : ℕ → ℤ → ℤ
entry_number zero x = x
entry_number (suc k) x = neg_ℤ (pos (4000000000 + suc k))

pub record Entered (bs : List ℕ) (s t : ℕ) (z : ℤ) : Type 0 where
  pub answer : Answer
  pub answered : TextAnswered bs s t answer
  pub number : z ≡ entry_number answer.refusal answer.separation
