-- What the pair program writes. Document 01, section "Text form and the pair program"; demands 1 and 2.
--     Pair, pairs n         == the pairs with from < to < n, ordered by from and then to
--     PairLine g p bs       == bs is the line of pair p: the two event numbers, the least and the greatest value of t(to) − t(from)
--     Lines g ps bs         == bs are the lines of the pairs ps
--     pair_header            == `from,to,least,most`
--     RefusedLine k p bs    == bs is the line `refused`, number k, place p
--     PairsVerdict bs       == the refusals of the pair program
--     Output bs out         == out is what the pair program writes for the text bs
--     output_places          == how many places a lent list needs for the output: every output fits (`output_fits`, proofs/Fitting.antt)
--     ShortOutput out₀      == the lent list out₀ is too short
--     output_numbers x      == an answer in numbers: refusal and place, 0 where there is none, and the bytes that were written
--     PairsWritten …        == out, which held out₀, holds the output, and a is the answer: the refusal of the lent list, or how many bytes were written
-- Every line ends in CR LF, `ending`. A text that is refused has an output too, its one line; so the answer's refusal is about the lent list alone. Assumes
-- nothing.
use Rattle.std.specs.Prelude.{◌≡◌, Result, Ok, Err, List, [], ◌∷◌, ◌++◌, map, ℕ, zero, suc, ◌-◌, ◌<◌, ◌≤◌, ℤ, length, drop}
use Rattle.graphs.specs.Graph.{Graph}
use Rattle.verdicts.specs.Verdict.{check, FirstOf, AtZero}
use Rattle.graphs.specs.Refusal.{GraphVerdict}
use Rattle.executions.specs.Separation.{Separation, LeastSeparation}
use Rattle.numerals.specs.Numbers.{Natural, Integer}
use Rattle.text.specs.Grammar.{Rule, Text}
use Rattle.text.specs.Reading.{TextVerdict, events, graph_of_rules}
use Rattle.text.specs.Answers.{NoLists}
use Rattle.refusals.specs.declared.Refusal.{Refusal}
use Rattle.refusals.specs.Numbers.{number_of, place_of}
use Rattle.text.specs.declared.PairsAnswer.{PairsAnswer}

pub record Pair : Type 0 where
  pub from : ℕ
  pub to : ℕ

abbrev pub pair_of : ℕ → ℕ → Pair
pair_of s t = record { from = s; to = t }

-- k numbers from a on
abbrev pub up_from : ℕ → ℕ → List ℕ
up_from a zero = []
up_from a (suc k) = a ∷ up_from (suc a) k

-- the pairs (s, s + 1) to (s, n − 1)
abbrev pub pairs_from : ℕ → ℕ → List Pair
pairs_from n s = map (pair_of s) (up_from (suc s) (n - suc s))

-- those of each of these s, one s after the other
abbrev pub pairs_of_all : ℕ → List ℕ → List Pair
pairs_of_all n [] = []
pairs_of_all n (s ∷ ss) = pairs_from n s ++ pairs_of_all n ss

-- "each pair with from < to, ordered by from and then to"
abbrev pub pairs : ℕ → List Pair
pairs n = pairs_of_all n (up_from 0 n)

abbrev pub ending : List ℕ
ending = 13 ∷ 10 ∷ []

-- "the two event numbers, the least and the greatest value of t(to) − t(from)"
pub record PairLine (g : Graph) (p : Pair) (bs : List ℕ) : Type 0 where
  pub least : ℤ
  pub most : ℤ
  pub is_least : LeastSeparation g p.from p.to least
  pub is_most : Separation g p.from p.to most
  pub from_field : List ℕ
  pub to_field : List ℕ
  pub least_field : List ℕ
  pub most_field : List ℕ
  pub from_written : Natural from_field p.from
  pub to_written : Natural to_field p.to
  pub least_written : Integer least_field least
  pub most_written : Integer most_field most
  pub bytes : bs ≡ from_field ++ (44 ∷ (to_field ++ (44 ∷ (least_field ++ (44 ∷ (most_field ++ ending))))))

pub data Lines (g : Graph) : List Pair → List ℕ → Type 0 where
  none : Lines g [] []
  more : {p : Pair} {ps : List Pair} {bs : List ℕ} (line rest : List ℕ) → bs ≡ line ++ rest → PairLine g p line → Lines g ps rest → Lines g (p ∷ ps) bs

-- f r o m , t o , l e a s t , m o s t
abbrev pub pair_header : List ℕ
pair_header = 102 ∷ 114 ∷ 111 ∷ 109 ∷ 44 ∷ 116 ∷ 111 ∷ 44 ∷ 108 ∷ 101 ∷ 97 ∷ 115 ∷ 116 ∷ 44 ∷ 109 ∷ 111 ∷ 115 ∷ 116 ∷ []

-- r e f u s e d
abbrev pub refused_word : List ℕ
refused_word = 114 ∷ 101 ∷ 102 ∷ 117 ∷ 115 ∷ 101 ∷ 100 ∷ []

-- "one line only: `refused`, number, place"
pub record RefusedLine (k p : ℕ) (bs : List ℕ) : Type 0 where
  pub number_field : List ℕ
  pub place_field : List ℕ
  pub number_written : Natural number_field k
  pub place_written : Natural place_field p
  pub bytes : bs ≡ refused_word ++ (44 ∷ (number_field ++ (44 ∷ (place_field ++ ending))))

-- "then as the analysis", of a graph alone
abbrev pub PairsVerdict : List ℕ → ℕ → ℕ → Type 0
PairsVerdict bs = TextVerdict bs NoLists (λ (j p : ℕ). (rs : List Rule) × Text bs rs × GraphVerdict (graph_of_rules rs) j p)

pub data Output (bs out : List ℕ) : Type 0 where
  table : (rs : List Rule) (lines : List ℕ) → PairsVerdict bs 0 0 → Text bs rs → Lines (graph_of_rules rs) (pairs (events rs)) lines → out ≡ pair_header ++ (ending ++ lines) → Output bs out
  refused : (k p : ℕ) → 1 ≤ k → PairsVerdict bs k p → RefusedLine k p out → Output bs out

abbrev pub output_places : ℕ
output_places = 131072

-- 02: "short output list 23"
abbrev pub ShortOutput : List ℕ → Type 0
ShortOutput out₀ = length out₀ < output_places

abbrev pub output_numbers : Result ℕ Refusal → PairsAnswer
output_numbers (Ok bytes) = record { refusal = 0; place = 0; bytes = bytes }
output_numbers (Err r) = record { refusal = number_of r; place = place_of r; bytes = 0 }

-- "A refusal returns its number and place … and every lent list keeps its contents"; "places beyond keep what they held"
pub record PairsWritten (bs out₀ : List ℕ) (a : PairsAnswer) (out : List ℕ) : Type 0 where
  pub verdict : FirstOf (check 23 (AtZero (ShortOutput out₀)) ∷ []) a.refusal a.place
  pub written : a.refusal ≡ 0 → (output : List ℕ) × Output bs output × (a.bytes ≡ length output) × (out ≡ output ++ drop (length output) out₀)
  pub no_bytes : (a.refusal ≡ 0 → ⊥) → a.bytes ≡ 0
  pub kept : (a.refusal ≡ 0 → ⊥) → out ≡ out₀
