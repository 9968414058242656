-- What a reading of the text form is. Document 01, sections "Text form and the pair program" and "Refusal numbers"; demand 1; 02, wish 3.
--     events rs            == n: "1 + the greatest event number seen, or 1 with no rows"
--     graph_of_rules rs      == the graph with that many events and these rules
--     ShortForRules rs …      == one of the four lent lists is too short for the rules rs
--     ManyEvents rs        == the rules rs have more events than a text may
--     ManyRows rs          == they are more than a text may have
--     OfText bs A          == bs is the text of rules of which A holds
--     text_alone bs         == the refusals 1, 8, 21 and 22: those that speak of the text alone
--     text_checks bs Short  == these and 23; Short says of the rules when a lent list is too short
--     TextVerdict bs Short Rest == the first of them that applies, then Rest
--     ReadingNumbers, reading_numbers x    == a reading in numbers: refusal and place, 0 where there is none, and the two counts, 0 where it is refused
--     ReadOff bs Short a   == a is the reading of bs, in numbers
--     ListsHold rs …       == the four lent lists hold the rules rs, and beyond what they held
--     RulesWritten bs a …  == what the four lent lists hold after
-- ss₀, ts₀, ds₀, Ds₀ are the lists before, ss, ts, ds, Ds after. Assumes nothing.
use Rattle.std.specs.Prelude.{◌≡◌, ◌⊎◌, Result, Ok, Err, List, [], ◌∷◌, ◌++◌, map, ℕ, suc, max, ◌<◌, ℤ, length, drop}
use Rattle.graphs.specs.Graph.{Graph, graph_of}
use Rattle.verdicts.specs.Verdict.{Check, check, FirstThen, Accepted, AtZero}
use Rattle.text.specs.Grammar.{Rule, Text, Broken}
use Rattle.refusals.specs.declared.Refusal.{Refusal}
use Rattle.refusals.specs.Numbers.{number_of, place_of}
use Rattle.text.specs.declared.Reading.{Reading}

abbrev pub events : List Rule → ℕ
events [] = 1
events (r ∷ rs) = max (suc r.source) (max (suc r.target) (events rs))

abbrev pub sources_of : List Rule → List ℕ
sources_of rs = map (λ (r : Rule). r.source) rs

abbrev pub targets_of : List Rule → List ℕ
targets_of rs = map (λ (r : Rule). r.target) rs

abbrev pub leasts_of : List Rule → List ℤ
leasts_of rs = map (λ (r : Rule). r.least) rs

abbrev pub mosts_of : List Rule → List ℤ
mosts_of rs = map (λ (r : Rule). r.most) rs

abbrev pub graph_of_rules : List Rule → Graph
graph_of_rules rs = graph_of (events rs) (sources_of rs) (targets_of rs) (leasts_of rs) (mosts_of rs)

abbrev pub ShortForRules : List ℕ → List ℕ → List ℤ → List ℤ → List Rule → Type 0
ShortForRules ss ts ds Ds rs = (length ss < length rs) ⊎ ((length ts < length rs) ⊎ ((length ds < length rs) ⊎ (length Ds < length rs)))

-- "at most … 64 events and 1,024 rows"
abbrev pub ManyEvents : List Rule → Type 0
ManyEvents rs = 64 < events rs

abbrev pub ManyRows : List Rule → Type 0
ManyRows rs = 1024 < length rs

pub record OfText (bs : List ℕ) (A : List Rule → Type 0) : Type 0 where
  pub rs : List Rule
  pub text : Text bs rs
  pub holds : A rs

-- "at most 32,768 bytes"; "Order: 1 for the bytes, 8, 1 for the counts"; 02: "The text's count check gives 21, then 22; 1 remains for its bytes only",
-- and "short output list 23"
abbrev pub text_alone : List ℕ → List Check
text_alone bs = check 1 (AtZero (32768 < length bs)) ∷ check 8 (Broken bs) ∷ check 21 (AtZero (OfText bs ManyEvents)) ∷ check 22 (AtZero (OfText bs ManyRows)) ∷ []

abbrev pub text_checks : List ℕ → (List Rule → Type 0) → List Check
text_checks bs Short = text_alone bs ++ (check 23 (AtZero (OfText bs Short)) ∷ [])

abbrev pub TextVerdict : List ℕ → (List Rule → Type 0) → (ℕ → ℕ → Type 0) → ℕ → ℕ → Type 0
TextVerdict bs Short Rest = FirstThen (text_checks bs Short) Rest

pub record ReadingNumbers : Type 0 where
  pub refusal : ℕ
  pub place : ℕ
  pub events : ℕ
  pub rules : ℕ

abbrev pub reading_numbers : Result Reading Refusal → ReadingNumbers
reading_numbers (Ok a) = record { refusal = 0; place = 0; events = a.events; rules = a.rules }
reading_numbers (Err r) = record { refusal = number_of r; place = place_of r; events = 0; rules = 0 }

pub record ReadOff (bs : List ℕ) (Short : List Rule → Type 0) (a : ReadingNumbers) : Type 0 where
  pub verdict : TextVerdict bs Short Accepted a.refusal a.place
  pub found : a.refusal ≡ 0 → (rs : List Rule) × Text bs rs × (a.events ≡ events rs) × (a.rules ≡ length rs)
  pub no_events : (a.refusal ≡ 0 → ⊥) → a.events ≡ 0
  pub no_rules : (a.refusal ≡ 0 → ⊥) → a.rules ≡ 0

pub record ListsHold (rs : List Rule) (ss₀ ts₀ : List ℕ) (ds₀ Ds₀ : List ℤ) (ss ts : List ℕ) (ds Ds : List ℤ) : Type 0 where
  pub sources_hold : ss ≡ sources_of rs ++ drop (length rs) ss₀
  pub targets_hold : ts ≡ targets_of rs ++ drop (length rs) ts₀
  pub leasts_hold : ds ≡ leasts_of rs ++ drop (length rs) ds₀
  pub mosts_hold : Ds ≡ mosts_of rs ++ drop (length rs) Ds₀

pub record RulesWritten (bs : List ℕ) (a : ReadingNumbers) (ss₀ ts₀ : List ℕ) (ds₀ Ds₀ : List ℤ) (ss ts : List ℕ) (ds Ds : List ℤ) : Type 0 where
  pub written : a.refusal ≡ 0 → (rs : List Rule) → Text bs rs → ListsHold rs ss₀ ts₀ ds₀ Ds₀ ss ts ds Ds
  pub kept : (a.refusal ≡ 0 → ⊥) → (ss ≡ ss₀) × (ts ≡ ts₀) × (ds ≡ ds₀) × (Ds ≡ Ds₀)
