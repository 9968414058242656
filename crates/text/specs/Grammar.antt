-- The grammar of the text form: which byte lists are the text of which rules, and where a text that is none breaks. Document 01, section "Text form and
-- the pair program"; RFC 4180, section 2. The bytes: 13 is CR, 10 is LF, 44 is the comma, 45 (in Numbers.antt) the minus.
--     Rule              == what a row says
--     Row bs r          == bs, a line without its ending, is the row of rule r
--     header            == `source,target,least,most`
--     Rows bs rs        == bs are the rows of the rules rs, each but the last with its ending, the last with or without
--     Text bs rs        == bs is the text of the rules rs
--     Right k bs        == bs, a line without its ending, may stand as row k: the header is row 1
--     Ended bs k rest   == bs begins with k right rows, each with its ending, and rest follows
--     Broken bs k       == row k is the one at which bs can no longer be made right: the rows before it are right and ended, and what follows begins with
--                          no right row
-- A row is counted by right rows before it, so what the text is cut into after the break is not asked. Assumes nothing.
use Rattle.std.specs.Prelude.{◌≡◌, List, [], ◌∷◌, ◌++◌, ℕ, zero, suc, ◌≤◌, ℤ}
use Rattle.numerals.specs.Numbers.{Number, Field}

pub record Rule : Type 0 where
  pub source : ℕ
  pub target : ℕ
  pub least : ℤ
  pub most : ℤ

-- four fields, with commas between
pub record Row (bs : List ℕ) (r : Rule) : Type 0 where
  pub source_field : List ℕ
  pub target_field : List ℕ
  pub least_field : List ℕ
  pub most_field : List ℕ
  pub bytes : bs ≡ source_field ++ (44 ∷ (target_field ++ (44 ∷ (least_field ++ (44 ∷ most_field)))))
  pub source_number : Number source_field r.source
  pub target_number : Number target_field r.target
  pub least_delay : Field least_field r.least
  pub most_delay : Field most_field r.most

-- s o u r c e , t a r g e t , l e a s t , m o s t
abbrev pub header : List ℕ
header =
    115 ∷
    111 ∷
    117 ∷
    114 ∷
    99 ∷
    101 ∷
    44 ∷
    116 ∷
    97 ∷
    114 ∷
    103 ∷
    101 ∷
    116 ∷
    44 ∷
    108 ∷
    101 ∷
    97 ∷
    115 ∷
    116 ∷
    44 ∷
    109 ∷
    111 ∷
    115 ∷
    116 ∷
    []

-- "lines ended by CR LF, the last ending optional"
pub data Rows : List ℕ → List Rule → Type 0 where
  none : Rows [] []
  last : {bs : List ℕ} {r : Rule} → Row bs r → Rows bs (r ∷ [])
  more : {bs : List ℕ} {r : Rule} {rs : List Rule} (line rest : List ℕ) → bs ≡ line ++ (13 ∷ (10 ∷ rest)) → Row line r → Rows rest rs → Rows bs (r ∷ rs)

pub data Text : List ℕ → List Rule → Type 0 where
  header_alone : {bs : List ℕ} → bs ≡ header → Text bs []
  header_ended : {bs : List ℕ} {rs : List Rule} (rest : List ℕ) → bs ≡ header ++ (13 ∷ (10 ∷ rest)) → Rows rest rs → Text bs rs

-- "the header is row 1"
abbrev pub Right : ℕ → List ℕ → Type 0
Right zero bs = ⊥
Right (suc zero) bs = bs ≡ header
Right (suc (suc k)) bs = (r : Rule) × Row bs r

pub data Ended (bs : List ℕ) : ℕ → List ℕ → Type 0 where
  start : Ended bs 0 bs
  ended : {k : ℕ} {after : List ℕ} (line rest : List ℕ) → Ended bs k after → after ≡ line ++ (13 ∷ (10 ∷ rest)) → Right (suc k) line → Ended bs (suc k) rest

-- "Quoted fields, empty rows and other field counts …. So is an input of no bytes (row 1)": before the header even nothing is wrong, after an ending it is
-- the end
pub record Broken (bs : List ℕ) (k : ℕ) : Type 0 where
  pub before : ℕ
  pub is_next : k ≡ suc before
  pub rest : List ℕ
  pub rows_before : Ended bs before rest
  pub not_the_end : 1 ≤ before → rest ≡ [] → ⊥
  pub not_ended : (line after : List ℕ) → rest ≡ line ++ (13 ∷ (10 ∷ after)) → Right k line → ⊥
  pub not_last : Right k rest → ⊥
