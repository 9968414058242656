-- The grammar has one reading: a text is that of one list of rules, and a text that is none breaks at one row.
--     line_unique           a line, before its ending or the end, is cut off in one way
--     no_bytes, row_not_nil a list of length 0 is empty, and a row is not
--     After rest rs         what follows a line: nothing, or its ending and the rows of the rules rs
--     after_unique          those rules are one list
--     text_cut, text_made   a text is the header and what follows it
--     rows_first, rows_made rows are a first one and what follows it
--     rows_unique, text_unique
--     ended_unique          k rows with their endings are cut off in one way
--     broken_unique, text_not_broken
-- Assumes nothing.
use mathlib.Core.Path.{◌≡◌, refl, sym, ap, subst, ◌∙◌}
use mathlib.Core.Logic.{inl, inr}
use mathlib.Core.List.{List, [], ◌∷◌, ◌++◌, append-nil}
use Prim.Native.Nat.{ℕ, zero, suc, ◌≤◌, ◌<◌}
use native.Mathlib.Decide.{dec_lt}
use native.Mathlib.Omega.{arith}
use lib.ListN.{length, length-append}
use Rattle.text.specs.Grammar.{Rule, Row, header, Rows, none, last, more, Text, header_alone, header_ended, Right, Ended, start, ended, Broken}
use Rattle.text.specs.Parts.Scanning.{Ends}
use Rattle.numerals.proofs.Cutting.{Without, cut_unique, cut_beyond}
use Rattle.text.proofs.RowLaws.{row_unique, row_without_cr, header_without_cr}

-- ---- lines

pub line_unique : {l l' r r' : List ℕ} → Without 13 l → Without 13 l' → Ends r → Ends r' → l ++ r ≡ l' ++ r' → (l ≡ l') × (r ≡ r')
line_unique {l} {l'} {r} {r'} w w' = go
  where
    bare : {k s : List ℕ} → s ≡ [] → k ++ s ≡ k
    bare {k} e = ap (λ (x : List ℕ). k ++ x) e ∙ append-nil k

    go : Ends r → Ends r' → l ++ r ≡ l' ++ r' → (l ≡ l') × (r ≡ r')
    go (inl e) (inl e') h = (sym (bare e) ∙ h ∙ bare e', e ∙ sym e')
    go (inl e) (inr (s', e')) h = absurd (cut_beyond l' (10 ∷ s') w (sym (ap (λ (x : List ℕ). l' ++ x) e') ∙ sym h ∙ bare e))
    go (inr (s, e)) (inl e') h = absurd (cut_beyond l (10 ∷ s) w' (sym (ap (λ (x : List ℕ). l ++ x) e) ∙ h ∙ bare e'))
    go (inr (s, e)) (inr (s', e')) h =
        let same = cut_unique (10 ∷ s) (10 ∷ s') w w' (sym (ap (λ (x : List ℕ). l ++ x) e) ∙ h ∙ ap (λ (x : List ℕ). l' ++ x) e') in
        (same.0, e ∙ ap (λ (x : List ℕ). 13 ∷ x) same.1 ∙ sym e')

pub no_bytes : (l : List ℕ) → length l ≡ 0 → l ≡ []
no_bytes [] z = refl
no_bytes (x ∷ l) z = absurd (omega arith)

-- a row has its commas
pub row_not_nil : {line : List ℕ} {r : Rule} → Row line r → line ≡ [] → ⊥
row_not_nil row e =
    let long = ap length (sym e ∙ row.bytes) in
    omega (arith, simp length-append at long)

-- ---- what follows a line

pub data After : List ℕ → List Rule → Type 0 where
  nothing : {bs : List ℕ} → bs ≡ [] → After bs []
  rows : {bs : List ℕ} {rs : List Rule} (rest : List ℕ) → bs ≡ 13 ∷ (10 ∷ rest) → Rows rest rs → After bs rs

pub after_ends : {bs : List ℕ} {rs : List Rule} → After bs rs → Ends bs
after_ends (nothing e) = inl e
after_ends (rows rest e s) = inr (rest, e)

pub after_nothing : {bs : List ℕ} {rs : List Rule} → After bs rs → bs ≡ [] → rs ≡ []
after_nothing (nothing e) h = refl
after_nothing (rows rest e s) h = let z : 0 ≡ suc (suc (length rest)) = ap length (sym h ∙ e) in absurd (omega arith)

pub after_rows : {bs rest : List ℕ} {rs : List Rule} → After bs rs → bs ≡ 13 ∷ (10 ∷ rest) → Rows rest rs
after_rows {rest = rest} (nothing e) h = let z : 0 ≡ suc (suc (length rest)) = ap length (sym e ∙ h) in absurd (omega arith)
after_rows {rest = rest} {rs = rs} (rows rest' e s) h =
    let same : rest' ≡ rest = cc in
    subst (λ (x : List ℕ). Rows x rs) same s

-- ---- a text

pub record Cut (line bs : List ℕ) (rs : List Rule) : Type 0 where
  pub rest : List ℕ
  pub bytes : bs ≡ line ++ rest
  pub after : After rest rs

pub text_cut : {bs : List ℕ} {rs : List Rule} → Text bs rs → Cut header bs rs
text_cut (header_alone e) = record { rest = []; bytes = e ∙ sym (append-nil header); after = nothing refl }
text_cut (header_ended rest e s) = record { rest = 13 ∷ (10 ∷ rest); bytes = e; after = rows rest refl s }

pub text_made : {bs rest : List ℕ} {rs : List Rule} → bs ≡ header ++ rest → After rest rs → Text bs rs
text_made e (nothing n) = header_alone (e ∙ ap (λ (x : List ℕ). header ++ x) n ∙ append-nil header)
text_made e (rows s n t) = header_ended s (e ∙ ap (λ (x : List ℕ). header ++ x) n) t

-- ---- rows

pub rows_made : {bs line rest : List ℕ} {r : Rule} {rs : List Rule} → bs ≡ line ++ rest → Row line r → After rest rs → Rows bs (r ∷ rs)
rows_made {line = line} {r = r} e row (nothing n) = subst (λ (x : List ℕ). Rows x (r ∷ [])) (sym (e ∙ ap (λ (x : List ℕ). line ++ x) n ∙ append-nil line)) (last row)
rows_made {line = line} e row (rows s n t) = more line s (e ∙ ap (λ (x : List ℕ). line ++ x) n) row t

pub record FirstRow (r : Rule) (rest : List ℕ) (rs : List Rule) : Type 0 where
  pub others : List Rule
  pub after : After rest others
  pub rules : rs ≡ r ∷ others

pub rows_first : {bs line rest : List ℕ} {r : Rule} {rs : List Rule} → Rows bs rs → bs ≡ line ++ rest → Row line r → Ends rest → FirstRow r rest rs
rows_first {line = line} {rest} {r} none e row ends =
    let long = ap length e in
    let some : length line ≡ 0 → ⊥ = λ z. row_not_nil row (no_bytes line z) in
    absurd (omega (arith, simp length-append at long))
rows_first {bs} {line} {rest} {r} (last {r = r'} row') e row ends =
    let same = line_unique (row_without_cr row) (row_without_cr row') ends (inl refl) (sym e ∙ sym (append-nil bs)) in
    let one : r' ≡ r = row_unique (subst (λ (x : List ℕ). Row x r') (sym same.0) row') row in
    record { others = []; after = nothing same.1; rules = ap (λ (x : Rule). x ∷ []) one }
rows_first {line = line} {rest} {r} (more {r = r'} {rs = rs} line' rest' e' row' s) e row ends =
    let same = line_unique (row_without_cr row) (row_without_cr row') ends (inr (rest', refl)) (sym e ∙ e') in
    let one : r' ≡ r = row_unique (subst (λ (x : List ℕ). Row x r') (sym same.0) row') row in
    record { others = rs; after = rows rest' same.1 s; rules = ap (λ (x : Rule). x ∷ rs) one }

rows_none : {bs : List ℕ} {rs : List Rule} → Rows bs rs → bs ≡ [] → rs ≡ []
rows_none none e = refl
rows_none (last row) e = absurd (row_not_nil row e)
rows_none (more line rest e' row s) e =
    let long = ap length (sym e ∙ e') in
    absurd (omega (arith, simp length-append at long))

pub rows_unique : {bs bs' : List ℕ} {rs rs' : List Rule} → Rows bs rs → Rows bs' rs' → bs ≡ bs' → rs ≡ rs'
rows_unique none t e = sym (rows_none t (sym e))
rows_unique {bs} (last {r = r} row) t e =
    let first = rows_first t (sym e ∙ sym (append-nil bs)) row (inl refl) in
    sym (first.rules ∙ ap (λ (x : List Rule). r ∷ x) (after_nothing first.after refl))
rows_unique (more {r = r} line rest e' row s) t e =
    let first = rows_first t (sym e ∙ e') row (inr (rest, refl)) in
    ap (λ (x : List Rule). r ∷ x) (rows_unique s (after_rows first.after refl) refl) ∙ sym first.rules

pub after_unique : {bs bs' : List ℕ} {rs rs' : List Rule} → After bs rs → After bs' rs' → bs ≡ bs' → rs ≡ rs'
after_unique (nothing n) b e = sym (after_nothing b (sym e ∙ n))
after_unique (rows rest n s) b e = rows_unique s (after_rows b (sym e ∙ n)) refl

pub text_unique : {bs : List ℕ} {rs rs' : List Rule} → Text bs rs → Text bs rs' → rs ≡ rs'
text_unique a b =
    let x = text_cut a in
    let y = text_cut b in
    after_unique x.after y.after (line_unique header_without_cr header_without_cr (after_ends x.after) (after_ends y.after) (sym x.bytes ∙ y.bytes)).1

-- ---- rows with their endings

pub right_without : (k : ℕ) {line : List ℕ} → Right k line → Without 13 line
right_without zero h = absurd h
right_without (suc zero) h = subst (Without 13) (sym h) header_without_cr
right_without (suc (suc k)) h = row_without_cr h.1

ended_none : {bs rest : List ℕ} {k : ℕ} → Ended bs k rest → k ≡ 0 → rest ≡ bs
ended_none start e = refl
ended_none (ended line rest before e' right) e = absurd (omega arith)

ended_same : {bs rest rest' : List ℕ} {j k : ℕ} → Ended bs j rest → Ended bs k rest' → j ≡ k → rest ≡ rest'
ended_same start b e = sym (ended_none b (sym e))
ended_same (ended line rest before e' right) start e = absurd (omega arith)
ended_same (ended {k = j} line rest before e' right) (ended {k = k} line' rest' before' e'' right') e =
    let same : j ≡ k = omega arith in
    let whole = sym e' ∙ ended_same before before' same ∙ e'' in
    let cut = cut_unique (10 ∷ rest) (10 ∷ rest') (right_without (suc j) right) (right_without (suc k) right') whole in
    cc cut.1

pub ended_unique : {bs rest rest' : List ℕ} {k : ℕ} → Ended bs k rest → Ended bs k rest' → rest ≡ rest'
ended_unique a b = ended_same a b refl

-- ---- broken texts

-- a row among k that are right and ended
pub record EndedRow (bs : List ℕ) (j : ℕ) : Type 0 where
  pub from : List ℕ
  pub line : List ℕ
  pub rest : List ℕ
  pub before : Ended bs j from
  pub bytes : from ≡ line ++ (13 ∷ (10 ∷ rest))
  pub right : Right (suc j) line

pub ended_row : {bs rest : List ℕ} {k : ℕ} → Ended bs k rest → (j : ℕ) → j < k → EndedRow bs j
ended_row start j l = absurd (omega arith)
ended_row {bs} (ended {k = k} {after = after} line rest before e right) j l = go (dec_lt j k) (λ h. ended_row before j h)
  where
    go : Dec (j < k) → (j < k → EndedRow bs j) → EndedRow bs j
    go (yes h) earlier = earlier h
    go (no h) earlier =
        let same : k ≡ j = omega arith in
        subst (EndedRow bs) same (record { from = after; line = line; rest = rest; before = before; bytes = e; right = right })

-- the row at which a text breaks is not among right and ended ones
broken_last : {bs rest : List ℕ} {j k : ℕ} → Broken bs j → Ended bs k rest → k < j
broken_last {j = j} {k = k} b x =
    let inside : j ≤ k → ⊥ =
    λ l. let w = ended_row x b.before (omega (arith, b.is_next)) in
    b.not_ended w.line w.rest (ended_unique b.rows_before w.before ∙ w.bytes) (subst (λ (i : ℕ). Right i w.line) (sym b.is_next) w.right) in
    omega arith

pub broken_unique : {bs : List ℕ} {j k : ℕ} → Broken bs j → Broken bs k → j ≡ k
broken_unique a b = omega (arith, a.is_next, b.is_next, broken_last a b.rows_before, broken_last b a.rows_before)

-- after right rows with their endings a text has rows
rows_left : {bs rest : List ℕ} {rs : List Rule} {k : ℕ} → Text bs rs → Ended bs k rest → 1 ≤ k → (left : List Rule) × Rows rest left
rows_left t start l = absurd (omega arith)
rows_left {rs = rs} t (ended {k = zero} line rest before e right) l =
    let x = text_cut t in
    let same = line_unique (subst (Without 13) (sym right) header_without_cr) header_without_cr (inr (rest, refl)) (after_ends x.after) (sym e ∙ ended_none before refl ∙ x.bytes) in
    (rs, after_rows x.after (sym same.1))
rows_left t (ended {k = suc k} line rest before e right) l =
    let (left, s) = rows_left t before (omega arith) in
    let first = rows_first s e right.1 (inr (rest, refl)) in
    (first.others, after_rows first.after refl)

-- row j + 1 of a text is no break: it is its header or a row, or the end
no_break : (j : ℕ) {bs rest : List ℕ} {rs : List Rule} →
    Text bs rs →
    Ended bs j rest →
    (1 ≤ j → rest ≡ [] → ⊥) →
    ((line after : List ℕ) → rest ≡ line ++ (13 ∷ (10 ∷ after)) → Right (suc j) line → ⊥) →
    (Right (suc j) rest → ⊥) →
    ⊥
no_break zero {rest = rest} t x not_the_end not_ended not_last = by t (ended_none x refl)
  where
    by : {bs : List ℕ} {rs : List Rule} → Text bs rs → rest ≡ bs → ⊥
    by (header_alone e) same = not_last (same ∙ e)
    by (header_ended after e s) same = not_ended header after (same ∙ e) refl
no_break (suc j) {rest = rest} t x not_the_end not_ended not_last = by (rows_left t x (omega arith)).1 refl
  where
    by : {bs : List ℕ} {rs : List Rule} → Rows bs rs → rest ≡ bs → ⊥
    by none same = not_the_end (omega arith) same
    by (last {r = r} row) same = not_last (r, subst (λ (x : List ℕ). Row x r) (sym same) row)
    by (more {r = r} line after e row s) same = not_ended line after (same ∙ e) (r, row)

pub text_not_broken : {bs : List ℕ} {rs : List Rule} {k : ℕ} → Text bs rs → Broken bs k → ⊥
text_not_broken t b =
    no_break b.before t b.rows_before b.not_the_end
    (λ line after e right. b.not_ended line after e (subst (λ (i : ℕ). Right i line) (sym b.is_next) right))
    (λ right. b.not_last (subst (λ (i : ℕ). Right i b.rest) (sym b.is_next) right))
