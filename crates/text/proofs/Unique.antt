-- The promise of the reader fixes its result: two readings allowed for one text are equal, lists included.
--     broken_first          a text of not too many bytes that is broken is refused with 8
--     events_first          a text of too many events is refused with 21, however many rows it has
--     text_places           each check of a text has one place
--     verdict_unique        so a text has one verdict
--     reading_unique        two readings of one text are equal
--     reading_exactly       a refusal is given exactly when its rule says: whatever number and place the verdict allows, the reading has them
--     SameLists, written_unique  what two runs leave in the four lists
--     read_unique, read_result_unique    all of it: two results of `read_rules` are equal
-- Assumes nothing.
use Rattle.std.proofs.Common.{Result, Ok, Err}
use mathlib.Core.Path.{◌≡◌, sym, ap, subst, ◌∙◌}
use mathlib.Core.List.{List}
use Prim.Native.Nat.{ℕ, ◌≤◌}
use native.Mathlib.Decide.{ℕ_discrete}
use native.Mathlib.Omega.{arith}
use lib.IntN.{ℤ}
use lib.ListN.{length}
use Rattle.verdicts.specs.Verdict.{given, passed, Accepted}
use Rattle.verdicts.proofs.Verdicts.{OnePlaces, OneVerdict, at_zero, at_zero_unique, misses_at_zero, accepted_unique, then_unique}
use Rattle.refusals.specs.declared.Refusal.{Refusal}
use Rattle.refusals.proofs.Unique.{some_number, same_refusal}
use Rattle.text.specs.declared.Reading.{Reading}
use Rattle.text.specs.Grammar.{Rule, Broken}
use Rattle.text.specs.Reading.{ManyEvents, OfText, text_checks, TextVerdict, ReadingNumbers, reading_numbers, ReadOff, RulesWritten, events}
use Rattle.text.proofs.Texts.{text_unique, text_not_broken, broken_unique}

-- ---- the reading

-- "1 for the bytes, 8, 1 for the counts": a broken row is refused with 8, whatever the counts
pub broken_first : {bs : List ℕ} {Short : List Rule → Type 0} {Rest : ℕ → ℕ → Type 0} {k : ℕ} → length bs ≤ 32768 → Broken bs k → TextVerdict bs Short Rest 8 k
broken_first few broken = passed (λ q z. let long = z.holds in omega arith) (given broken)

-- 02: "The text's count check gives 21, then 22"
pub events_first : {bs : List ℕ} {Short : List Rule → Type 0} {Rest : ℕ → ℕ → Type 0} → length bs ≤ 32768 → OfText bs ManyEvents → TextVerdict bs Short Rest 21 0
events_first few h = passed (misses_at_zero (λ l. omega arith)) (passed (λ q b. text_not_broken h.text b) (given (at_zero h)))

pub text_places : (bs : List ℕ) (Short : List Rule → Type 0) → OnePlaces (text_checks bs Short)
text_places bs Short = (at_zero_unique, (λ p q a b. broken_unique a b, (at_zero_unique, (at_zero_unique, (at_zero_unique, tt)))))

pub verdict_unique : {bs : List ℕ} {Short : List Rule → Type 0} {Rest : ℕ → ℕ → Type 0} → OneVerdict Rest →
    {i p j q : ℕ} → TextVerdict bs Short Rest i p → TextVerdict bs Short Rest j q → (i ≡ j) × (p ≡ q)
verdict_unique {bs} {Short} {Rest} rest {i} {p} {j} {q} v w = then_unique (text_checks bs Short) {Rest = Rest} (text_places bs Short) rest i p j q v w

pub reading_exactly : {bs : List ℕ} {Short : List Rule → Type 0} {a : ReadingNumbers} → ReadOff bs Short a → {j p : ℕ} → TextVerdict bs Short Accepted j p → (a.refusal ≡ j) × (a.place ≡ p)
reading_exactly x v = verdict_unique accepted_unique x.verdict v

-- a reading is its four numbers
same_reading : {a b : ReadingNumbers} → a.refusal ≡ b.refusal → a.place ≡ b.place → a.events ≡ b.events → a.rules ≡ b.rules → a ≡ b
same_reading e f h k = λ i. record { refusal = e i; place = f i; events = h i; rules = k i }

pub reading_unique : {bs : List ℕ} {Short : List Rule → Type 0} {a b : ReadingNumbers} → ReadOff bs Short a → ReadOff bs Short b → a ≡ b
reading_unique {a = a} {b} x y = go (ℕ_discrete a.refusal 0)
  where
    same : (a.refusal ≡ b.refusal) × (a.place ≡ b.place)
    same = reading_exactly x y.verdict

    go : Dec (a.refusal ≡ 0) → a ≡ b
    go (yes e) =
        let (rs, text, n, r) = x.found e in
        let (rs', text', n', r') = y.found (sym same.0 ∙ e) in
        let one : rs ≡ rs' = text_unique text text' in
        same_reading same.0 same.1 (n ∙ ap events one ∙ sym n') (r ∙ ap length one ∙ sym r')
    go (no n) =
        let m : b.refusal ≡ 0 → ⊥ = λ f. n (same.0 ∙ f) in
        same_reading same.0 same.1 (x.no_events n ∙ sym (y.no_events m)) (x.no_rules n ∙ sym (y.no_rules m))

-- ---- the lists

pub record SameLists (ss ss' ts ts' : List ℕ) (ds ds' Ds Ds' : List ℤ) : Type 0 where
  pub sources : ss ≡ ss'
  pub targets : ts ≡ ts'
  pub leasts : ds ≡ ds'
  pub mosts : Ds ≡ Ds'

pub written_unique : {bs : List ℕ} {Short : List Rule → Type 0} {a : ReadingNumbers} {ss₀ ts₀ : List ℕ} {ds₀ Ds₀ : List ℤ} {ss ss' ts ts' : List ℕ} {ds ds' Ds Ds' : List ℤ}
    → ReadOff bs Short a
    → RulesWritten bs a ss₀ ts₀ ds₀ Ds₀ ss ts ds Ds → RulesWritten bs a ss₀ ts₀ ds₀ Ds₀ ss' ts' ds' Ds'
    → SameLists ss ss' ts ts' ds ds' Ds Ds'
written_unique {a = a} {ss = ss} {ss'} {ts} {ts'} {ds} {ds'} {Ds} {Ds'} x w w' = go (ℕ_discrete a.refusal 0)
  where
    go : Dec (a.refusal ≡ 0) → SameLists ss ss' ts ts' ds ds' Ds Ds'
    go (yes e) =
        let (rs, text, n, r) = x.found e in
        let h = w.written e rs text in
        let h' = w'.written e rs text in
        record {
          sources = h.sources_hold ∙ sym h'.sources_hold;
          targets = h.targets_hold ∙ sym h'.targets_hold;
          leasts = h.leasts_hold ∙ sym h'.leasts_hold;
          mosts = h.mosts_hold ∙ sym h'.mosts_hold;
        }
    go (no n) =
        let h = w.kept n in
        let h' = w'.kept n in
        record { sources = h.0 ∙ sym h'.0; targets = h.1 ∙ sym h'.1; leasts = h.2 ∙ sym h'.2; mosts = h.3 ∙ sym h'.3 }

pub read_unique : {bs : List ℕ} {Short : List Rule → Type 0} {a b : ReadingNumbers} {ss₀ ts₀ : List ℕ} {ds₀ Ds₀ : List ℤ} {ss ss' ts ts' : List ℕ} {ds ds' Ds Ds' : List ℤ}
    → ReadOff bs Short a → RulesWritten bs a ss₀ ts₀ ds₀ Ds₀ ss ts ds Ds
    → ReadOff bs Short b → RulesWritten bs b ss₀ ts₀ ds₀ Ds₀ ss' ts' ds' Ds'
    → (a ≡ b) × (SameLists ss ss' ts ts' ds ds' Ds Ds')
read_unique {bs} {ss₀ = ss₀} {ts₀} {ds₀} {Ds₀} {ss' = ss'} {ts' = ts'} {ds' = ds'} {Ds' = Ds'} pa wa pb wb =
    let same = reading_unique pa pb in
    let w = subst (λ (x : ReadingNumbers). RulesWritten bs x ss₀ ts₀ ds₀ Ds₀ ss' ts' ds' Ds') (sym same) wb in
    (same, written_unique pa wa w)

-- ---- results

reading_told : (x y : Result Reading Refusal) → reading_numbers x ≡ reading_numbers y → x ≡ y
reading_told (Ok a) (Ok b) e = ap Ok (λ i. record { events = (e i).events; rules = (e i).rules })
reading_told (Ok a) (Err r) e = absurd (some_number r (λ i. (sym e i).refusal))
reading_told (Err r) (Ok b) e = absurd (some_number r (λ i. (e i).refusal))
reading_told (Err r) (Err q) e = ap Err (same_refusal r q (λ i. (e i).refusal) (λ i. (e i).place))

-- two results of `read_rules` for one text and one set of lent lists are equal, lists included
pub read_result_unique : {bs : List ℕ} {Short : List Rule → Type 0} (x y : Result Reading Refusal) {ss₀ ts₀ : List ℕ} {ds₀ Ds₀ : List ℤ} {ss ss' ts ts' : List ℕ} {ds ds' Ds Ds' : List ℤ} →
    ReadOff bs Short (reading_numbers x) → RulesWritten bs (reading_numbers x) ss₀ ts₀ ds₀ Ds₀ ss ts ds Ds →
    ReadOff bs Short (reading_numbers y) → RulesWritten bs (reading_numbers y) ss₀ ts₀ ds₀ Ds₀ ss' ts' ds' Ds' →
    (x ≡ y) × SameLists ss ss' ts ts' ds ds' Ds Ds'
read_result_unique x y ra wa rb wb =
    let (same, lists) = read_unique ra wa rb wb in
    (reading_told x y same, lists)
