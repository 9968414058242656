-- What the parts of a row are read from: a field, and then a comma or the end of the row.
--     end_stops             the end of a row begins with no digit
--     FieldThen F Then l    l is a field of kind F, and what Then holds of
--     CommaThen Then l      l is a comma, and what Then holds of
--     Needs bs at P next    a row at place `at` needs what follows place `next` to have P
--     needs_field, needs_comma      past a field or a comma that stands there, the rest is needed
-- Assumes nothing.
use mathlib.Core.Path.{◌≡◌, sym, ◌∙◌, subst}
use mathlib.Core.Logic.{inl, inr}
use mathlib.Core.List.{List, ◌∷◌, ◌++◌, tail-eq_of_cons-eq, head-eq_of_cons-eq}
use Prim.Native.Nat.{ℕ}
use native.Mathlib.Omega.{arith}
use lib.ListN.{drop}
use Rattle.numerals.specs.Fields.{Stops, Standing}
use Rattle.numerals.specs.declared.Parsed.{Parsed}
use Rattle.numerals.proofs.Cuts.{OneCut}
use Rattle.text.specs.Parts.Scanning.{Ends, NoRow}
use Rattle.text.specs.Parts.Fields.{Comma}
use Rattle.text.proofs.RowLaws.{end_stops}

pub ends_stop : (after : List ℕ) → Ends after → Stops after
ends_stop after (inl e) = subst Stops (sym e) end_stops
ends_stop after (inr (rest, e)) = λ b l q d. let k : 13 ≡ b = head-eq_of_cons-eq (sym e ∙ q) in omega (arith, d.from_0)

pub record FieldThen {A : Type 0} (F : List ℕ → A → Type 0) (Then : List ℕ → Type 0) (l : List ℕ) : Type 0 where
  pub field : List ℕ
  pub after : List ℕ
  pub says : A
  pub bytes : l ≡ field ++ after
  pub is : F field says
  pub stops : Stops after
  pub then : Then after

pub record CommaThen (Then : List ℕ → Type 0) (l : List ℕ) : Type 0 where
  pub rest : List ℕ
  pub bytes : l ≡ 44 ∷ rest
  pub then : Then rest

-- ---- what a row needs

pub record Needs (bs : List ℕ) (at : ℕ) (P : List ℕ → Type 0) (next : ℕ) : Type 0 where
  pub lacking : (P (drop next bs) → ⊥) → NoRow bs at

module _ {bs : List ℕ} {at next : ℕ} {Then : List ℕ → Type 0} where
  module _ {A : Type 0} {F : List ℕ → A → Type 0} (cut : OneCut F) where
    pub needs_field : {a : Parsed A} → Needs bs at (FieldThen F Then) next → Standing F bs next a → Needs bs at Then a.next
    needs_field {a} needs h =
        record {
          lacking = λ no. needs.lacking (λ p.
              let same : p.after ≡ drop a.next bs = (cut p.field h.field p.after (drop a.next bs) p.says a.value p.is h.is p.stops h.stops (sym p.bytes ∙ h.bytes)).1 in
              no (subst Then same p.then));
        }

  pub needs_comma : {past : ℕ} → Needs bs at (CommaThen Then) next → Comma bs next past → Needs bs at Then past
  needs_comma {past} needs h =
      record {
        lacking = λ no. needs.lacking (λ p.
            let same : p.rest ≡ drop past bs = tail-eq_of_cons-eq (sym p.bytes ∙ h.bytes) in
            no (subst Then same p.then));
      }
