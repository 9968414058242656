-- A row, read part by part.
--     Parts1 to Parts7              the four fields with commas between and the end, and what is left of them after each part
--     row_needs                     a row needs all parts
--     needs_number, needs_delay     past a field that stands there, the rest is needed
--     needs_2 to needs_7, needs_end      so it goes, part after part
--     no_number, no_delay, no_comma, no_end      where a part that is needed is missing, no row stands
--     row_found                     four fields with commas between, and the end after them, are a row
-- Assumes nothing.
use mathlib.Core.Path.{◌≡◌, refl, sym, ◌∙◌, ap, subst}
use mathlib.Core.Bool.{Bool, true, false}
use mathlib.Core.List.{List, ◌∷◌, ◌++◌, append_assoc}
use Prim.Native.Nat.{ℕ, ◌≤◌, ◌<◌}
use native.Mathlib.Omega.{arith}
use lib.IntN.{ℤ}
use lib.ListN.{length, drop, length-append, length-drop}
use mir.Syntax.{w64}
use mir.Val.{to_z, of_z}
use Rattle.numerals.specs.Numbers.{Number, Field}
use Rattle.numerals.specs.Fields.{Standing, NoField}
use Rattle.numerals.specs.declared.Parsed.{Parsed}
use Rattle.numerals.proofs.Cuts.{number_cut, field_cut, number_below}
use Rattle.text.specs.Grammar.{Rule, Row}
use Rattle.text.specs.Parts.Scanning.{Ends, RowStanding, NoRow}
use Rattle.text.specs.Parts.Fields.{EndAt, Comma, NoComma}
use Rattle.text.proofs.RowLaws.{comma_stops, delay_back, row_some}
use Rattle.text.proofs.PartLaws.{ends_stop, FieldThen, CommaThen, Needs, needs_field, needs_comma}

abbrev pub Parts7 : List ℕ → Type 0
Parts7 = FieldThen Field Ends

abbrev pub Parts6 : List ℕ → Type 0
Parts6 = CommaThen Parts7

abbrev pub Parts5 : List ℕ → Type 0
Parts5 = FieldThen Field Parts6

abbrev pub Parts4 : List ℕ → Type 0
Parts4 = CommaThen Parts5

abbrev pub Parts3 : List ℕ → Type 0
Parts3 = FieldThen Number Parts4

abbrev pub Parts2 : List ℕ → Type 0
Parts2 = CommaThen Parts3

abbrev pub Parts1 : List ℕ → Type 0
Parts1 = FieldThen Number Parts2

row_parts : {line : List ℕ} {r : Rule} (rest : List ℕ) → Row line r → Ends rest → Parts1 (line ++ rest)
row_parts {line} {r} rest h ends =
    record {
      field = h.source_field;
      after = _;
      says = r.source;
      bytes = ap (λ (l : List ℕ). l ++ rest) h.bytes ∙ append_assoc h.source_field _ rest;
      is = h.source_number;
      stops = comma_stops _;
      then = record {
        rest = _;
        bytes = refl;
        then = record {
          field = h.target_field;
          after = _;
          says = r.target;
          bytes = append_assoc h.target_field _ rest;
          is = h.target_number;
          stops = comma_stops _;
          then = record {
            rest = _;
            bytes = refl;
            then = record {
              field = h.least_field;
              after = _;
              says = r.least;
              bytes = append_assoc h.least_field _ rest;
              is = h.least_delay;
              stops = comma_stops _;
              then = record {
                rest = _;
                bytes = refl;
                then = record { field = h.most_field; after = rest; says = r.most; bytes = refl; is = h.most_delay; stops = ends_stop rest ends; then = ends };
              };
            };
          };
        };
      };
    }

pub row_needs : (bs : List ℕ) (at : ℕ) → Needs bs at Parts1 at
row_needs bs at = record { lacking = λ no. record { none = λ line rest r e ends row. no (subst Parts1 (sym e) (row_parts rest row ends)) } }

module _ {bs : List ℕ} {at next : ℕ} {Then : List ℕ → Type 0} where
  pub needs_number : {a : Parsed ℕ} → Needs bs at (FieldThen Number Then) next → Standing Number bs next a → Needs bs at Then a.next
  needs_number needs h = needs_field number_cut needs h

  pub needs_delay : {a : Parsed ℤ} → Needs bs at (FieldThen Field Then) next → Standing Field bs next a → Needs bs at Then a.next
  needs_delay needs h = needs_field field_cut needs h

  pub no_number : Needs bs at (FieldThen Number Then) next → NoField Number bs next → NoRow bs at
  no_number needs h = needs.lacking (λ p. h.none p.field p.after p.says p.bytes p.stops p.is)

  pub no_delay : Needs bs at (FieldThen Field Then) next → NoField Field bs next → NoRow bs at
  no_delay needs h = needs.lacking (λ p. h.none p.field p.after p.says p.bytes p.stops p.is)

  pub no_comma : Needs bs at (CommaThen Then) next → NoComma bs next → NoRow bs at
  no_comma needs h = needs.lacking (λ p. h.none p.rest p.bytes)

pub no_end : {bs : List ℕ} {at next : ℕ} {t : Bool} → Needs bs at Ends next → EndAt bs next t → t ≡ false → NoRow bs at
no_end needs h e = needs.lacking (h.wrong e)

-- ---- what is left to need, part after part

module _ {bs : List ℕ} {at : ℕ} {source : Parsed ℕ} (h₁ : Standing Number bs at source) where
  pub needs_2 : Needs bs at Parts2 source.next
  needs_2 = needs_number (row_needs bs at) h₁

  module _ {second : ℕ} (c₁ : Comma bs source.next second) where
    pub needs_3 : Needs bs at Parts3 second
    needs_3 = needs_comma needs_2 c₁

    module _ {target : Parsed ℕ} (h₂ : Standing Number bs second target) where
      pub needs_4 : Needs bs at Parts4 target.next
      needs_4 = needs_number needs_3 h₂

      module _ {third : ℕ} (c₂ : Comma bs target.next third) where
        pub needs_5 : Needs bs at Parts5 third
        needs_5 = needs_comma needs_4 c₂

        module _ {least : Parsed ℤ} (h₃ : Standing Field bs third least) where
          pub needs_6 : Needs bs at Parts6 least.next
          needs_6 = needs_delay needs_5 h₃

          module _ {fourth : ℕ} (c₃ : Comma bs least.next fourth) where
            pub needs_7 : Needs bs at Parts7 fourth
            needs_7 = needs_comma needs_6 c₃

            pub needs_end : {most : Parsed ℤ} → Standing Field bs fourth most → Needs bs at Ends most.next
            needs_end h₄ = needs_delay needs_7 h₄

-- ---- the row

-- one part before what was found
joined : (f m r : List ℕ) {l after rest : List ℕ} → l ≡ f ++ after → after ≡ 44 ∷ rest → rest ≡ m ++ r → l ≡ (f ++ (44 ∷ m)) ++ r
joined f m r p q s = p ∙ (ap (λ (k : List ℕ). f ++ k) (q ∙ ap (λ (k : List ℕ). 44 ∷ k) s) ∙ sym (append_assoc f (44 ∷ m) r))

past_row : (bs : List ℕ) (at next : ℕ) (line : List ℕ) → 1 ≤ length line → next ≤ length bs → drop at bs ≡ line ++ drop next bs → at < next
past_row bs at next line s k e = omega (arith, ap length e, length-drop at bs, length-drop next bs, length-append line (drop next bs))

pub row_found : {bs : List ℕ} {at : ℕ} {source target : Parsed ℕ} {least most : Parsed ℤ} {second third fourth : ℕ} {t : Bool} →
    Standing Number bs at source →
    Comma bs source.next second →
    Standing Number bs second target →
    Comma bs target.next third →
    Standing Field bs third least →
    Comma bs least.next fourth →
    Standing Field bs fourth most →
    EndAt bs most.next t →
    t ≡ true →
    RowStanding
    bs
    at
    (record { source = source.value; target = target.value; least = to_z w64 (of_z w64 least.value); most = to_z w64 (of_z w64 most.value); next = most.next })
row_found {bs} {at} {source} {target} {least} {most} h₁ c₁ h₂ c₂ h₃ c₃ h₄ end right =
    let last-two : List ℕ = h₃.field ++ (44 ∷ h₄.field) in
    let last-three : List ℕ = h₂.field ++ (44 ∷ last-two) in
    let line : List ℕ = h₁.field ++ (44 ∷ last-three) in
    let rest : List ℕ = drop most.next bs in
    let bytes : drop at bs ≡ line ++ rest =
    joined h₁.field last-three rest h₁.bytes c₁.bytes (joined h₂.field last-two rest h₂.bytes c₂.bytes (joined h₃.field h₄.field rest h₃.bytes c₃.bytes h₄.bytes)) in
    let row : Row line (record { source = source.value; target = target.value; least = to_z w64 (of_z w64 least.value); most = to_z w64 (of_z w64 most.value) }) =
    record {
      source_field = h₁.field;
      target_field = h₂.field;
      least_field = h₃.field;
      most_field = h₄.field;
      bytes = refl;
      source_number = h₁.is;
      target_number = h₂.is;
      least_delay = rw (delay_back h₃.is) h₃.is;
      most_delay = rw (delay_back h₄.is) h₄.is;
    } in
    record {
      within = h₄.within;
      line = line;
      row = row;
      bytes = bytes;
      ends = end.right right;
      later = past_row bs at most.next line (row_some row) h₄.within bytes;
      source_seven = number_below h₁.is;
      target_seven = number_below h₂.is;
    }
