-- What a row is.
--     comma_stops, end_stops     a comma stops the digits, and so does the end
--     delay_back          a delay is read back from its bits
--     row_unique          a line is the row of one rule
--     row_some            a row has a byte
--     row_without_cr, header_without_cr     no byte of a row, or of the header, is CR
-- Assumes nothing.
use mathlib.Core.Path.{◌≡◌, sym, ◌∙◌, ap, subst}
use mathlib.Core.List.{List, [], ◌∷◌, ◌++◌, append-nil, nil≢cons, head-eq_of_cons-eq, tail-eq_of_cons-eq}
use Prim.Native.Nat.{ℕ, ◌≤◌}
use native.Mathlib.Omega.{arith}
use lib.IntN.{ℤ}
use lib.ListN.{length, length-append}
use mir.Syntax.{w64}
use mir.Val.{to_z, of_z}
use Rattle.std.proofs.lemmas.Int.{ints}
use Rattle.numerals.specs.Numbers.{Number, Field, plain, minus}
use Rattle.numerals.specs.Fields.{Stops}
use Rattle.numerals.proofs.Cutting.{more, Without, each_map, each_append, without}
use Rattle.numerals.proofs.Cuts.{digits_each, number_cut, field_cut, number_below}
use Rattle.text.specs.Grammar.{Rule, Row, header}

pub comma_stops : (r : List ℕ) → Stops (44 ∷ r)
comma_stops r b after e d = let k : 44 ≡ b = head-eq_of_cons-eq e in omega (arith, d.from_0)

pub end_stops : Stops []
end_stops b after e d = nil≢cons e

-- ---- rows

-- a delay is read back from its bits
pub delay_back : {field : List ℕ} {z : ℤ} → Field field z → to_z w64 (of_z w64 z) ≡ z
delay_back (plain h) = let l = number_below h in omega (arith, ints)
delay_back (minus h) = let l = number_below h in omega (arith, ints)

pub row_unique : {l : List ℕ} {r s : Rule} → Row l r → Row l s → r ≡ s
row_unique h k =
    let e = sym h.bytes ∙ k.bytes in
    let a = number_cut _ _ _ _ _ _ h.source_number k.source_number (comma_stops _) (comma_stops _) e in
    let b = number_cut _ _ _ _ _ _ h.target_number k.target_number (comma_stops _) (comma_stops _) (tail-eq_of_cons-eq a.1) in
    let c = field_cut _ _ _ _ _ _ h.least_delay k.least_delay (comma_stops _) (comma_stops _) (tail-eq_of_cons-eq b.1) in
    let d = field_cut _ _ [] [] _ _ h.most_delay k.most_delay end_stops end_stops (append-nil _ ∙ (tail-eq_of_cons-eq c.1 ∙ sym (append-nil _))) in
    λ i. record { source = a.0 i; target = b.0 i; least = c.0 i; most = d.0 i }

pub row_some : {l : List ℕ} {r : Rule} → Row l r → 1 ≤ length l
row_some h = omega (arith, simp length-append at (ap length h.bytes))

number_without_cr : {l : List ℕ} {x : ℕ} → Number l x → Without 13 l
number_without_cr h = each_map (λ b d e. omega (arith, d.from_0)) (digits_each h.digits)

field_without_cr : {l : List ℕ} {z : ℤ} → Field l z → Without 13 l
field_without_cr (plain h) = number_without_cr h
field_without_cr (minus h) = let n : ◌≡◌ {A = ℕ} 45 13 → ⊥ = λ e. omega arith in more n (number_without_cr h)

-- a field, a comma, and what follows
comma_without_cr : {f l : List ℕ} → Without 13 f → Without 13 l → Without 13 (f ++ (44 ∷ l))
comma_without_cr h k = each_append h (more (λ e. omega arith) k)

pub row_without_cr : {l : List ℕ} {r : Rule} → Row l r → Without 13 l
row_without_cr h =
    subst
    (Without 13)
    (sym h.bytes)
    (comma_without_cr
    (number_without_cr h.source_number)
    (comma_without_cr
    (number_without_cr h.target_number)
    (comma_without_cr (field_without_cr h.least_delay) (field_without_cr h.most_delay))))

pub header_without_cr : Without 13 header
header_without_cr = without 13 header tt
