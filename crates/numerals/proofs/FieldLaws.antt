-- What the reader of a delay finds, from what stands at its first byte and after.
--     after_byte                    what follows a byte that stands there
--     read_below                    an event number that was read is below 10,000,000
--     field_plain, field_minus      digits, and digits after a minus
-- Assumes nothing.
use mathlib.Core.Path.{◌≡◌, sym, ◌∙◌, ap, subst}
use mathlib.Core.Bool.{Bool, true}
use mathlib.Core.List.{List, ◌∷◌}
use Prim.Native.Nat.{ℕ, ◌+◌, ◌<◌}
use native.Mathlib.Numerals.{add-one}
use lib.IntN.{ℤ, pos, neg_ℤ}
use lib.ListN.{drop}
use Rattle.numerals.specs.Numbers.{Number, Field, plain, minus}
use Rattle.numerals.specs.Fields.{ByteAt, Standing}
use Rattle.numerals.specs.declared.Parsed.{Parsed}
use Rattle.numerals.proofs.Cuts.{number_below}

pub read_below : {bs : List ℕ} {at : ℕ} {a : Parsed ℕ} → Standing Number bs at a → a.value < 10000000
read_below h = number_below h.is

-- what follows a byte
pub after_byte : {bs : List ℕ} {at b : ℕ} {t : Bool} → ByteAt bs at b t → t ≡ true → drop at bs ≡ b ∷ drop (at + 1) bs
after_byte {bs} {at} {b} h q = (h.right q).1 ∙ ap (λ (n : ℕ). b ∷ drop n bs) (sym (add-one at))

pub field_plain : {bs : List ℕ} {at : ℕ} {a : Parsed ℕ} {z : ℤ} → Standing Number bs at a → z ≡ pos a.value → Standing Field bs at (record { value = z; next = a.next })
field_plain h k = record { within = h.within; field = h.field; is = subst (Field h.field) (sym k) (plain h.is); bytes = h.bytes; stops = h.stops }

pub field_minus : {bs : List ℕ} {at : ℕ} {t : Bool} {a : Parsed ℕ} {z : ℤ} → ByteAt bs at 45 t → t ≡ true → Standing Number bs (at + 1) a → z ≡ neg_ℤ (pos a.value) → Standing Field bs at (record { value = z; next = a.next })
field_minus b q h k =
    record {
      within = h.within;
      field = 45 ∷ h.field;
      is = subst (Field (45 ∷ h.field)) (sym k) (minus h.is);
      bytes = after_byte b q ∙ ap (λ (l : List ℕ). 45 ∷ l) h.bytes;
      stops = h.stops;
    }
