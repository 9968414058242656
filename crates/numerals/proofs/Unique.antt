-- The promises fix the results: two results allowed for one list, place and number are equal.
--     byte_at_unique                       whether a byte stands at a place
--     event_field_unique, delay_field_unique     the number at a place, or none
--     put_unique                           bytes written
--     natural_put_unique, integer_put_unique     numbers written
-- Assumes nothing.
use mathlib.Core.Path.{◌≡◌, refl, sym, ap, subst, ◌∙◌}
use mathlib.Core.Bool.{Bool, true, false}
use mathlib.Core.List.{List, ◌++◌}
use Prim.Native.Nat.{ℕ, suc, ◌+◌, ◌<◌, ◌≤◌}
use native.Mathlib.Decide.{dec_lt}
use native.Mathlib.Omega.{arith}
use lib.IntN.{ℤ}
use lib.ListN.{length, take, drop, length-drop}
use Rattle.std.specs.Prelude.{Option, Some, None}
use Rattle.numerals.specs.Fields.{ByteAt, Standing, NoField, ReadAt, NumberAt, FieldAt}
use Rattle.numerals.specs.Appending.{Appended, Put, NaturalPut, IntegerPut}
use Rattle.numerals.specs.declared.Parsed.{Parsed}
use Rattle.numerals.proofs.Cuts.{OneCut, number_cut, field_cut}
use Rattle.numerals.proofs.Decimal.{natural_unique, integer_unique}

pub byte_at_unique : {bs : List ℕ} {at b : ℕ} {t u : Bool} → ByteAt bs at b t → ByteAt bs at b u → t ≡ u
byte_at_unique {t = true} {u = true} x y = refl
byte_at_unique {bs} {at} {t = true} {u = false} x y = absurd (y.wrong refl (drop (suc at) bs) (x.right refl).1)
byte_at_unique {bs} {at} {t = false} {u = true} x y = absurd (x.wrong refl (drop (suc at) bs) (y.right refl).1)
byte_at_unique {t = false} {u = false} x y = refl

-- ---- the number at a place

-- of any kind of field that is cut in one way
module _ {A : Type 0} {F : List ℕ → A → Type 0} (cut : OneCut F) (bs : List ℕ) (at : ℕ) where
  same_standing : {a b : Parsed A} → Standing F bs at a → Standing F bs at b → a ≡ b
  same_standing {a} {b} x y =
      let (same, rest) = cut x.field y.field (drop a.next bs) (drop b.next bs) a.value b.value x.is y.is x.stops y.stops (sym x.bytes ∙ y.bytes) in
      let next : a.next ≡ b.next = omega (arith, ap length rest, length-drop a.next bs, length-drop b.next bs, x.within, y.within) in
      λ i. record { value = same i; next = next i }

  not_both : {C : Type 0} {a : Parsed A} → Standing F bs at a → NoField F bs at → C
  not_both {a = a} x y = absurd (y.none x.field (drop a.next bs) a.value x.bytes x.stops x.is)

  read_unique : (a b : Option (Parsed A)) → ReadAt F bs at a → ReadAt F bs at b → a ≡ b
  read_unique (Some a) (Some b) x y = ap (λ (p : Parsed A). Some p) (same_standing x y)
  read_unique (Some a) None x y = not_both x y
  read_unique None (Some b) x y = not_both y x
  read_unique None None x y = refl

pub event_field_unique : (bs : List ℕ) (at : ℕ) (a b : Option (Parsed ℕ)) → NumberAt bs at a → NumberAt bs at b → a ≡ b
event_field_unique bs at a b x y = read_unique number_cut bs at a b x y

pub delay_field_unique : (bs : List ℕ) (at : ℕ) (a b : Option (Parsed ℤ)) → FieldAt bs at a → FieldAt bs at b → a ≡ b
delay_field_unique bs at a b x y = read_unique field_cut bs at a b x y

-- ---- what is written

pub put_unique : {o : List ℕ} {a : ℕ} {bs m m' : List ℕ} {b b' : ℕ} → Put o a bs m b → Put o a bs m' b' → (m ≡ m') × (b ≡ b')
put_unique {o} {a} {bs} {m} {m'} {b} {b'} x y = go (dec_lt (length o) (a + length bs))
  where
    both : Appended o a bs m b → Appended o a bs m' b' → (m ≡ m') × (b ≡ b')
    both v w =
        let same : b ≡ b' = v.after ∙ sym w.after in
        (v.bytes ∙ ap (λ (k : ℕ). take a o ++ (bs ++ drop k o)) same ∙ sym w.bytes, same)

    go : Dec (length o < a + length bs) → (m ≡ m') × (b ≡ b')
    go (yes l) =
        let (e, f) = x.full l in
        let (e', f') = y.full l in
        (e ∙ sym e', f ∙ sym f')
    go (no l) = let k : a + length bs ≤ length o = omega arith in both (x.fits k) (y.fits k)

pub natural_put_unique : {o : List ℕ} {a x : ℕ} {m m' : List ℕ} {b b' : ℕ} → NaturalPut o a x m b → NaturalPut o a x m' b' → (m ≡ m') × (b ≡ b')
natural_put_unique {o} {a} {m' = m'} {b' = b'} v w =
    put_unique v.put (subst (λ (bs : List ℕ). Put o a bs m' b') (natural_unique w.written v.written) w.put)

pub integer_put_unique : {o : List ℕ} {a : ℕ} {z : ℤ} {m m' : List ℕ} {b b' : ℕ} → IntegerPut o a z m b → IntegerPut o a z m' b' → (m ≡ m') × (b ≡ b')
integer_put_unique {o} {a} {m' = m'} {b' = b'} v w =
    put_unique v.put (subst (λ (bs : List ℕ). Put o a bs m' b') (integer_unique w.written v.written) w.put)
