-- What stands at one place of a list of bytes. The bytes from a place on are `drop at bs`; beyond the end there are none.
--     Stops rest          == rest begins with no digit
--     ByteAt bs at b t    == t says whether byte b stands at that place
--     Standing F bs at a  == a field of kind F stands at that place: it says a.value, and stops at a.next
--     NoField F bs at     == none does
--     ReadAt F bs at a    == a says whether a field of kind F stands at that place, what it says, and where it stops
--     NumberAt bs at a    == the same of an event number
--     FieldAt bs at a     == the same of a delay
-- A field stops at the first byte that is no digit (docs/DECISIONS.md). Assumes nothing.
use Rattle.std.specs.Prelude.{◌≡◌, Bool, true, false, List, ◌∷◌, ◌++◌, ℕ, suc, ◌<◌, ◌≤◌, ℤ, length, drop, Option, Some, None}
use Rattle.numerals.specs.Numbers.{IsDigit, Number, Field}
use Rattle.numerals.specs.declared.Parsed.{Parsed}

abbrev pub Stops : List ℕ → Type 0
Stops rest = (b : ℕ) (after : List ℕ) → rest ≡ b ∷ after → IsDigit b → ⊥

pub record ByteAt (bs : List ℕ) (at b : ℕ) (t : Bool) : Type 0 where
  pub right : t ≡ true → (at < length bs) × (drop at bs ≡ b ∷ drop (suc at) bs)
  pub wrong : t ≡ false → (after : List ℕ) → drop at bs ≡ b ∷ after → ⊥

pub record Standing {A : Type 0} (F : List ℕ → A → Type 0) (bs : List ℕ) (at : ℕ) (a : Parsed A) : Type 0 where
  pub within : a.next ≤ length bs
  pub field : List ℕ
  pub is : F field a.value
  pub bytes : drop at bs ≡ field ++ drop a.next bs
  pub stops : Stops (drop a.next bs)

pub record NoField {A : Type 0} (F : List ℕ → A → Type 0) (bs : List ℕ) (at : ℕ) : Type 0 where
  pub none : (field rest : List ℕ) (x : A) → drop at bs ≡ field ++ rest → Stops rest → F field x → ⊥

abbrev pub ReadAt : {A : Type 0} → (List ℕ → A → Type 0) → List ℕ → ℕ → Option (Parsed A) → Type 0
ReadAt F bs at (Some a) = Standing F bs at a
ReadAt F bs at None = NoField F bs at

abbrev pub NumberAt : List ℕ → ℕ → Option (Parsed ℕ) → Type 0
NumberAt bs at a = ReadAt Number bs at a

abbrev pub FieldAt : List ℕ → ℕ → Option (Parsed ℤ) → Type 0
FieldAt bs at a = ReadAt Field bs at a
