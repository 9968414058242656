-- What the small parts of the reader find at one place of the text.
--     EndAt bs at t         == t says whether the text ends at that place, or CR LF stands there
--     CommaAt bs at a       == a says whether a comma stands at that place, and the place after it
-- Assumes nothing.
use Rattle.std.specs.Prelude.{◌≡◌, Bool, true, false, List, ◌∷◌, ℕ, ◌≤◌, length, drop, Option, Some, None}
use Rattle.text.specs.Parts.Scanning.{Ends}

pub record EndAt (bs : List ℕ) (at : ℕ) (t : Bool) : Type 0 where
  pub right : t ≡ true → Ends (drop at bs)
  pub wrong : t ≡ false → Ends (drop at bs) → ⊥

pub record Comma (bs : List ℕ) (at next : ℕ) : Type 0 where
  pub within : next ≤ length bs
  pub bytes : drop at bs ≡ 44 ∷ drop next bs

pub record NoComma (bs : List ℕ) (at : ℕ) : Type 0 where
  pub none : (rest : List ℕ) → drop at bs ≡ 44 ∷ rest → ⊥

abbrev pub CommaAt : List ℕ → ℕ → Option ℕ → Type 0
CommaAt bs at (Some next) = Comma bs at next
CommaAt bs at None = NoComma bs at
