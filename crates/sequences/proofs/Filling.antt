-- A loop that writes the first n places of a list, one place a turn.
--     Filling z n At old i new  the places before i are written, those from n on are untouched, and the length is kept
--     filling_more              a turn at i writes x there, if At i x
-- z is what a list has past its end. Assumes nothing.
use mathlib.Core.Path.{◌≡◌, refl, ◌∙◌, sym, subst}
use mathlib.Core.List.{List}
use Prim.Native.Nat.{ℕ, ◌+◌, ◌<◌, ◌≤◌}
use native.Mathlib.Omega.{arith}
use lib.ListN.{length, get_or, drop, set, length-set}
use lib.Seq.{get_or-set_same, get_or-set_other, drop-set-lt}
use borrow.Author.Count.{below_more}

pub record Filling {A : Type 0} (z : A) (n : ℕ) (At : ℕ → A → Type 0) (old : List A) (i : ℕ) (new : List A) : Type 0 where
  pub within : i ≤ n
  pub each : (v : ℕ) → v < i → At v (get_or new v z)
  pub beyond : drop n new ≡ drop n old
  pub same_length : length new ≡ length old

module _ {A : Type 0} (z : A) (n : ℕ) (At : ℕ → A → Type 0) (old : List A) where
  pub filling_more : (i : ℕ) (new : List A) (x : A) → n ≤ length old → Filling z n At old i new → i < n → At i x → Filling z n At old (i + 1) (set new i x)
  filling_more i new x room f l a =
      record {
        within = omega arith;
        each =
            below_more
            (λ v. At v (get_or (set new i x) v z))
            i
            (λ v h. subst (At v) (sym (get_or-set_other new i v x z (λ e. let no : ⊥ = omega arith in no))) (f.each v h))
            (subst (At i) (sym (get_or-set_same new i x z (omega arith))) a);
        beyond = drop-set-lt n new i x l ∙ f.beyond;
        same_length = length-set new i x ∙ f.same_length;
      }
