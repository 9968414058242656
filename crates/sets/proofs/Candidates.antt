-- Candidates in four lists, as the code reads them at the places below the least of the four lengths.
--     candidates_read     the candidates are what stands at those places
--     whole_items         a whole run gives the items that its iterator is known to give
-- Assumes nothing.
use mathlib.Core.List.{zip_with}
use Rattle.std.proofs.Common.{◌≡◌, refl, sym, ap, ◌∙◌, subst, Bool, true, Option, List, [], ◌∷◌, map, length, ℕ, ◌+◌, zero, suc, min, ℤ, arith}
use Rattle.std.specs.Iterator.{DrainsIf}
use Rattle.std.specs.Iterator.Runs.{Run}
use Rattle.std.specs.List.{range_with_len}
use Rattle.std.proofs.iter.runs.Made.{took}
use Rattle.std.proofs.lemmas.Iterator.{YieldsList, items_from_drains}
use Rattle.sets.specs.Pair.{Pair, pair}
use Rattle.sets.specs.Held.{limit, candidates, candidate_at}

module _ {A : Type 0} where
  none : (f : ℕ → A) (n : ℕ) → n ≡ 0 → [] ≡ map f (range_with_len 0 n)
  none f n e = rw e refl

  shifted : (f : ℕ → A) (a n : ℕ) → map f (range_with_len (a + 1) n) ≡ map (λ i. f (suc i)) (range_with_len a n)
  shifted f a zero = refl
  shifted f a (suc n) = let first : a + 1 ≡ suc a = omega arith in let rest = shifted f (a + 1) n in cc

pub candidates_read :
    (ls : List ℤ) (fs : List Bool) (ws : List ℤ) (gs : List Bool) (n : ℕ) → n ≡ min (min (min (length ls) (length fs)) (length ws)) (length gs)
    → candidates ls fs ws gs ≡ map (candidate_at ls fs ws gs) (range_with_len 0 n)
unfolding zip_with
candidates_read [] fs ws gs n e = none (candidate_at [] fs ws gs) n (omega arith)
candidates_read (l ∷ ls) [] ws gs n e = none (candidate_at (l ∷ ls) [] ws gs) n (omega arith)
candidates_read (l ∷ ls) (f ∷ fs) [] gs n e = none (candidate_at (l ∷ ls) (f ∷ fs) [] gs) n (omega arith)
candidates_read (l ∷ ls) (f ∷ fs) (w ∷ ws) [] n e = none (candidate_at (l ∷ ls) (f ∷ fs) (w ∷ ws) []) n (omega arith)
candidates_read (l ∷ ls) (f ∷ fs) (w ∷ ws) (g ∷ gs) zero e = absurd (let no : ⊥ = omega arith in no)
candidates_read (l ∷ ls) (f ∷ fs) (w ∷ ws) (g ∷ gs) (suc n) e =
    ap (λ (C : List Pair). pair (limit l f) (limit w g) ∷ C)
    (candidates_read ls fs ws gs n (omega arith) ∙ sym (shifted (candidate_at (l ∷ ls) (f ∷ fs) (w ∷ ws) (g ∷ gs)) 0 n))

pub whole_items :
    {S A B : Type 0} {steps : S → Option A → S → Type 0} {v : A → B} {s : S} {all : List B} (p : Run steps) → p.from ≡ s → p.whole ≡ true
    → YieldsList steps v s all → map v p.items ≡ all
whole_items {S} {A} {B} {steps} p at whole road =
    let d = subst (λ (k : S). DrainsIf steps (p.whole ≡ true) k p.items) at (took p) in
    items_from_drains p.items (d.0, d.1, λ _. d.2 whole) road
