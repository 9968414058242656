-- How a list of bytes is cut in two: a front of one kind of byte goes as far as that kind does, so there is one cut.
--     Each P l            P holds of every byte of l
--     Stopped P l         l begins with no byte of which P holds
--     Without x l         no byte of l is x
--     each_map, each_append      a weaker P; two lists one after the other
--     reach               a front of kind P is no longer than any front that stops P
--     one_cut             two fronts of kind P that stop it are the same
--     cut_unique          two fronts without x, both before an x, are the same
--     cut_beyond          a list without x has no x after a front
--     lacks, without      the same by computing
-- Assumes nothing.
use mathlib.Core.Path.{◌≡◌, refl, sym, ◌∙◌, ap, subst}
use mathlib.Core.Bool.{Bool, true, false, cond}
use mathlib.Core.List.{List, [], ◌∷◌, ◌++◌, nil≢cons, head-eq_of_cons-eq, tail-eq_of_cons-eq}
use Prim.Native.Nat.{ℕ, ◌≤◌}
use native.Mathlib.Omega.{arith}
use lib.Dec.{T, eqb, eqb_refl}
use lib.ListN.{length, take, drop}
use lib.Seq.{take_at, drop_at}

pub data Each (P : ℕ → Type 0) : List ℕ → Type 0 where
  none : Each P []
  more : {b : ℕ} {bs : List ℕ} → P b → Each P bs → Each P (b ∷ bs)

abbrev pub Stopped : (ℕ → Type 0) → List ℕ → Type 0
Stopped P rest = (b : ℕ) (after : List ℕ) → rest ≡ b ∷ after → P b → ⊥

abbrev pub Without : ℕ → List ℕ → Type 0
Without x l = Each (λ (b : ℕ). (b ≡ x → ⊥)) l

pub each_map : {P Q : ℕ → Type 0} {l : List ℕ} → ((b : ℕ) → P b → Q b) → Each P l → Each Q l
each_map f none = none
each_map f (more {b} p h) = more (f b p) (each_map f h)

pub each_append : {P : ℕ → Type 0} {l r : List ℕ} → Each P l → Each P r → Each P (l ++ r)
each_append none k = k
each_append (more p h) k = more p (each_append h k)

-- ---- one cut

pub reach : {P : ℕ → Type 0} {d : List ℕ} (s f r : List ℕ) → Each P d → Stopped P r → d ++ s ≡ f ++ r → length d ≤ length f
reach s f r none stop e = omega arith
reach s [] r (more {b} {bs} p h) stop e = absurd (stop b (bs ++ s) (sym e) p)
reach s (c ∷ cs) r (more {b} {bs} p h) stop e = let k : length bs ≤ length cs = reach s cs r h stop (tail-eq_of_cons-eq e) in omega arith

pub same_cut : (d s f r : List ℕ) → length d ≡ length f → d ++ s ≡ f ++ r → (d ≡ f) × (s ≡ r)
same_cut d s f r l e = (
  sym (take_at d s (length d) refl) ∙ (ap (take (length d)) e ∙ take_at f r (length d) (sym l)),
  sym (drop_at d s (length d) refl) ∙ (ap (drop (length d)) e ∙ drop_at f r (length d) (sym l)),
)

pub one_cut : {P : ℕ → Type 0} {d f : List ℕ} (s r : List ℕ) → Each P d → Each P f → Stopped P s → Stopped P r → d ++ s ≡ f ++ r → (d ≡ f) × (s ≡ r)
one_cut {d = d} {f = f} s r h k stop-s stop-r e =
    let l : length d ≤ length f = reach s f r h stop-r e in
    let m : length f ≤ length d = reach r d s k stop-s (sym e) in
    same_cut d s f r (omega arith) e

-- ---- cut at a byte

pub stopped_at : (x : ℕ) (r : List ℕ) → Stopped (λ (b : ℕ). (b ≡ x → ⊥)) (x ∷ r)
stopped_at x r b after e n = n (sym (head-eq_of_cons-eq e))

pub cut_unique : {x : ℕ} {l k : List ℕ} (r s : List ℕ) → Without x l → Without x k → l ++ (x ∷ r) ≡ k ++ (x ∷ s) → (l ≡ k) × (r ≡ s)
cut_unique {x} {l} {k} r s h j e =
    let c : (l ≡ k) × (x ∷ r ≡ x ∷ s) = one_cut (x ∷ r) (x ∷ s) h j (stopped_at x r) (stopped_at x s) e in
    (c.0, tail-eq_of_cons-eq c.1)

pub cut_beyond : {x : ℕ} {k : List ℕ} (l r : List ℕ) → Without x k → l ++ (x ∷ r) ≡ k → ⊥
cut_beyond [] r none e = nil≢cons (sym e)
cut_beyond (c ∷ l) r none e = nil≢cons (sym e)
cut_beyond [] r (more n h) e = n (sym (head-eq_of_cons-eq e))
cut_beyond (c ∷ l) r (more n h) e = cut_beyond l r h (tail-eq_of_cons-eq e)

-- ---- by computing

abbrev pub lacks : ℕ → List ℕ → Bool
lacks x [] = true
lacks x (b ∷ l) = cond (eqb b x) false (lacks x l)

pub without : (x : ℕ) (l : List ℕ) → T (lacks x l) → Without x l
without x [] t = none
without x (b ∷ l) t = go (without x l) (eqb b x) refl t
  where
    go : (T (lacks x l) → Without x l) → (v : Bool) → eqb b x ≡ v → T (cond v false (lacks x l)) → Without x (b ∷ l)
    go ih true e u = absurd u
    go ih false e u = more (λ k. subst T e (subst (λ (y : ℕ). T (eqb b y)) k (eqb_refl b))) (ih u)
