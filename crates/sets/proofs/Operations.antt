-- Covers under joining and composing: pruning may be done before or after, and partial results may drop dominated pairs at any time.
--     cover_more          a cover of a family covers any family that has the same pairs
--     nothing_covers      pass-nothing covers the family of no pair
--     everything_covers   pass-everything covers the family of the unit alone
--     join_covers         two covers joined cover either family
--     compose_covers      two covers composed cover the one family and then the other
-- The argument for compose_covers. That no pair is above C is monotony. To come near the pair p ∘ q of C, with l of it at least N, one chooses N₁ for p and N₂
-- for q so that N₁ + N₂ is at least N and the cap of p ∘ q is not lost. Where l of q is a number, N₂ is that number. Where it is unlimited, w of q is a
-- number v, since q is proper, and the cap of p ∘ q is at most v: N₂ is so great that w of p + N₂ is at least v. Assumes nothing.
use mathlib.Core.Path.{◌≡◌, refl, ap}
use mathlib.Core.Bool.{Bool, true, false}
use mathlib.Core.Logic.{◌⊎◌, inl, inr, ⊎_elim}
use mathlib.Core.List.Memᴰ
use mathlib.Core.List.{List}
use lib.IntN.{ℤ, pos, ◌+ℤ◌, ◌-ℤ◌}
use lib.Signed.{◌≤ℤ◌, le_z}
use Rattle.integers.proofs.Integer.{linear, sum, difference}
use Rattle.sets.specs.Limit.{Limit, number, unlimited, ◌≤ᴸ◌, numbers, under, ◌+ᴸ◌, lesser}
use Rattle.sets.specs.Pair.{Pair, pair, Proper, l_number, w_number, compose}
use Rattle.sets.specs.Set.{◌∈◌, Joined, Composed, Dominated, pass_everything, pass_nothing}
use Rattle.sets.specs.Family.{Family, Of, Either, Then, Covers}
use Rattle.sets.proofs.Limits.{≤ᴸ-refl, ≤ᴸ-trans, number_≤, +ᴸ-more, lesser_left, lesser_right, lesser_greatest}
use Rattle.sets.proofs.Pairs.{compose_more}
use Rattle.sets.proofs.Sets.{dominated_within}
use Rattle.sets.proofs.Covers.{own_covers}

pub cover_more : {C : List Pair} {P Q : Family} → ((l : ℤ) (w : Limit) → P l w → Q l w) → ((l : ℤ) (w : Limit) → Q l w → P l w) → Covers C P → Covers C Q
cover_more on back h =
    record {
      bound = λ l w is. h.bound l w (back l w is);
      approached = λ p m N k. let (l, w, is, far, high) = h.approached p m N k in (l, w, on l w is, far, high);
    }

pub nothing_covers : Covers pass_nothing (λ l w. ⊥)
nothing_covers = record { bound = λ l w is. absurd is; approached = λ p m. absurd (Memᴰ.not-nil m) }

pub everything_covers : Covers pass_everything (Of pass_everything)
everything_covers = own_covers pass_everything (λ p m. (pos 0, ap (λ (q : Pair). q.l) (Memᴰ.eq_of_singleton m)))

-- ---- joining

pub join_covers : {A B C : List Pair} {P Q : Family} → Covers A P → Covers B Q → Joined A B C → Covers C (Either P Q)
join_covers {A} {B} {C} {P} {Q} h k j =
    record {
      bound = λ l w is. ⊎_elim (λ a. dominated_within j.left (h.bound l w a)) (λ b. dominated_within j.right (k.bound l w b)) is;
      approached = λ p m N n. by p N n (j.only p m);
    }
  where
    by : (p : Pair) (N : ℤ) → number N ≤ᴸ p.l → (p ∈ A) ⊎ (p ∈ B) → (l : ℤ) × (w : Limit) × Either P Q l w × (N ≤ℤ l) × (p.w ≤ᴸ w)
    by p N n (inl a) = let (l, w, is, far, high) = h.approached p a N n in (l, w, inl is, far, high)
    by p N n (inr b) = let (l, w, is, far, high) = k.approached p b N n in (l, w, inr is, far, high)

-- ---- composing

-- numbers for the two pairs of a composition, by which it is approached
record Split (N : ℤ) (l₁ w₁ l₂ w₂ : Limit) : Type 0 where
  pub N₁ : ℤ
  pub N₂ : ℤ
  pub former : number N₁ ≤ᴸ l₁
  pub latter : number N₂ ≤ᴸ l₂
  pub enough : N ≤ℤ (N₁ +ℤ N₂)
  pub cap_kept : lesser (w₁ +ᴸ l₂) w₂ ≤ᴸ (w₁ +ᴸ number N₂)

-- where l₂ is a number it is N₂
split_number : (N : ℤ) (l₁ w₁ : Limit) (b : ℤ) (w₂ : Limit) → number N ≤ᴸ (l₁ +ᴸ number b) → Split N l₁ w₁ (number b) w₂
split_number N (number a) w₁ b w₂ h =
    record {
      N₁ = a;
      N₂ = b;
      former = ≤ᴸ-refl (number a);
      latter = ≤ᴸ-refl (number b);
      enough = number_≤ h;
      cap_kept = lesser_left (w₁ +ᴸ number b) w₂;
    }
split_number N unlimited w₁ b w₂ h =
    record {
      N₁ = N -ℤ b;
      N₂ = b;
      former = under (number (N -ℤ b));
      latter = ≤ᴸ-refl (number b);
      enough = omega (linear, difference N b, sum (N -ℤ b) b);
      cap_kept = lesser_left (w₁ +ᴸ number b) w₂;
    }

-- a number so great that a sum with it reaches v
enough_for : (w : Limit) (v : ℤ) → (M : ℤ) × (number v ≤ᴸ (w +ᴸ number M))
enough_for (number c) v = (v -ℤ c, numbers v (c +ℤ (v -ℤ c)) (omega (linear, difference v c, sum c (v -ℤ c))))
enough_for unlimited v = (pos 0, under (number v))

greater_of_two : (a b : ℤ) → (M : ℤ) × (a ≤ℤ M) × (b ≤ℤ M)
greater_of_two a b = by (le_z a b) refl
  where
    by : (t : Bool) → le_z a b ≡ t → (M : ℤ) × (a ≤ℤ M) × (b ≤ℤ M)
    by true e = (b, omega linear, omega linear)
    by false e = (a, omega linear, omega linear)

-- where l₂ is unlimited, w₂ is a number v
split_unlimited : (N : ℤ) (l₁ w₁ : Limit) (v : ℤ) → Split N l₁ w₁ unlimited (number v)
split_unlimited N (number a) w₁ v =
    let (M, reaches) = enough_for w₁ v in
    let (K, over, far) = greater_of_two M (N -ℤ a) in
    record {
      N₁ = a;
      N₂ = K;
      former = ≤ᴸ-refl (number a);
      latter = under (number K);
      enough = omega (linear, difference N a, sum a K);
      cap_kept = ≤ᴸ-trans (lesser_right (w₁ +ᴸ unlimited) (number v)) (≤ᴸ-trans reaches (+ᴸ-more (≤ᴸ-refl w₁) (numbers M K over)));
    }
split_unlimited N unlimited w₁ v =
    let (M, reaches) = enough_for w₁ v in
    record {
      N₁ = N -ℤ M;
      N₂ = M;
      former = under (number (N -ℤ M));
      latter = under (number M);
      enough = omega (linear, difference N M, sum (N -ℤ M) M);
      cap_kept = ≤ᴸ-trans (lesser_right (w₁ +ᴸ unlimited) (number v)) reaches;
    }

split : (N : ℤ) (p q : Pair) → Proper q → number N ≤ᴸ (p.l +ᴸ q.l) → Split N p.l p.w q.l q.w
split N p q (l_number b e) h = rw e (split_number N p.l p.w b q.w (rw e at h))
split N p q (w_number v e) h = by q.l refl
  where
    by : (l : Limit) → q.l ≡ l → Split N p.l p.w q.l q.w
    by (number b) f = rw f (split_number N p.l p.w b q.w (rw f at h))
    by unlimited f = rw (f, e) (split_unlimited N p.l p.w v)

pub compose_covers :
    {A B C : List Pair} {P Q : Family} → Covers A P → Covers B Q → ((q : Pair) → q ∈ B → Proper q) → Composed A B C → Covers C (Then P Q)
compose_covers {A} {B} {C} {P} {Q} h k proper j = record { bound = bounded; approached = approaching }
  where
    bounded : (l : ℤ) (w : Limit) → Then P Q l w → Dominated C (pair (number l) w)
    bounded l w t =
        let d : Dominated A (pair (number t.l₁) t.w₁) = h.bound t.l₁ t.w₁ t.former in
        let e : Dominated B (pair (number t.l₂) t.w₂) = k.bound t.l₂ t.w₂ t.latter in
        record {
          by = compose d.by e.by;
          among = j.every d.by e.by d.among e.among;
          dominates = rw (t.l_is, t.w_is) (compose_more d.dominates e.dominates);
        }

    near : (r p q : Pair) → p ∈ A → q ∈ B → r ≡ compose p q → (N : ℤ) → number N ≤ᴸ r.l → (l : ℤ) × (w : Limit) × Then P Q l w × (N ≤ℤ l) × (r.w ≤ᴸ w)
    near r p q a b e N n =
        let s : Split N p.l p.w q.l q.w = split N p q (proper q b) (rw e at n) in
        let (l₁, w₁, is, far, high) = h.approached p a s.N₁ s.former in
        let (l₂, w₂, is', far', high') = k.approached q b s.N₂ s.latter in (
          l₁ +ℤ l₂,
          lesser (w₁ +ᴸ number l₂) w₂,
          record { l₁ = l₁; w₁ = w₁; l₂ = l₂; w₂ = w₂; former = is; latter = is'; l_is = refl; w_is = refl },
          omega (linear, s.enough, sum s.N₁ s.N₂, sum l₁ l₂),
          rw e
              (lesser_greatest
              (≤ᴸ-trans s.cap_kept (+ᴸ-more high (numbers s.N₂ l₂ far')))
              (≤ᴸ-trans (lesser_right (p.w +ᴸ q.l) q.w) high')),
        )

    approaching : (r : Pair) → r ∈ C → (N : ℤ) → number N ≤ᴸ r.l → (l : ℤ) × (w : Limit) × Then P Q l w × (N ≤ℤ l) × (r.w ≤ᴸ w)
    approaching r m = let (p, q, a, b, e) = j.only r m in near r p q a b e
