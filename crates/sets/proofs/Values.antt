-- The value of a set at a number.
--     set_value_unique, family_value_unique     a set, and a family, has one value at most at a number
--     set_value_exists                          a set of proper pairs that is not empty has one
--     one_value                                 the value of a single pair is that of the set of it alone
--     joined_value                              the value of two sets joined is the greater of their values
--     composed_value                            the value of A ∘ B at x is that of B at the value of A at x
--     cover_value                               the value of a list that covers a family is the greatest value of the family's pairs, and one reaches it
--     value_cover                               and a family's greatest value is the value of the list
-- The argument for cover_value. Let y be the value of C at x, reached by its pair p. Then y is at most x + l and at most w, so y − x is at most l, and the
-- family has a pair with l at least y − x and w at least w: its value at x is at least y. No pair of the family has more, since C has a pair that
-- dominates it. So a supremum that an unlimited l stands for is always a maximum. Assumes nothing.
use mathlib.Core.Path.{◌≡◌, refl, sym, ap, ◌∙◌}
use mathlib.Core.Bool.{Bool, true, false}
use mathlib.Core.Logic.{◌⊎◌, inl, inr, ⊎_elim}
use mathlib.Core.List.Memᴰ
use mathlib.Core.List.Memᴰ.{head as here}
use mathlib.Core.List.Memᴰ.{tail as there}
use mathlib.Core.List.{List, [], ◌∷◌}
use lib.IntN.{ℤ, pos, ◌+ℤ◌, ◌-ℤ◌}
use lib.Signed.{◌≤ℤ◌, le_z}
use Rattle.integers.proofs.Integer.{linear, sum, difference, max_ℤ}
use Rattle.sets.specs.Limit.{Limit, number, ◌≤ᴸ◌, numbers, ◌+ᴸ◌}
use Rattle.sets.specs.Pair.{Pair, pair, Proper, value, compose}
use Rattle.sets.specs.Set.{◌∈◌, SetValue, Joined, Composed, Dominated}
use Rattle.sets.specs.Family.{Family, FamilyValue, Covers}
use Rattle.sets.proofs.Limits.{
  ≤ᴸ-refl,
  ≤ᴸ-of,
  ≤ᴸ-trans,
  ≤ᴸ-antisym,
  compared,
  Compared,
  at_most,
  above,
  number_≤,
  next,
  sum_under,
  lesser_left,
  lesser_right,
  lesser_greatest,
}
use Rattle.sets.proofs.Pairs.{dominates_refl, value_compose, value_number, value_more}
use Rattle.sets.proofs.Sets.{append_joins}

-- ---- one value

pub set_value_unique : {T : List Pair} {x y z : ℤ} → SetValue T x y → SetValue T x z → y ≡ z
set_value_unique {y = y} {z = z} h k =
    let (p, m, e) = h.reached in
    let (q, n, f) = k.reached in
    let below : y ≤ℤ z = number_≤ (rw e at (k.bound p m)) in
    let over : z ≤ℤ y = number_≤ (rw f at (h.bound q n)) in
    omega linear

pub family_value_unique : {P : Family} {x y z : ℤ} → FamilyValue P x y → FamilyValue P x z → y ≡ z
family_value_unique {y = y} {z = z} h k =
    let (l, w, is, e) = h.reached in
    let (l', w', is', f) = k.reached in
    let below : y ≤ℤ z = number_≤ (rw e at (k.bound l w is)) in
    let over : z ≤ℤ y = number_≤ (rw f at (h.bound l' w' is')) in
    omega linear

-- ---- there is one

pub one_value : {p : Pair} (x y : ℤ) → value p (number x) ≡ number y → SetValue (p ∷ []) x y
one_value {p} x y e = record { reached = (p, here refl, e); bound = λ q m. by q (Memᴰ.cases_cons m) }
  where
    by : (q : Pair) → (q ≡ p) ⊎ (q ∈ []) → value q (number x) ≤ᴸ number y
    by q (inl f) = rw (f, e) (≤ᴸ-refl (number y))
    by q (inr m) = absurd (Memᴰ.not-nil m)

-- the greater of the values of two sets is that of the two joined
pub joined_value : {A B C : List Pair} {x y z : ℤ} → Joined A B C → SetValue A x y → SetValue B x z → SetValue C x (max_ℤ y z)
joined_value {A} {B} {C} {x} {y} {z} j h k = by (le_z y z) refl
  where
    joined : (v : ℤ) → y ≤ℤ v → z ≤ℤ v → ((p : Pair) × (p ∈ C) × (value p (number x) ≡ number v)) → SetValue C x v
    joined v l m r =
        record {
          reached = r;
          bound = λ p n.
              ⊎_elim (λ a. ≤ᴸ-trans (h.bound p a) (numbers y v l)) (λ b. ≤ᴸ-trans (k.bound p b) (numbers z v m)) (j.only p n);
        }

    by : (t : Bool) → le_z y z ≡ t → SetValue C x (max_ℤ y z)
    by true e = let (q, n, f) = k.reached in rw e (joined z (omega linear) (omega linear) (q, j.right q n, f))
    by false e = let (p, n, f) = h.reached in rw e (joined y (omega linear) (omega linear) (p, j.left p n, f))

front_joins : (p : Pair) (T : List Pair) → Joined (p ∷ []) T (p ∷ T)
front_joins p T = append_joins (p ∷ []) T

pub set_value_exists : (p : Pair) (T : List Pair) (x : ℤ) → ((q : Pair) → q ∈ (p ∷ T) → Proper q) → (y : ℤ) × SetValue (p ∷ T) x y
set_value_exists p [] x proper =
    let (y, e) = value_number (proper p (here refl)) x in
    (y, one_value x y e)
set_value_exists p (q ∷ T) x proper =
    let (y, e) = value_number (proper p (here refl)) x in
    let (z, v) = set_value_exists q T x (λ r m. proper r (there m)) in
    (max_ℤ y z, joined_value (front_joins p (q ∷ T)) (one_value x y e) v)

-- ---- composition

pub composed_value : {A B C : List Pair} {x y z : ℤ} → Composed A B C → SetValue A x y → SetValue B y z → SetValue C x z
composed_value {A} {B} {C} {x} {y} {z} j h k =
    record {
      reached =
          let (p, m, e) = h.reached in
          let (q, n, f) = k.reached in
          (compose p q, j.every p q m n, value_compose p q (number x) ∙ ap (value q) e ∙ f);
      bound = λ r m. let (p, q, a, b, e) = j.only r m in by r p q a b e;
    }
  where
    by : (r p q : Pair) → p ∈ A → q ∈ B → r ≡ compose p q → value r (number x) ≤ᴸ number z
    by r p q a b e =
        rw (e, value_compose p q (number x)) (≤ᴸ-trans (value_more (dominates_refl q) (h.bound p a)) (k.bound q b))

-- ---- a family and what covers it

module _ {C : List Pair} {P : Family} (h : Covers C P) where
  -- the family comes as high as any pair of the list
  reaches : (x z : ℤ) (p : Pair) → p ∈ C → number z ≤ᴸ value p (number x) → (l : ℤ) × (w : Limit) × P l w × (number z ≤ᴸ value (pair (number l) w) (number x))
  reaches x z p m k =
      let (l, w, is, far, high) = h.approached p m (z -ℤ x) (sum_under x z p.l (≤ᴸ-trans k (lesser_left (number x +ᴸ p.l) p.w))) in (
        l,
        w,
        is,
        lesser_greatest
            (numbers z (x +ℤ l) (omega (linear, sum x l, difference z x)))
            (≤ᴸ-trans (≤ᴸ-trans k (lesser_right (number x +ᴸ p.l) p.w)) high),
      )

  -- and no pair of it comes higher than the list
  kept_under : (x : ℤ) (v : Limit) → ((p : Pair) → p ∈ C → value p (number x) ≤ᴸ v) → (l : ℤ) (w : Limit) → P l w → value (pair (number l) w) (number x) ≤ᴸ v
  kept_under x v bound l w is =
      let d : Dominated C (pair (number l) w) = h.bound l w is in
      ≤ᴸ-trans (value_more d.dominates (≤ᴸ-refl (number x))) (bound d.by d.among)

  pub cover_value : {x y : ℤ} → SetValue C x y → FamilyValue P x y
  cover_value {x} {y} v =
      let (p, m, e) = v.reached in
      let (l, w, is, high) = reaches x y p m (≤ᴸ-of (sym e)) in
      record { reached = (l, w, is, ≤ᴸ-antisym (kept_under x (number y) v.bound l w is) high); bound = kept_under x (number y) v.bound }

  pub value_cover : {x y : ℤ} → FamilyValue P x y → SetValue C x y
  value_cover {x} {y} v =
      let (l, w, is, e) = v.reached in
      let d : Dominated C (pair (number l) w) = h.bound l w is in
      record {
        reached = (
          d.by,
          d.among,
          ≤ᴸ-antisym (bounded d.by d.among) (≤ᴸ-trans (≤ᴸ-of (sym e)) (value_more d.dominates (≤ᴸ-refl (number x)))),
        );
        bound = bounded;
      }
    where
      bounded : (p : Pair) → p ∈ C → value p (number x) ≤ᴸ number y
      bounded p m = by (compared (value p (number x)) (number y))
        where
          by : Compared (value p (number x)) (number y) → value p (number x) ≤ᴸ number y
          by (at_most k) = k
          by (above k) =
              let (l, w, is, high) = reaches x (y +ℤ pos 1) p m (next k) in
              absurd (let over : (y +ℤ pos 1) ≤ℤ y = number_≤ (≤ᴸ-trans high (v.bound l w is)) in let no : ⊥ = omega (linear, sum y (pos 1)) in no)
