-- Laws of pairs: what composition means, and domination.
--     pair_same                          two pairs with one l and one w are one
--     value_compose                      composition is p first and then q: the value of p ∘ q at x is that of q at the value of p at x
--     compose_assoc                      how compositions are grouped does not matter
--     unit_compose, compose_unit         the unit changes nothing, before or after
--     compose_proper                     proper pairs compose to proper ones
--     dominates_refl, dominates_trans, dominates_antisym   domination is an order
--     compose_more                       composition grows with both its pairs
--     value_more                         what dominates has the greater value everywhere
--     value_number                       a proper pair has a number as its value at a number
--     before_trans, before_apart         standing before goes along, and what stands before neither dominates nor is dominated
-- Assumes nothing.
use mathlib.Core.Path.{◌≡◌, refl}
use lib.IntN.{ℤ, ◌+ℤ◌}
use Rattle.sets.specs.Limit.{Limit, number, ◌≤ᴸ◌, ◌+ᴸ◌}
use Rattle.sets.specs.Pair.{Pair, Proper, l_number, w_number, value, compose, Dominates, Before, unit}
use Rattle.sets.proofs.Limits.{
  ≤ᴸ-refl,
  ≤ᴸ-trans,
  ≤ᴸ-antisym,
  <ᴸ-≤ᴸ,
  <ᴸ-≤ᴸ-trans,
  <ᴸ-not-≤ᴸ,
  +ᴸ-more,
  +ᴸ-assoc,
  zero-+ᴸ,
  +ᴸ-zero,
  lesser_more,
  number_lesser,
  lesser_number,
  lesser_unlimited,
  lesser_assoc,
  lesser_+ᴸ,
}

pub pair_same : {p q : Pair} → p.l ≡ q.l → p.w ≡ q.w → p ≡ q
pair_same e f = λ i. record { l = e i; w = f i }

-- ---- composition

pub value_compose : (p q : Pair) (x : Limit) → value (compose p q) x ≡ value q (value p x)
value_compose p q x = simp (lesser_+ᴸ, lesser_assoc, +ᴸ-assoc)

pub compose_assoc : (p q r : Pair) → compose (compose p q) r ≡ compose p (compose q r)
compose_assoc p q r = pair_same (+ᴸ-assoc p.l q.l r.l) (simp (lesser_+ᴸ, lesser_assoc, +ᴸ-assoc))

pub unit_compose : (p : Pair) → compose unit p ≡ p
unit_compose p = pair_same (zero-+ᴸ p.l) refl

pub compose_unit : (p : Pair) → compose p unit ≡ p
compose_unit p = pair_same (+ᴸ-zero p.l) (simp (lesser_unlimited, +ᴸ-zero))

-- ---- proper pairs

pub compose_proper : {p q : Pair} → Proper p → Proper q → Proper (compose p q)
compose_proper {p} {q} h (w_number b e) =
    let (z, f) = lesser_number (p.w +ᴸ q.l) b in
    w_number z (rw e f)
compose_proper {p} {q} (l_number a e) (l_number b f) = l_number (a +ℤ b) (rw (e, f))
compose_proper {p} {q} (w_number a e) (l_number b f) =
    let (z, g) = number_lesser (a +ℤ b) q.w in
    w_number z (rw (e, f) g)

pub value_number : {p : Pair} → Proper p → (x : ℤ) → (y : ℤ) × (value p (number x) ≡ number y)
value_number {p} (l_number a e) x =
    let (z, f) = number_lesser (x +ℤ a) p.w in
    (z, rw e f)
value_number {p} (w_number b e) x =
    let (z, f) = lesser_number (number x +ᴸ p.l) b in
    (z, rw e f)

-- ---- domination

pub dominates_refl : (p : Pair) → Dominates p p
dominates_refl p = record { l_below = ≤ᴸ-refl p.l; w_below = ≤ᴸ-refl p.w }

pub dominates_trans : {p q r : Pair} → Dominates r q → Dominates q p → Dominates r p
dominates_trans h k = record { l_below = ≤ᴸ-trans k.l_below h.l_below; w_below = ≤ᴸ-trans k.w_below h.w_below }

pub dominates_antisym : {p q : Pair} → Dominates q p → Dominates p q → p ≡ q
dominates_antisym h k = pair_same (≤ᴸ-antisym h.l_below k.l_below) (≤ᴸ-antisym h.w_below k.w_below)

pub compose_more : {p q p' q' : Pair} → Dominates p' p → Dominates q' q → Dominates (compose p' q') (compose p q)
compose_more h k =
    record { l_below = +ᴸ-more h.l_below k.l_below; w_below = lesser_more (+ᴸ-more h.w_below k.l_below) k.w_below }

pub value_more : {p q : Pair} {x y : Limit} → Dominates q p → x ≤ᴸ y → value p x ≤ᴸ value q y
value_more d h = lesser_more (+ᴸ-more h d.l_below) d.w_below

-- ---- the order of a pruned set

pub before_trans : {p q r : Pair} → Before p q → Before q r → Before p r
before_trans h k =
    record { l_rises = <ᴸ-≤ᴸ-trans h.l_rises (<ᴸ-≤ᴸ k.l_rises); w_falls = <ᴸ-≤ᴸ-trans k.w_falls (<ᴸ-≤ᴸ h.w_falls) }

pub before_apart : {p q : Pair} → Before p q → (Dominates p q → ⊥) × (Dominates q p → ⊥)
before_apart h = (λ d. <ᴸ-not-≤ᴸ h.l_rises d.l_below, λ d. <ᴸ-not-≤ᴸ h.w_falls d.w_below)
