-- Laws of limits: the order, the sum, the lesser of two.
--     ≤ᴸ-refl, ≤ᴸ-of, ≤ᴸ-trans, ≤ᴸ-antisym   at most is an order; of two equal limits each is at most the other
--     <ᴸ-≤ᴸ, ≤ᴸ-<ᴸ-trans, <ᴸ-≤ᴸ-trans   below is at most, and goes along with it
--     <ᴸ-not-≤ᴸ                          nothing is below what is at most it
--     compared, Compared                 of two limits one is at most the other, or above it
--     number_≤, number_<                 of two numbers the orders are those of the whole numbers
--     number_same, not_number            two numbers that are one limit are one number, and unlimited is none
--     next                               what is above a number is at least the next number
--     +ᴸ-more, +ᴸ-assoc, zero-+ᴸ, +ᴸ-zero, +ᴸ-unlimited  sums grow with their parts; how they are grouped does not matter; 0 and unlimited in a sum
--     sum_under                          what stands under x + a stands, less x, under a
--     lesser_left, lesser_right, lesser_greatest         the lesser is the greatest that is at most both
--     lesser_number, number_lesser       with a number on either side it is a number
--     lesser_more, lesser_assoc, lesser_+ᴸ, lesser_unlimited   it grows with its parts; grouping; a sum with it; unlimited in it
-- Facts on the lesser go through the first three, never by cases on its numbers. Assumes nothing.
use mathlib.Core.Path.{◌≡◌, refl, sym, ap}
use mathlib.Core.Bool.{Bool, true, false, cond}
use lib.IntN.{ℤ, pos, ◌+ℤ◌, ◌-ℤ◌}
use lib.Signed.{◌≤ℤ◌, ◌<ℤ◌, le_z}
use Rattle.integers.proofs.Integer.{linear, sum, difference}
use Rattle.sets.specs.Limit.{Limit, number, unlimited, ◌≤ᴸ◌, numbers, under, ◌<ᴸ◌, less, finite, ◌+ᴸ◌, lesser}

-- ---- the order

pub ≤ᴸ-refl : (a : Limit) → a ≤ᴸ a
≤ᴸ-refl (number a) = numbers a a (omega linear)
≤ᴸ-refl unlimited = under unlimited

pub ≤ᴸ-of : {a b : Limit} → a ≡ b → a ≤ᴸ b
≤ᴸ-of {a} e = rw (← e) (≤ᴸ-refl a)

pub ≤ᴸ-trans : {a b c : Limit} → a ≤ᴸ b → b ≤ᴸ c → a ≤ᴸ c
≤ᴸ-trans (numbers a b h) (numbers b' c k) = numbers a c (omega linear)
≤ᴸ-trans (numbers a b h) (under _) = under (number a)
≤ᴸ-trans (under a) (under _) = under a

pub ≤ᴸ-antisym : {a b : Limit} → a ≤ᴸ b → b ≤ᴸ a → a ≡ b
≤ᴸ-antisym (numbers a b h) (numbers b' a' k) = ap number (omega linear)
≤ᴸ-antisym (under _) (under _) = refl

pub <ᴸ-≤ᴸ : {a b : Limit} → a <ᴸ b → a ≤ᴸ b
<ᴸ-≤ᴸ (less a b h) = numbers a b (omega linear)
<ᴸ-≤ᴸ (finite a) = under (number a)

pub ≤ᴸ-<ᴸ-trans : {a b c : Limit} → a ≤ᴸ b → b <ᴸ c → a <ᴸ c
≤ᴸ-<ᴸ-trans (numbers a b h) (less b' c k) = less a c (omega linear)
≤ᴸ-<ᴸ-trans (numbers a b h) (finite b') = finite a
≤ᴸ-<ᴸ-trans {a = a} {c = c} (under _) x4 = elim x4 [ ]

pub <ᴸ-≤ᴸ-trans : {a b c : Limit} → a <ᴸ b → b ≤ᴸ c → a <ᴸ c
<ᴸ-≤ᴸ-trans (less a b h) (numbers b' c k) = less a c (omega linear)
<ᴸ-≤ᴸ-trans (less a b h) (under _) = finite a
<ᴸ-≤ᴸ-trans (finite a) (under _) = finite a

pub <ᴸ-not-≤ᴸ : {a b : Limit} → a <ᴸ b → b ≤ᴸ a → ⊥
<ᴸ-not-≤ᴸ (less a b h) (numbers b' a' k) = omega linear
<ᴸ-not-≤ᴸ (finite a) x4 = elim x4 [ ]

pub data Compared (a b : Limit) : Type 0 where
  at_most : a ≤ᴸ b → Compared a b
  above : b <ᴸ a → Compared a b

pub compared : (a b : Limit) → Compared a b
compared (number a) (number b) = by (le_z a b) refl
  where
    by : (t : Bool) → le_z a b ≡ t → Compared (number a) (number b)
    by true e = at_most (numbers a b (omega linear))
    by false e = above (less b a (omega linear))
compared (number a) unlimited = at_most (under (number a))
compared unlimited (number b) = above (finite b)
compared unlimited unlimited = at_most (under unlimited)

pub number_≤ : {a b : ℤ} → number a ≤ᴸ number b → a ≤ℤ b
number_≤ (numbers a b h) = h

pub number_< : {a b : ℤ} → number a <ᴸ number b → a <ℤ b
number_< (less a b h) = h

pub not_number : {a : ℤ} → unlimited ≡ number a → ⊥
not_number {a} e = <ᴸ-not-≤ᴸ (finite a) (≤ᴸ-of e)

pub number_same : {a b : ℤ} → number a ≡ number b → a ≡ b
number_same {a} {b} e =
    let up : a ≤ℤ b = number_≤ (≤ᴸ-of e) in
    let down : b ≤ℤ a = number_≤ (≤ᴸ-of (sym e)) in
    omega linear

-- what is above a number is at least the next number
pub next : {a : ℤ} {b : Limit} → number a <ᴸ b → number (a +ℤ pos 1) ≤ᴸ b
next (less a b h) = numbers (a +ℤ pos 1) b (omega (linear, sum a (pos 1)))
next (finite a) = under (number (a +ℤ pos 1))

-- ---- the sum

pub +ᴸ-more : {a b c d : Limit} → a ≤ᴸ b → c ≤ᴸ d → (a +ᴸ c) ≤ᴸ (b +ᴸ d)
+ᴸ-more (numbers a b h) (numbers c d k) = numbers (a +ℤ c) (b +ℤ d) (omega (linear, sum a c, sum b d))
+ᴸ-more (numbers a b h) (under c) = under (number a +ᴸ c)
+ᴸ-more {c = c} (under a) k = under (a +ᴸ c)

pub +ᴸ-unlimited : (a : Limit) → a +ᴸ unlimited ≡ unlimited
+ᴸ-unlimited (number a) = refl
+ᴸ-unlimited unlimited = refl

pub +ᴸ-assoc : (a b c : Limit) → (a +ᴸ b) +ᴸ c ≡ a +ᴸ (b +ᴸ c)
+ᴸ-assoc (number a) (number b) (number c) = ap number (omega (linear, sum a b, sum b c, sum (a +ℤ b) c, sum a (b +ℤ c)))
+ᴸ-assoc (number a) (number b) unlimited = refl
+ᴸ-assoc (number a) unlimited c = refl
+ᴸ-assoc unlimited b c = refl

pub zero-+ᴸ : (a : Limit) → number (pos 0) +ᴸ a ≡ a
zero-+ᴸ (number a) = ap number (omega (linear, sum (pos 0) a))
zero-+ᴸ unlimited = refl

pub +ᴸ-zero : (a : Limit) → a +ᴸ number (pos 0) ≡ a
+ᴸ-zero (number a) = ap number (omega (linear, sum a (pos 0)))
+ᴸ-zero unlimited = refl

-- what stands under x + a stands, less x, under a
pub sum_under : (x z : ℤ) (a : Limit) → number z ≤ᴸ (number x +ᴸ a) → number (z -ℤ x) ≤ᴸ a
sum_under x z (number a) h = let k : z ≤ℤ (x +ℤ a) = number_≤ h in numbers (z -ℤ x) a (omega (linear, sum x a, difference z x))
sum_under x z unlimited h = under (number (z -ℤ x))

-- ---- the lesser

-- the number that a test picks, by what the test says
picked : (Q : ℤ → Type 0) (a b : ℤ) → (a ≤ℤ b → Q a) → (b <ℤ a → Q b) → Q (cond (le_z a b) a b)
picked Q a b first second = by (le_z a b) refl
  where
    by : (t : Bool) → le_z a b ≡ t → Q (cond t a b)
    by true e = first (omega linear)
    by false e = second (omega linear)

pub lesser_left : (a b : Limit) → lesser a b ≤ᴸ a
lesser_left (number a) (number b) = picked (λ z. number z ≤ᴸ number a) a b (λ h. ≤ᴸ-refl (number a)) (λ h. numbers b a (omega linear))
lesser_left (number a) unlimited = ≤ᴸ-refl (number a)
lesser_left unlimited b = under b

pub lesser_right : (a b : Limit) → lesser a b ≤ᴸ b
lesser_right (number a) (number b) = picked (λ z. number z ≤ᴸ number b) a b (λ h. numbers a b h) (λ h. ≤ᴸ-refl (number b))
lesser_right (number a) unlimited = under (number a)
lesser_right unlimited b = ≤ᴸ-refl b

pub lesser_greatest : {a b c : Limit} → c ≤ᴸ a → c ≤ᴸ b → c ≤ᴸ lesser a b
lesser_greatest (numbers c a h) (numbers c' b k) = picked (λ z. number c ≤ᴸ number z) a b (λ _. numbers c a h) (λ _. numbers c b k)
lesser_greatest (numbers c a h) (under _) = numbers c a h
lesser_greatest (under c) k = k

pub lesser_more : {a b c d : Limit} → a ≤ᴸ b → c ≤ᴸ d → lesser a c ≤ᴸ lesser b d
lesser_more {a} {c = c} h k = lesser_greatest (≤ᴸ-trans (lesser_left a c) h) (≤ᴸ-trans (lesser_right a c) k)

pub number_lesser : (a : ℤ) (b : Limit) → (z : ℤ) × (lesser (number a) b ≡ number z)
number_lesser a (number b) = (cond (le_z a b) a b, refl)
number_lesser a unlimited = (a, refl)

pub lesser_number : (a : Limit) (b : ℤ) → (z : ℤ) × (lesser a (number b) ≡ number z)
lesser_number (number a) b = (cond (le_z a b) a b, refl)
lesser_number unlimited b = (b, refl)

pub lesser_unlimited : (a : Limit) → lesser a unlimited ≡ a
lesser_unlimited (number a) = refl
lesser_unlimited unlimited = refl

pub lesser_assoc : (a b c : Limit) → lesser (lesser a b) c ≡ lesser a (lesser b c)
lesser_assoc a b c =
    ≤ᴸ-antisym
    (lesser_greatest (≤ᴸ-trans (lesser_left (lesser a b) c) (lesser_left a b)) (lesser_more (lesser_right a b) (≤ᴸ-refl c)))
    (lesser_greatest (lesser_more (≤ᴸ-refl a) (lesser_left b c)) (≤ᴸ-trans (lesser_right a (lesser b c)) (lesser_right b c)))

pub lesser_+ᴸ : (a b c : Limit) → lesser a b +ᴸ c ≡ lesser (a +ᴸ c) (b +ᴸ c)
lesser_+ᴸ a b c =
    ≤ᴸ-antisym (lesser_greatest (+ᴸ-more (lesser_left a b) (≤ᴸ-refl c)) (+ᴸ-more (lesser_right a b) (≤ᴸ-refl c))) (by (compared a b))
  where
    by : Compared a b → lesser (a +ᴸ c) (b +ᴸ c) ≤ᴸ (lesser a b +ᴸ c)
    by (at_most h) = ≤ᴸ-trans (lesser_left (a +ᴸ c) (b +ᴸ c)) (+ᴸ-more (lesser_greatest (≤ᴸ-refl a) h) (≤ᴸ-refl c))
    by (above h) = ≤ᴸ-trans (lesser_right (a +ᴸ c) (b +ᴸ c)) (+ᴸ-more (lesser_greatest (<ᴸ-≤ᴸ h) (≤ᴸ-refl b)) (≤ᴸ-refl c))
