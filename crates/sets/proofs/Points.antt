-- One point decides: domination is read off the values, and a function has one pruned set.
--     BelowAt T p x        some pair of T is at least as high as p at x
--     dominated_below      what a set dominates is below it everywhere
--     below_dominated      a proper pair that is everywhere below some pair of a set is dominated by one pair of it
--     function_unique      two pruned sets of proper pairs with the same values are the same list
-- The argument for below_dominated, of the pair (l, w): one single x decides. Where both are numbers, x is w − l: the value there is w, so the pair q of the
-- set that is above has w at least w, and x + l of q at least w, which is x + l. Where w is unlimited, x is such that x + l is beyond every number w of the set:
-- then w of q is unlimited. Where l is unlimited, x is such that w − x is beyond every number l of the set: then l of q is unlimited. Assumes nothing.
use mathlib.Core.Path.{◌≡◌, sym}
use mathlib.Core.List.Memᴰ
use mathlib.Core.List.{List, [], ◌∷◌}
use lib.IntN.{ℤ, ◌+ℤ◌, ◌-ℤ◌}
use Rattle.integers.proofs.Integer.{linear, sum, difference}
use Rattle.sets.specs.Limit.{Limit, number, unlimited, ◌≤ᴸ◌, numbers, ◌+ᴸ◌}
use Rattle.sets.specs.Pair.{Pair, pair, Proper, l_number, w_number, value}
use Rattle.sets.specs.Set.{◌∈◌, SetValue, Pruned, Dominated}
use Rattle.sets.proofs.Limits.{≤ᴸ-refl, ≤ᴸ-of, ≤ᴸ-trans, not_number, sum_under, lesser_left, lesser_right, lesser_greatest}
use Rattle.sets.proofs.Pairs.{value_more}
use Rattle.sets.proofs.Covers.{Beyond, beyond, mutual_same}
use Rattle.sets.proofs.Values.{set_value_exists}

-- some pair of T is at least as high as p at x
pub record BelowAt (T : List Pair) (p : Pair) (x : ℤ) : Type 0 where
  pub by : Pair
  pub among : by ∈ T
  pub high : value p (number x) ≤ᴸ value by (number x)

pub dominated_below : {T : List Pair} {p : Pair} → Dominated T p → (x : ℤ) → BelowAt T p x
dominated_below d x = record { by = d.by; among = d.among; high = value_more d.dominates (≤ᴸ-refl (number x)) }

-- a number z that p reaches at x is at most w of the pair above, and z − x at most its l
at_point :
    {T : List Pair} {p : Pair} (x z : ℤ) (b : BelowAt T p x) → number z ≤ᴸ value p (number x) → (number (z -ℤ x) ≤ᴸ b.by.l) × (number z ≤ᴸ b.by.w)
at_point x z b k =
    let q : Pair = b.by in
    let up : number z ≤ᴸ value q (number x) = ≤ᴸ-trans k b.high in
    (sum_under x z q.l (≤ᴸ-trans up (lesser_left (number x +ᴸ q.l) q.w)), ≤ᴸ-trans up (lesser_right (number x +ᴸ q.l) q.w))

module _ (T : List Pair) where
  both_numbers : (a b : ℤ) → ((x : ℤ) → BelowAt T (pair (number a) (number b)) x) → Dominated T (pair (number a) (number b))
  both_numbers a b h =
      let x : ℤ = b -ℤ a in
      let reached : number b ≤ᴸ value (pair (number a) (number b)) (number x) =
      lesser_greatest (numbers b (x +ℤ a) (omega (linear, difference b a, sum x a))) (≤ᴸ-refl (number b)) in
      let (l-up, w-up) = at_point x b (h x) reached in
      record {
        by = (h x).by;
        among = (h x).among;
        dominates = record { l_below = ≤ᴸ-trans (numbers a (b -ℤ x) (omega (linear, difference b a, difference b x))) l-up; w_below = w-up };
      }

  unlimited_w : (a : ℤ) → ((x : ℤ) → BelowAt T (pair (number a) unlimited) x) → Dominated T (pair (number a) unlimited)
  unlimited_w a h =
      let far : Beyond (λ p. p.w) T = beyond (λ p. p.w) T in
      let z : ℤ = far.bar in
      let x : ℤ = z -ℤ a in
      let reached : number z ≤ᴸ value (pair (number a) unlimited) (number x) = numbers z (x +ℤ a) (omega (linear, difference z a, sum x a)) in
      let (l-up, w-up) = at_point x z (h x) reached in
      record {
        by = (h x).by;
        among = (h x).among;
        dominates =
            record {
              l_below = ≤ᴸ-trans (numbers a (z -ℤ x) (omega (linear, difference z a, difference z x))) l-up;
              w_below = ≤ᴸ-of (sym (far.passed (h x).by (h x).among w-up));
            };
      }

  unlimited_l : (b : ℤ) → ((x : ℤ) → BelowAt T (pair unlimited (number b)) x) → Dominated T (pair unlimited (number b))
  unlimited_l b h =
      let far : Beyond (λ p. p.l) T = beyond (λ p. p.l) T in
      let x : ℤ = b -ℤ far.bar in
      let (l-up, w-up) = at_point x b (h x) (≤ᴸ-refl (number b)) in
      let up : number far.bar ≤ᴸ (h x).by.l = ≤ᴸ-trans (numbers far.bar (b -ℤ x) (omega (linear, difference b far.bar, difference b x))) l-up in
      record {
        by = (h x).by;
        among = (h x).among;
        dominates = record { l_below = ≤ᴸ-of (sym (far.passed (h x).by (h x).among up)); w_below = w-up };
      }

  by_cases : (a b : Limit) → Proper (pair a b) → ((x : ℤ) → BelowAt T (pair a b) x) → Dominated T (pair a b)
  by_cases (number a) (number b) p h = both_numbers a b h
  by_cases (number a) unlimited p h = unlimited_w a h
  by_cases unlimited (number b) p h = unlimited_l b h
  by_cases unlimited unlimited (l_number a e) h = absurd (not_number e)
  by_cases unlimited unlimited (w_number b e) h = absurd (not_number e)

  pub below_dominated : (p : Pair) → Proper p → ((x : ℤ) → BelowAt T p x) → Dominated T p
  below_dominated p = by_cases p.l p.w

-- every pair of S is everywhere below T, which has the values of S
below :
    (S : List Pair) {T : List Pair} → ((q : Pair) → q ∈ S → Proper q) → ((x y : ℤ) → SetValue S x y → SetValue T x y)
    → (p : Pair) → p ∈ S → (x : ℤ) → BelowAt T p x
below [] proper same p m x = absurd (Memᴰ.not-nil m)
below (r ∷ S) proper same p m x =
    let (y, v) = set_value_exists r S x proper in
    let (q, k, e) = (same x y v).reached in
    record { by = q; among = k; high = ≤ᴸ-trans (v.bound p m) (≤ᴸ-of (sym e)) }

module _ {S T : List Pair} (proper : (q : Pair) → q ∈ S → Proper q) (proper' : (q : Pair) → q ∈ T → Proper q) where
  pub function_unique : Pruned S → Pruned T → ((x y : ℤ) → SetValue S x y → SetValue T x y) → ((x y : ℤ) → SetValue T x y → SetValue S x y) → S ≡ T
  function_unique h k on back =
      mutual_same h k
      (λ p m. below_dominated T p (proper p m) (below S proper on p m))
      (λ p m. below_dominated S p (proper' p m) (below T proper' back p m))
