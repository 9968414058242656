-- Laws of the value of a set as the code finds it, pair by pair.
--     lesser_is                     the lesser of two numbers
--     sum_valued                    the value of one pair whose w is unlimited
--     greater_is                    the greater of what was reached and a number
--     valued_more                   the value of one pair more
--     first_places                  the places that are read are those that the set counts
--     place_more, place_outside, place_end     the value of one pair more along a list, and at its end
-- Assumes nothing.
use mathlib.Core.List.Memᴰ
use mathlib.Core.List.{map-append}
use native.Mathlib.Numerals.{add-one}
use lib.Seq.{take-suc, take_all}
use Rattle.std.specs.Ordering.{ord_max, MatchOrdering}
use Rattle.std.specs.Option.{option_cmp}
use Rattle.std.specs.declared.cmp.Ordering.{Ordering}
use Rattle.std.specs.declared.cmp.Ordering.TheVariants.{Less, Equal, Greater}
use Rattle.std.proofs.lemmas.Cmp.{int_ranked}
use Rattle.std.proofs.lemmas.List.{take_min}
use Rattle.std.proofs.Common.{List, [], ◌∷◌, ◌++◌, map, take, length, get_or, ℕ, ◌+◌, ◌<◌, ◌≤◌, ◌<ℤ◌, ◌⊎◌, inl, inr, Option, Some, None, is_lt, int_cmp, min, ◌≡◌, Bool, true, false, cond, refl, sym, ap, ◌∙◌, subst, ℤ, int_lt, Result, Ok, Err, IsErr}
use Rattle.std.specs.Int.{int_min}
use lib.Signed.{le_z}
use Rattle.integers.proofs.Integer.{linear, max_ℤ}
use Rattle.integers.specs.Within.{Within}
use Rattle.sets.specs.Limit.{number, lesser}
use Rattle.sets.specs.Pair.{Pair}
use Rattle.sets.specs.Set.{◌∈◌}
use Rattle.sets.specs.Held.{limit_of, pair_of}
use Rattle.sets.specs.Promise.{Summable, sum_within, cap_alone, Valued}
use Rattle.sets.specs.Parts.{NumbersSummed, PairValued}
use Rattle.sets.specs.declared.Limit.TheVariants.{Number, Unlimited}
use Rattle.sets.specs.declared.Outside.{Outside}
use Rattle.sets.specs.declared.Pair.{Pair as HeldPair}
use Rattle.sets.proofs.Members.{member_at, member_map}
use Rattle.sets.proofs.Sets.{append_joins}
use Rattle.sets.proofs.Values.{one_value, joined_value}
use Rattle.sets.proofs.Limits.{not_number, number_same}

pub lesser_is : (a b : ℤ) → lesser (number a) (number b) ≡ number (int_min a b)
lesser_is a b = ap number (by (le_z a b) (int_lt b a) refl refl)
  where
    by : (t u : Bool) → le_z a b ≡ t → int_lt b a ≡ u → cond t a b ≡ cond u b a
    by true false e h = refl
    by false true e h = refl
    by true true e h = absurd (omega linear)
    by false false e h = absurd (omega linear)

-- where w is unlimited, the sum is the value
pub sum_valued :
    (p : HeldPair) (x l : ℤ) → p.l ≡ Number l → p.w ≡ Unlimited → (r : Result ℤ Outside) → NumbersSummed x l r
    → PairValued (pair_of p) x r
sum_valued p x l e f (Ok y) (same, x_near, l_near) = (rw (e, f, same) refl, sum_within l (ap limit_of e) x_near l_near)
sum_valued p x l e f (Err _) far = by
  where
    by : Summable x (pair_of p) → ⊥
    by (sum_within a is x_near l_near) = far x_near (subst (Within 4000000000000000000) (number_same (sym is ∙ ap limit_of e)) l_near)
    by (cap_alone b is _) = not_number (sym is ∙ ap limit_of e)

-- ---- a set, pair by pair

-- the greater of what was reached, if anything, and y
abbrev greater : Option ℤ → ℤ → Option ℤ
greater reached y = ord_max (option_cmp int_cmp) reached (Some y)

greater_is : (z y : ℤ) → greater (Some z) y ≡ Some (max_ℤ z y)
greater_is z y = by (int_cmp y z) (le_z z y) (int_ranked y z (int_cmp y z) refl) refl
  where
    by : (o : Ordering) (t : Bool) → MatchOrdering o (y <ℤ z) (y ≡ z) (z <ℤ y) → le_z z y ≡ t → cond (is_lt o) (Some z) (Some y) ≡ Some (cond t y z)
    by Less true m e = absurd (omega linear)
    by Less false m e = refl
    by Equal true m e = refl
    by Equal false m e = absurd (omega linear)
    by Greater true m e = refl
    by Greater false m e = absurd (omega linear)

module _ (x : ℤ) where
  summable_more : (T : List Pair) (p : Pair) → ((q : Pair) → q ∈ T → Summable x q) → Summable x p → (q : Pair) → q ∈ (T ++ (p ∷ [])) → Summable x q
  summable_more T p each new q m = by (Memᴰ.append_cases T m)
    where
      by : (q ∈ T) ⊎ (q ∈ (p ∷ [])) → Summable x q
      by (inl k) = each q k
      by (inr k) = subst (Summable x) (sym (Memᴰ.eq_of_singleton k)) new

  valued_more :
      (T : List Pair) (p : Pair) (reached : Option ℤ) (y : ℤ) → Valued T x (Ok reached) → PairValued p x (Ok y)
      → Valued (T ++ (p ∷ [])) x (Ok (greater reached y))
  valued_more T p (Some z) y (v, each) (is, new) =
      rw (greater_is z y) (joined_value (append_joins T (p ∷ [])) v (one_value x y is), summable_more T p each new)
  valued_more T p None y none (is, new) = rw none (one_value x y is, summable_more [] p (λ q m. absurd (Memᴰ.not-nil m)) new)

pub first_places : (pairs : List HeldPair) (count n : ℕ) → length pairs ≡ 64 → n ≡ min count 64 → take n pairs ≡ take count pairs
first_places pairs count n long is = rw is (subst (λ (room : ℕ). take (min count room) pairs ≡ take count pairs) long (take_min count pairs))

pub place_more :
    (pairs : List HeldPair) (d : HeldPair) (x : ℤ) (i : ℕ) → i < length pairs → (r : Result ℤ Outside) → PairValued (pair_of (get_or pairs i d)) x r
    → (reached next : Option ℤ) (y : ℤ) → Valued (map pair_of (take i pairs)) x (Ok reached) → r ≡ Ok y → next ≡ greater reached y
    → Valued (map pair_of (take (i + 1) pairs)) x (Ok next)
place_more pairs d x i within r valued reached next y before e is =
    let more : map pair_of (take (i + 1) pairs) ≡ map pair_of (take i pairs) ++ (pair_of (get_or pairs i d) ∷ []) =
    rw (add-one, take-suc pairs i d within, map-append pair_of) refl in
    rw is
    (subst (λ (T : List Pair). Valued T x (Ok (greater reached y))) (sym more)
    (valued_more x (map pair_of (take i pairs)) (pair_of (get_or pairs i d)) reached y before (rw e at valued)))

-- the slice that was read holds the pairs that the set counts, and x was read back from its bits
pub place_outside :
    (read pairs : List HeldPair) (d : HeldPair) (bits x : ℤ) (i : ℕ) → read ≡ pairs → bits ≡ x → i < length read
    → (r : Result ℤ Outside) → PairValued (pair_of (get_or read i d)) bits r → (e : Outside) → r ≡ Err e
    → (s : Result (Option ℤ) Outside) → IsErr s → Valued (map pair_of pairs) x s
place_outside read pairs d bits x i same back within r valued e is (Ok reached) h = cc
place_outside read pairs d bits x i same back within r valued e is (Err e') h =
    let no-sum : Summable bits (pair_of (get_or read i d)) → ⊥ = rw is at valued in
    rw (← same, ← back) (pair_of (get_or read i d), member_map pair_of (member_at read d i within), no-sum)

pub place_end :
    (read pairs : List HeldPair) (bits x : ℤ) (i : ℕ) (reached : Option ℤ) → read ≡ pairs → bits ≡ x → length read ≤ i
    → Valued (map pair_of (take i read)) bits (Ok reached) → Valued (map pair_of pairs) x (Ok reached)
place_end read pairs bits x i reached same back l h =
    subst (λ (T : List HeldPair). Valued (map pair_of T) x (Ok reached)) (take_all i read l ∙ same)
    (subst (λ (z : ℤ). Valued (map pair_of (take i read)) z (Ok reached)) back h)
