-- The selection of the next pair: by a filter, and a maximum in the order of limits as the code derives it.
--     limits_ranked, below_is     what the answer of `cmp` and of `<` says of the limits that two of the code's limits stand for
--     left_test, left_test_is     a test that says whether a pair is left
--     run_has, run_each           what holds of some item or of each item that an iterator gave, of its list of items
--     prior_by_key                a pair whose key (w, l) is not above that of m comes after m
--     chosen_is                   of the candidates that are left one that has none with a greater key is the one that is selected next
-- Assumes nothing.
use mathlib.Core.List.Memᴰ
use mathlib.Core.List.{Memᴰ}
use Rattle.std.proofs.Common.{◌≡◌, Bool, true, false, Option, Some, None, IfSome, IsSomeAnd, List, filter, get_or, is_gt, MatchOption, option_map, IsTrue, ◌↔◌, refl, sym, ap, ◌∙◌, subst, arith, ◌<ℤ◌, is_lt, int_cmp}
use Rattle.std.specs.Iterator.Runs.{Run, AnyItem, AllItems}
use Rattle.std.proofs.lemmas.Cmp.{int_ranked}
use Rattle.std.specs.Ordering.{partial_lt, ordering_then, MatchOrdering}
use Rattle.std.specs.declared.cmp.Ordering.{Ordering}
use Rattle.std.specs.declared.cmp.Ordering.TheVariants.{Less, Equal, Greater}
use Rattle.sets.specs.Limit.{Limit, number, ◌≤ᴸ◌, ◌<ᴸ◌, less, finite}
use Rattle.sets.specs.Held.{limit_of, pair_of, candidates_of}
use Rattle.sets.specs.Pair.{Pair}
use Rattle.sets.specs.Set.{◌∈◌}
use Rattle.sets.specs.Parts.{Left, Prior, Chosen}
use Rattle.sets.specs.contracts.LimitOrd.TheImpl.{cmp-value}
use Rattle.sets.specs.contracts.LimitPartialOrd.TheImpl.{partial_cmp-value}
use Rattle.sets.specs.declared.Limit.{Limit as HeldLimit}
use Rattle.sets.specs.declared.Limit.TheVariants.{Number, Unlimited}
use Rattle.sets.specs.declared.Pair.{Pair as HeldPair}
use Rattle.sets.proofs.Members.{member_at, member_in, member_map, filter_has, filter_from}
use Rattle.sets.proofs.Limits.{≤ᴸ-of, <ᴸ-≤ᴸ, <ᴸ-not-≤ᴸ}

abbrev Ranked : Ordering → Limit → Limit → Type 0
Ranked o a b = MatchOrdering o (a <ᴸ b) (a ≡ b) (b <ᴸ a)

limits_ranked : (a b : HeldLimit) → Ranked (cmp-value.it a b) (limit_of a) (limit_of b)
limits_ranked (Number a) (Number b) = by (int_cmp a b) (int_ranked a b (int_cmp a b) refl)
  where
    by : (o : Ordering) → MatchOrdering o (a <ℤ b) (a ≡ b) (b <ℤ a) → Ranked o (number a) (number b)
    by Less m = less a b m
    by Equal m = ap number m
    by Greater m = less b a m
limits_ranked (Number a) Unlimited = finite a
limits_ranked Unlimited (Number b) = finite b
limits_ranked Unlimited Unlimited = refl

lt_by_cmp : (a b : HeldLimit) → partial_lt partial_cmp-value.it a b ≡ is_lt (cmp-value.it a b)
lt_by_cmp (Number a) (Number b) = refl
lt_by_cmp (Number a) Unlimited = refl
lt_by_cmp Unlimited (Number b) = refl
lt_by_cmp Unlimited Unlimited = refl

pub below_is : (a b : HeldLimit) → IsTrue (partial_lt partial_cmp-value.it a b) ↔ limit_of a <ᴸ limit_of b
below_is a b = rw lt_by_cmp (by (cmp-value.it a b) (limits_ranked a b))
  where
    by : (o : Ordering) → Ranked o (limit_of a) (limit_of b) → IsTrue (is_lt o) ↔ limit_of a <ᴸ limit_of b
    by Less m = (λ _. m, λ _. refl)
    by Equal m = (λ h. cc, λ h. absurd (<ᴸ-not-≤ᴸ h (≤ᴸ-of (sym m))))
    by Greater m = (λ h. cc, λ h. absurd (<ᴸ-not-≤ᴸ h (<ᴸ-≤ᴸ m)))

-- ---- what is left

abbrev pub left_test : Option HeldPair → HeldPair → Bool
left_test None p = true
left_test (Some q) p = partial_lt partial_cmp-value.it q.l p.l

left_is : (last : Option HeldPair) (p : HeldPair) → IsTrue (left_test last p) ↔ Left last (pair_of p)
left_is None p = (λ _. tt, λ _. refl)
left_is (Some q) p = below_is q.l p.l

same_test : (b c : Bool) {P : Type 0} → IsTrue b ↔ P → IsTrue c ↔ P → b ≡ c
same_test true true h k = refl
same_test true false h k = sym (k.1 (h.0 refl))
same_test false true h k = h.1 (k.0 refl)
same_test false false h k = refl

pub left_test_is : (last : Option HeldPair) (p : HeldPair) (b : Bool) → IsTrue b ↔ Left last (pair_of p) → b ≡ left_test last p
left_test_is last p b h = same_test b (left_test last p) h (left_is last p)

-- ---- what a run gave

module _ {S A : Type 0} {steps : S → Option A → S → Type 0} (p : Run steps) where
  of_any : (o : Option A) (y m : A) → option_map (λ x. x) o ≡ Some y → IsSomeAnd o (λ x. x ≡ m) → y ≡ m
  of_any (Some x) y m e h = let same : x ≡ y = cc in sym same ∙ h
  of_any None y m e h = cc

  run_has : (m : A) → AnyItem p (λ x. x ≡ m) → Memᴰ m p.items
  run_has m (k, l, h) =
      let is : get_or p.items k m ≡ m = of_any (p.at k) (get_or p.items k m) m (p.reads k m l) h in
      Memᴰ.cast (sym is) (member_at p.items m k (omega (arith, p.long)))

  of_all : (o : Option A) (y : A) (P : A → Type 0) → option_map (λ x. x) o ≡ Some y → IfSome o P → P y
  of_all (Some x) y P e h = let same : x ≡ y = cc in subst P same h
  of_all None y P e h = cc

  run_each : (P : A → Type 0) → AllItems p P → (m : A) → Memᴰ m p.items → P m
  run_each P all m n =
      let (k, l, is) = member_in p.items m m n in
      subst P (sym is) (of_all (p.at k) (get_or p.items k m) P (p.reads k m (omega (arith, p.long))) (all k))

-- ---- the greatest of a run by its key

pub if_each : {A : Type 0} {P Q : A → Type 0} (o : Option A) → ((x : A) → P x → Q x) → IfSome o P → IfSome o Q
if_each (Some x) on h = on x h
if_each None on h = h

pub prior_by_key : (m x : HeldPair) → is_gt (ordering_then (cmp-value.it x.w m.w) (cmp-value.it x.l m.l)) ≡ false → Prior (pair_of m) (pair_of x)
prior_by_key m x = by (cmp-value.it x.w m.w) (limits_ranked x.w m.w)
  where
    on : (o : Ordering) → Ranked o (limit_of x.l) (limit_of m.l) → is_gt o ≡ false → limit_of x.l ≤ᴸ limit_of m.l
    on Less r e = <ᴸ-≤ᴸ r
    on Equal r e = ≤ᴸ-of r
    on Greater r e = cc

    by : (o : Ordering) → Ranked o (limit_of x.w) (limit_of m.w) → is_gt (ordering_then o (cmp-value.it x.l m.l)) ≡ false → Prior (pair_of m) (pair_of x)
    by Less r e = record { higher = <ᴸ-≤ᴸ r; longer = λ h. absurd (<ᴸ-not-≤ᴸ r h) }
    by Equal r e = record { higher = ≤ᴸ-of r; longer = λ h. on (cmp-value.it x.l m.l) (limits_ranked x.l m.l) e }
    by Greater r e = cc

-- ---- the selection

module _ {S : Type 0} {steps : S → Option HeldPair → S → Type 0} (p : Run steps) (es : List HeldPair) (last : Option HeldPair) (is : p.items ≡ filter (left_test last) es) where
  stands : (x : Pair) → x ∈ candidates_of es → Left last x → (e : HeldPair) × Memᴰ e p.items × (x ≡ pair_of e)
  stands x m left =
      let (e, n, same) = Memᴰ.of_map pair_of es m in
      let kept : Memᴰ e (filter (left_test last) es) = filter_has (left_test last) es e n ((left_is last e).1 (subst (Left last) (sym same) left)) in
      (e, subst (λ (xs : List HeldPair). Memᴰ e xs) (sym is) kept, sym same)

  pub chosen_is : {N : HeldPair → Type 0} (r : Option HeldPair) → MatchOption r (p.len ≡ 0) (λ m. AnyItem p (λ x. x ≡ m) × N m)
      → ((m : HeldPair) → N m → AllItems p (λ x. Prior (pair_of m) (pair_of x))) → Chosen (candidates_of es) last r
  chosen_is None empty on = λ x m left. let (e, n, same) = stands x m left in let (k, l, at) = member_in p.items e e n in omega (arith, p.long)
  chosen_is (Some m) (any, none) on =
      let (n, left) = filter_from (left_test last) es m (subst (λ (xs : List HeldPair). Memᴰ m xs) is (run_has p m any)) in (
        member_map pair_of n,
        (left_is last m).0 left,
        λ x k l. let (e, j, same) = stands x k l in subst (Prior (pair_of m)) (sym same) (run_each p (λ y. Prior (pair_of m) (pair_of y)) (on m none) e j),
      )
