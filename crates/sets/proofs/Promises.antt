-- The promises allow one answer, and what an answer tells of a family that the candidates cover.
--     limit_made_unique    a number and a flag stand for one limit, and it is held in one way
--     held_unique          one set of pairs is held in one way
--     composed_to_unique   two pairs composed have one answer
--     valued_unique        a set's value at a number has one answer
--     pruned_to_unique     so has a pruning
--     pruning_closes       a pruning that holds a set holds the fully pruned set of every family that the candidates cover
--     pruning_more         one that says that there are more does so exactly where the fully pruned set has more pairs than there is room
-- Assumes nothing.
use mathlib.Core.List.Memᴰ
use native.Mathlib.Decide.{dec_le}
use Rattle.std.proofs.Common.{◌≡◌, refl, sym, ap, ◌∙◌, subst, Bool, List, [], ℕ, ◌<◌, ◌≤◌, ℤ, length, Option, Some, None, Result, Ok, Err, arith}
use Rattle.sets.specs.Pair.{Pair}
use Rattle.sets.specs.Set.{◌∈◌}
use Rattle.sets.specs.Family.{Family, Covers, Closes}
use Rattle.sets.specs.Held.{limit, limit_of, held_limit, held, pairs_of}
use Rattle.sets.specs.Promise.{ComposedTo, Valued, PrunedTo}
use Rattle.sets.specs.declared.Limit.{Limit as HeldLimit}
use Rattle.sets.specs.declared.MorePairs.{MorePairs}
use Rattle.sets.specs.declared.Outside.{Outside}
use Rattle.sets.specs.declared.Pair.{Pair as HeldPair}
use Rattle.sets.specs.declared.PrunedSet.{PrunedSet}
use Rattle.sets.proofs.Values.{set_value_unique}
use Rattle.sets.proofs.Covers.{prunes_unique, prunes_closes}
use Rattle.sets.proofs.Holding.{limit_held, pairs_back}

pub limit_made_unique : (a : ℤ) (f : Bool) {r s : HeldLimit} → limit_of r ≡ limit a f → limit_of s ≡ limit a f → r ≡ s
limit_made_unique a f {r} {s} h k = sym (limit_held r) ∙ ap held_limit (h ∙ sym k) ∙ limit_held s

pub held_unique : (T : List Pair) {r s : PrunedSet} → r ≡ held T → s ≡ held T → r ≡ s
held_unique T h k = h ∙ sym k

pub composed_to_unique : (p q : Pair) (r s : Result HeldPair Outside) → ComposedTo p q r → ComposedTo p q s → r ≡ s
composed_to_unique p q (Ok e) (Ok f) (h, _) (k, _) = ap Ok (h ∙ sym k)
composed_to_unique p q (Ok e) (Err _) (_, fine) far = absurd (far fine)
composed_to_unique p q (Err _) (Ok f) far (_, fine) = absurd (far fine)
composed_to_unique p q (Err _) (Err _) _ _ = refl

-- ---- the value of a set

no_member : {T : List Pair} {p : Pair} → T ≡ [] → p ∈ T → ⊥
no_member {p = p} e m = Memᴰ.not-nil (subst (λ (X : List Pair). p ∈ X) e m)

pub valued_unique : (T : List Pair) (x : ℤ) (r s : Result (Option ℤ) Outside) → Valued T x r → Valued T x s → r ≡ s
valued_unique T x (Ok (Some y)) (Ok (Some z)) (v, _) (w, _) = ap (λ (u : ℤ). Ok (Some u)) (set_value_unique v w)
valued_unique T x (Ok (Some y)) (Ok None) (v, _) none = absurd (no_member none v.reached.1)
valued_unique T x (Ok (Some y)) (Err _) (_, each) (p, m, no-sum) = absurd (no-sum (each p m))
valued_unique T x (Ok None) (Ok (Some z)) none (w, _) = absurd (no_member none w.reached.1)
valued_unique T x (Ok None) (Ok None) none none' = refl
valued_unique T x (Ok None) (Err _) none (p, m, _) = absurd (no_member none m)
valued_unique T x (Err _) (Ok (Some z)) (p, m, no-sum) (_, each) = absurd (no-sum (each p m))
valued_unique T x (Err _) (Ok None) (p, m, _) none = absurd (no_member none m)
valued_unique T x (Err _) (Err _) _ _ = refl

-- ---- a pruning

pub pruned_to_unique : {C : List Pair} {room : ℕ} {r s : Result PrunedSet MorePairs} → PrunedTo C room r → PrunedTo C room s → r ≡ s
pruned_to_unique {room = room} {r = r} {s = s} h k = by (dec_le (length h.left) room)
  where
    same : h.left ≡ k.left
    same = prunes_unique h.prunes k.prunes

    by : Dec (length h.left ≤ room) → r ≡ s
    by (yes l) = h.whole l ∙ ap (λ (T : List Pair). Ok (held T)) same ∙ sym (k.whole (subst (λ (T : List Pair). length T ≤ room) same l))
    by (no l) =
        h.over (let m : room < length h.left = omega arith in m)
        ∙ sym (k.over (subst (λ (T : List Pair). room < length T) same (let m : room < length h.left = omega arith in m)))

module _ {C : List Pair} {P : Family} {room : ℕ} (covers : Covers C P) where
  pub pruning_closes : (s : PrunedSet) → PrunedTo C room (Ok s) → Closes (pairs_of s) P × (length (pairs_of s) ≤ room)
  pruning_closes s h = by (dec_le (length h.left) room)
    where
      by : Dec (length h.left ≤ room) → Closes (pairs_of s) P × (length (pairs_of s) ≤ room)
      by (yes l) =
          let same : s ≡ held h.left = cc (h.whole l) in
          let is : pairs_of s ≡ h.left = ap pairs_of same ∙ pairs_back h.left in
          rw is (prunes_closes covers h.prunes, l)
      by (no l) = let over = h.over (let m : room < length h.left = omega arith in m) in cc

  pub pruning_more : (e : MorePairs) → PrunedTo C room (Err e) → (T : List Pair) × Closes T P × (room < length T)
  pruning_more e h = by (dec_le (length h.left) room)
    where
      by : Dec (length h.left ≤ room) → (T : List Pair) × Closes T P × (room < length T)
      by (yes l) = let whole = h.whole l in cc
      by (no l) = (h.left, prunes_closes covers h.prunes, let m : room < length h.left = omega arith in m)
