-- Going through the events of an order, from the last place to the first: what holds of the events passed.
--     at_rank       the event at place k is the one of rank k
--     other_rank    an event of another rank is another event
--     back_more     once the event at place k has had its turn, Q' holds of every event of rank k or more
--     back_all      at the end it holds of every event
--     Begins xs order             xs is the part of the order that is left
--     begins_take, begins_back    the first n places at the start; after the last of them, the others are left
-- Assumes nothing.
use mathlib.Core.Path.{◌≡◌, sym, ap, subst, ◌∙◌}
use mathlib.Core.List.{List, [], ◌∷◌, ◌++◌}
use Prim.Native.Nat.{ℕ, ◌+◌, ◌-◌, ◌<◌, ◌≤◌, zero-le}
use native.Mathlib.Decide.{dec_lt}
use native.Mathlib.Omega.{arith}
use lib.ListN.{length, get_or, take, get_or-append}
use Rattle.std.proofs.lemmas.List.{length_push, get_or_push, length-take-le, get_or-take}
use Rattle.analysis.specs.Parts.Order.{Order}

module _ (n : ℕ) (ss ts order : List ℕ) (rank : ℕ → ℕ) (o : Order n ss ts order rank) where
  -- the event at place k is the one of rank k
  at_rank : (k w : ℕ) → w < n → rank w ≡ k → get_or order k 0 ≡ w
  at_rank k w l e = subst (λ (x : ℕ). get_or order x 0 ≡ w) e (o.order_rank w l)

  -- an event of another rank is another event
  other_rank : (k w : ℕ) → k < n → (rank w ≡ k → ⊥) → w ≡ get_or order k 0 → ⊥
  other_rank k w l differ e = differ (ap rank e ∙ o.rank_order k l)

  pub back_more :
      (Q Q' : ℕ → Type 0) (k : ℕ) → Q' (get_or order k 0) →
      k < n →
      ((w : ℕ) → w < n → k + 1 ≤ rank w → (w ≡ get_or order k 0 → ⊥) → Q w → Q' w) →
      ((w : ℕ) → w < n → k + 1 ≤ rank w → Q w) →
      (w : ℕ) → w < n → k ≤ rank w → Q' w
  back_more Q Q' k here below kept after w l h = by (dec_lt k (rank w))
    where
      by : Dec (k < rank w) → Q' w
      by (yes a) =
          let past : k + 1 ≤ rank w = omega arith in
          kept w l past (other_rank k w below (λ e. let bad : ⊥ = omega arith in bad)) (after w l past)
      by (no a) = subst Q' (at_rank k w l (let same : rank w ≡ k = omega arith in same)) here

  pub back_all : (Q : ℕ → Type 0) → ((w : ℕ) → w < n → 0 ≤ rank w → Q w) → (w : ℕ) → w < n → Q w
  back_all Q after w l = after w l zero-le

abbrev pub Begins : List ℕ → List ℕ → Type 0
Begins xs order = (k : ℕ) → k < length xs → get_or xs k 0 ≡ get_or order k 0

pub begins_take : (n : ℕ) (order : List ℕ) → n ≤ length order → Begins (take n order) order
begins_take n order room k l = get_or-take n order k 0 (omega (arith, length-take-le n order room))

pub begins_back : (xs order : List ℕ) (e : ℕ) → Begins (xs ++ e ∷ []) order → (length (xs ++ e ∷ []) - 1 ≡ length xs) × (0 < length (xs ++ e ∷ [])) × (get_or order (length (xs ++ e ∷ []) - 1) 0 ≡ e) × Begins xs order
begins_back xs order e front =
    let one : length (xs ++ e ∷ []) - 1 ≡ length xs = omega (arith, length_push xs e) in (
      one,
      omega (arith, length_push xs e),
      sym (front _ (omega (arith, length_push xs e))) ∙ get_or_push xs e 0 _ (sym one),
      λ k l. sym (get_or-append xs (e ∷ []) 0 k l) ∙ front k (omega (arith, length_push xs e)),
    )
