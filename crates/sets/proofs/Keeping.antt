-- The turns of `pruned`: the set so far is a beginning of what pruning leaves.
--     Latest K last             last is the last pair of K, as it is held, if K has one
--     Keeping C room s last     the set s holds a beginning of what pruning leaves of C, room for it is there, and last is the pair kept last
--     keeping_start             nothing is kept
--     keeping_more              the pair that is selected next is kept
--     keeping_end               where nothing is left, what is kept is the answer
--     keeping_over              where a pair is left and there is no room, the answer is that there are more
--     promised                  the room is what the code computed it to be
-- That a candidate is left, by the test of its l, is that it comes after all kept pairs. Assumes nothing.
use mathlib.Core.List.Memᴰ
use mathlib.Core.List.Memᴰ.{head as here}
use Rattle.std.proofs.Common.{◌≡◌, refl, sym, ap, subst, List, [], ◌∷◌, ◌++◌, map, length, ℕ, suc, ◌+◌, ◌-◌, ◌≤◌, ◌<◌, Option, Some, None, Result, Ok, Err, replicate, set, arith, length-append}
use Rattle.sets.specs.Pair.{Pair, unit}
use Rattle.sets.specs.Set.{◌∈◌, pass_nothing}
use Rattle.sets.specs.Held.{held_pair, pair_of, held}
use Rattle.sets.specs.Parts.{Left, Chosen}
use Rattle.sets.specs.Promise.{PrunedTo}
use Rattle.sets.specs.declared.MorePairs.{MorePairs}
use Rattle.sets.specs.declared.Pair.{Pair as HeldPair}
use Rattle.sets.specs.declared.PrunedSet.{PrunedSet}
use Rattle.sets.proofs.Insertion.{prune}
use Rattle.sets.proofs.Selection.{After, Front, Next, front_start, front_step, front_after, front_end, front_length}
use Rattle.sets.proofs.Holding.{pair_held}

pub data Latest (K : List Pair) : Option HeldPair → Type 0 where
  nothing_yet : K ≡ [] → Latest K None
  last_is : (former : List Pair) (e : HeldPair) → K ≡ former ++ (pair_of e ∷ []) → Latest K (Some e)

pub record Keeping (C : List Pair) (room : ℕ) (s : PrunedSet) (last : Option HeldPair) : Type 0 where
  pub kept : List Pair
  pub front : Front C kept
  pub fits : length kept ≤ room
  pub holds : s ≡ held kept
  pub latest : Latest kept last

-- ---- what is left comes after what is kept

left_after : {C K : List Pair} {last : Option HeldPair} → Front C K → Latest K last → (p : Pair) → p ∈ C → Left last p → After K p
left_after f (nothing_yet e) p m left = subst (λ (X : List Pair). After X p) (sym e) (λ q k. absurd (Memᴰ.not-nil k))
left_after {C} f (last_is former q e) p m rises =
    subst (λ (X : List Pair). After X p) (sym e) (front_after former (pair_of q) (subst (λ (X : List Pair). Front C X) e f) p m rises)

after_left : {K : List Pair} {last : Option HeldPair} → Latest K last → (p : Pair) → After K p → Left last p
after_left (nothing_yet e) p after = tt
after_left (last_is former q e) p after =
    (after (pair_of q) (subst (λ (X : List Pair). pair_of q ∈ X) (sym e) (Memᴰ.append_right former (here refl)))).l_rises

-- the array with one more pair
fill_more :
    (u e : HeldPair) (K : List Pair) (m : ℕ)
    → set (map held_pair K ++ replicate (suc m) u) (length K) e ≡ map held_pair (K ++ (pair_of e ∷ [])) ++ replicate m u
fill_more u e [] m = ap (λ (x : HeldPair). x ∷ replicate m u) (sym (pair_held e))
fill_more u e (p ∷ K) m = ap (λ (xs : List HeldPair). held_pair p ∷ xs) (fill_more u e K m)

filled : (K : List Pair) (e : HeldPair) → length K < 64 → set (held K).pairs (length K) e ≡ (held (K ++ (pair_of e ∷ []))).pairs
filled K e l =
    let rest : 64 - length K ≡ suc (64 - suc (length K)) = omega arith in
    let long : 64 - length (K ++ (pair_of e ∷ [])) ≡ 64 - suc (length K) = omega (arith, length-append K (pair_of e ∷ [])) in
    rw (rest, long) (fill_more (held_pair unit) e K (64 - suc (length K)))

module _ (C : List Pair) {room : ℕ} {s : PrunedSet} {last : Option HeldPair} (k : Keeping C room s last) where
  counted : s.count ≡ length k.kept
  counted = ap (λ (x : PrunedSet). x.count) k.holds

  -- what is chosen is what is selected next
  chosen_next : (e : HeldPair) → Chosen C last (Some e) → Next C k.kept (pair_of e)
  chosen_next e (among, left, best) =
      record {
        among = among;
        after = left_after k.front k.latest (pair_of e) among left;
        highest = λ p m after. (best p m (after_left k.latest p after)).higher;
        longest = λ p m after. (best p m (after_left k.latest p after)).longer;
      }

  pub keeping_more :
      (e : HeldPair) → Chosen C last (Some e) → s.count < room → room ≤ 64
      → Keeping C room (record { pairs = set s.pairs s.count e; count = s.count + 1 }) (Some e)
  keeping_more e chosen less most =
      let more : set (held k.kept).pairs (length k.kept) e ≡ (held (k.kept ++ (pair_of e ∷ []))).pairs = filled k.kept e (omega (arith, counted)) in
      let long : length (k.kept ++ (pair_of e ∷ [])) ≡ length k.kept + 1 = omega (arith, length-append k.kept (pair_of e ∷ [])) in
      record {
        kept = k.kept ++ (pair_of e ∷ []);
        front = front_step k.front (chosen_next e chosen);
        fits = omega (arith, long, counted);
        holds = rw k.holds (λ i. record { pairs = more i; count = sym long i });
        latest = last_is k.kept e refl;
      }

  -- nothing is left
  pub keeping_end : Chosen C last None → PrunedTo C room (Ok s)
  keeping_end none =
      record {
        left = k.kept;
        prunes = front_end k.front (λ p m after. none p m (after_left k.latest p after));
        whole = λ _. ap Ok k.holds;
        over = λ l. absurd (let no : ⊥ = omega (arith, k.fits) in no);
      }

  -- one more is left than there is room for
  pub keeping_over : (e : HeldPair) → Chosen C last (Some e) → room ≤ s.count → PrunedTo C room (Err (record {}))
  keeping_over e chosen full =
      let (T, h) = prune C in
      let longer : length (k.kept ++ (pair_of e ∷ [])) ≤ length T = front_length (front_step k.front (chosen_next e chosen)) h in
      record {
        left = T;
        prunes = h;
        whole = λ l. absurd (let no : ⊥ = omega (arith, length-append k.kept (pair_of e ∷ []), counted, full, longer) in no);
        over = λ _. refl;
      }

pub keeping_start : (C : List Pair) (room : ℕ) → Keeping C room (held pass_nothing) None
keeping_start C room = record { kept = []; front = front_start C; fits = omega arith; holds = refl; latest = nothing_yet refl }

-- the room is what the code computed it to be
pub promised : {C : List Pair} {r : Result PrunedSet MorePairs} (room room' : ℕ) → room ≡ room' → PrunedTo C room r → PrunedTo C room' r
promised {C} {r} room room' e h = subst (λ (m : ℕ). PrunedTo C m r) e h
