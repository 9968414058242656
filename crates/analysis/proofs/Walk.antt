-- Going through the chained rules of one event, the last one first.
--     Walk keys v e Q     the walk stands at e, and Q holds of each rule with key v that it has passed: those from e on
--     walk_start          at heads[v] nothing has been passed
--     walk_step           at 1 + i, once Q holds of rule i, the walk goes on to nexts[i]
--     walk_end            at 0 every rule with key v has been passed
--     walk_map            what Q implies holds of the passed rules too
--     NextRule            what a call of `next` gives of the rules that are left
--     walk_calls          what a closure finds at each rule that the iterator has given holds of each rule passed
--     walk_serves         a closure may be asked at each rule, if it may at every rule with key v
--     walk_any            what `any` answers
-- Assumes nothing.
use mathlib.Core.Path.{◌≡◌, refl, sym, subst, ◌∙◌}
use mathlib.Core.Bool.{Bool, true, false, true≢false}
use mathlib.Core.List.{List, [], ◌∷◌}
use Prim.Native.Nat.{ℕ, suc, ◌<◌, ◌≤◌, zero-le}
use native.Mathlib.Decide.{dec_lt}
use native.Mathlib.Omega.{arith}
use lib.ListN.{length, get_or}
use Rattle.std.proofs.Common.{Option, Some, None}
use Rattle.std.specs.Prelude.{MatchOption}
use Rattle.std.specs.Iterator.{Yields, YieldsThen, CallableAtEachTurn}
use Rattle.std.specs.List.{FoldsTo}
use Rattle.analysis.specs.declared.chains.RulesInto.{RulesInto}
use Rattle.analysis.specs.Parts.Chains.{Last, Chained}

pub record Walk (keys : List ℕ) (v e : ℕ) (Q : ℕ → Type 0) : Type 0 where
  pub within : e ≤ length keys
  pub hit : (i : ℕ) → e ≡ suc i → get_or keys i 0 ≡ v
  pub seen : (j : ℕ) → e ≤ j → j < length keys → get_or keys j 0 ≡ v → Q j

module _ (keys heads nexts : List ℕ) (chained : Chained keys heads nexts) (v : ℕ) (Q : ℕ → Type 0) where
  pub walk_start : v < length heads → Walk keys v (get_or heads v 0) Q
  walk_start l =
      record {
        within = (chained.heads_last v l).within;
        hit = (chained.heads_last v l).hit;
        seen = λ j h k e. absurd ((chained.heads_last v l).none j h k e);
      }

  pub walk_step : (i : ℕ) → Walk keys v (suc i) Q → Q i → Walk keys v (get_or nexts i 0) Q
  walk_step i w q =
      let here : get_or keys i 0 ≡ v = w.hit i refl in
      let l : i < length keys = w.within in
      let last : Last keys v i (get_or nexts i 0) = subst (λ (x : ℕ). Last keys x i (get_or nexts i 0)) here (chained.nexts_last i l) in
      record {
        within = omega (arith, last.within);
        hit = last.hit;
        seen = λ j h k e. passed last j h k e (dec_lt j i) (dec_lt i j);
      }
    where
      passed : Last keys v i (get_or nexts i 0) → (j : ℕ) → get_or nexts i 0 ≤ j → j < length keys → get_or keys j 0 ≡ v → Dec (j < i) → Dec (i < j) → Q j
      passed last j h k e (yes a) b = absurd (last.none j h a e)
      passed last j h k e (no a) (yes b) = w.seen j b k e
      passed last j h k e (no a) (no b) = subst Q (let same : i ≡ j = omega arith in same) q

pub walk_end : (keys : List ℕ) (v : ℕ) (Q : ℕ → Type 0) → Walk keys v 0 Q → (j : ℕ) → j < length keys → get_or keys j 0 ≡ v → Q j
walk_end keys v Q w j k e = w.seen j zero-le k e

pub walk_map : (keys : List ℕ) (v e : ℕ) (Q R : ℕ → Type 0) → ((j : ℕ) → Q j → R j) → Walk keys v e Q → Walk keys v e R
walk_map keys v e Q R f w = record { within = w.within; hit = w.hit; seen = λ j h k q. f j (w.seen j h k q) }

abbrev pub NextRule : RulesInto → Option ℕ → RulesInto → Type 0
NextRule s r t = MatchOption r (s.e ≡ 0) (λ i. (s.e ≡ suc i) × (t.nexts.now ≡ s.nexts.now) × (t.e ≡ get_or s.nexts.now i 0))

module _ (keys heads nexts : List ℕ) (chained : Chained keys heads nexts) (v : ℕ) (Q : ℕ → Type 0) {F : Type 0} (R : F → ℕ → F → Type 0) (f : F) (finds : (x : ℕ) (q : F) → R f x q → (q ≡ f) × Q x) where
  pub walk_calls :
      (xs : List ℕ) (s t : RulesInto) (q : F) → s.nexts.now ≡ nexts → Walk keys v s.e Q → Yields NextRule s xs t → FoldsTo R f xs q → (q ≡ f) × (t.nexts.now ≡ nexts) × Walk keys v t.e Q
  walk_calls [] s t q own w y c = let (own', w') = subst (λ (z : RulesInto). (z.nexts.now ≡ nexts) × Walk keys v z.e Q) y (own, w) in (sym c, own', w')
  walk_calls (x ∷ xs) s t q own w y c =
      let (it, same, next) = y.1 in
      let (still, found) = finds x c.0 c.1 in
      walk_calls xs y.0 t q (same ∙ own) (rw (next, own) (walk_step keys heads nexts chained v Q x (subst (λ (e : ℕ). Walk keys v e Q) it w) found)) y.2
      (subst (λ (g : F). FoldsTo R g xs q) still c.2)

  pub walk_serves :
      {A : F → ℕ → Type 0} {s : RulesInto} → s.nexts.now ≡ nexts → Walk keys v s.e Q → ((x : ℕ) → x < length keys → get_or keys x 0 ≡ v → A f x) → CallableAtEachTurn NextRule R A s f
  walk_serves {A} {s} own w may =
      record {
        at =
            λ xs t q x u y c st.
            let (same, own', w') = walk_calls xs s t q own w y c in
            subst (λ (g : F). A g x) (sym same) (may x (omega (arith, w'.within, st.0)) (w'.hit x st.0));
      }

  pub walk_any :
      {T : F → ℕ → F → Type 0} (r : Bool) (Yes : ℕ → Type 0) → ((x : ℕ) (q : F) → T f x q → Yes x) → (s u : RulesInto) → s.nexts.now ≡ nexts → Walk keys v s.e Q →
      (xs : List ℕ) × (o : Option ℕ) × (j : F) × YieldsThen NextRule s xs o u × FoldsTo R f xs j × MatchOption o (r ≡ false) (λ x. (r ≡ true) × ((h : F) × T j x h)) →
      (r ≡ true → (i : ℕ) × (i < length keys) × (get_or keys i 0 ≡ v) × Yes i) × (r ≡ false → (i : ℕ) → i < length keys → get_or keys i 0 ≡ v → Q i)
  walk_any {T} r Yes found s u own w (xs, o, j, (t, y, st), c, end) = by o st end
    where
      passed : (j ≡ f) × (t.nexts.now ≡ nexts) × Walk keys v t.e Q
      passed = walk_calls xs s t j own w y c

      by :
          (p : Option ℕ) → NextRule t p u → MatchOption p (r ≡ false) (λ x. (r ≡ true) × ((h : F) × T j x h)) →
          (r ≡ true → (i : ℕ) × (i < length keys) × (get_or keys i 0 ≡ v) × Yes i) × (r ≡ false → (i : ℕ) → i < length keys → get_or keys i 0 ≡ v → Q i)
      by None none is = ((λ e. absurd (true≢false (sym e ∙ is))), λ e. walk_end keys v Q (subst (λ (k : ℕ). Walk keys v k Q) none passed.2))
      by (Some x) (it, same, next) (is, (h, asked)) = (
        (λ e. (x, omega (arith, passed.2.within, it), passed.2.hit x it, found x h (subst (λ (g : F). T g x h) passed.0 asked))),
        λ e. absurd (true≢false (sym is ∙ e)),
      )
