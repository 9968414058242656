-- Marking the sources of the rules into one event, and listing those that are new.
--     listing_none     nothing is marked, and nothing listed
--     listing_room     where some event is not marked, there is room for it
--     listing_more     marked and listed at the end, it is one more
--     Marking … e …    the walk through the rules into the event stands at e, and the sources of those passed are marked
--     marking_start, marking_known, marking_new, marking_end    its start, a step to a source that is marked or to a new one, and what holds at its end
-- Assumes nothing.
use mathlib.Core.Path.{◌≡◌, refl, sym, subst, ◌∙◌}
use mathlib.Core.Bool.{Bool, true, false, true≢false}
use mathlib.Core.Logic.{◌⊎◌, inl, inr, ⊎_elim}
use mathlib.Core.List.{List}
use Prim.Native.Nat.{ℕ, suc, ◌+◌, ◌<◌, ◌≤◌}
use native.Mathlib.Decide.{ℕ_discrete, dec_lt}
use native.Mathlib.Omega.{arith}
use lib.ListN.{length, get_or, set, length-set}
use lib.Seq.{get_or-set_same, get_or-set_other}
use Rattle.sequences.specs.Counted.{Counted}
use Rattle.sequences.proofs.Counting.{counted_none, counted_less, Leaves}
use Rattle.analysis.specs.Parts.Chains.{Chained}
use Rattle.analysis.specs.Parts.Cycles.{Listing, InSources, Marked}
use Rattle.analysis.proofs.Walk.{Walk, walk_start, walk_step, walk_end, walk_map}

-- ---- one event more

abbrev Seen : List Bool → ℕ → Type 0
Seen seen u = get_or seen u false ≡ true

abbrev Unseen : List Bool → ℕ → Type 0
Unseen seen u = get_or seen u false ≡ false

module _ (seen : List Bool) (list : List ℕ) (end : ℕ) (l : Listing seen list end) (u : ℕ) (known : u < length seen) (unseen : Unseen seen u) where
  pub listing_room : end < length seen
  listing_room = room (dec_lt end (length seen))
    where
      room : Dec (end < length seen) → end < length seen
      room (yes h) = h
      room (no h) =
          let none : l.left ≡ 0 = omega (arith, l.left_end) in
          absurd (counted_none (subst (Counted (Unseen seen) (length seen)) none l.left_counted) u known unseen)

  here : Seen (set seen u true) u
  here = get_or-set_same seen u true false known

  elsewhere : (x : ℕ) → (x ≡ u → ⊥) → get_or (set seen u true) x false ≡ get_or seen x false
  elsewhere x other = get_or-set_other seen u x true false other

  pub still_seen : (x : ℕ) → Seen seen x → Seen (set seen u true) x
  still_seen x s = by (ℕ_discrete x u)
    where
      by : Dec (x ≡ u) → Seen (set seen u true) x
      by (yes e) = subst (Seen (set seen u true)) (sym e) here
      by (no e) = elsewhere x e ∙ s

  pub seen_before : (x : ℕ) → Seen (set seen u true) x → (x ≡ u) ⊎ Seen seen x
  seen_before x s = by (ℕ_discrete x u)
    where
      by : Dec (x ≡ u) → (x ≡ u) ⊎ Seen seen x
      by (yes e) = inl e
      by (no e) = inr (sym (elsewhere x e) ∙ s)

  leaves : Leaves (Unseen seen) (Unseen (set seen u true)) (length seen) u
  leaves =
      record {
        below = known;
        was = unseen;
        gone = λ h. true≢false (sym here ∙ h);
        to = λ j b other h. elsewhere j other ∙ h;
        from = λ j b h. back j h (ℕ_discrete j u);
      }
    where
      back : (j : ℕ) → Unseen (set seen u true) j → Dec (j ≡ u) → Unseen seen j
      back j h (yes e) = subst (Unseen seen) (sym e) unseen
      back j h (no e) = sym (elsewhere j e) ∙ h

  module _ (long : length seen ≤ length list) where
    at_end : get_or (set list end u) end 0 ≡ u
    at_end = get_or-set_same list end u 0 (omega (arith, listing_room))

    pub before_end : (k : ℕ) → k < end → get_or (set list end u) k 0 ≡ get_or list k 0
    before_end k h = get_or-set_other list end k u 0 (λ e. let no : ⊥ = omega arith in no)

    each : (P : ℕ → Type 0) → ((k : ℕ) → k < end → P (get_or list k 0)) → P u → (k : ℕ) → k < end + 1 → P (get_or (set list end u) k 0)
    each P old new k h = by (dec_lt k end)
      where
        by : Dec (k < end) → P (get_or (set list end u) k 0)
        by (yes b) = subst P (sym (before_end k b)) (old k b)
        by (no b) =
            let last : k ≡ end = omega arith in
            subst (λ (x : ℕ). P (get_or (set list end u) x 0)) (sym last) (subst P (sym at_end) new)

    pub listing_more : Listing (set seen u true) (set list end u) (end + 1)
    listing_more =
        let (fewer, one, counted) = counted_less u leaves l.left_counted in
        record {
          left = fewer;
          left_counted = subst (λ (k : ℕ). Counted (Unseen (set seen u true)) k fewer) (sym (length-set seen u true)) counted;
          left_end = omega (arith, one, l.left_end, length-set seen u true);
          listed = λ x s. ⊎_elim (λ e. (end, omega arith, at_end ∙ sym e)) (λ old. let (k, b, e) = l.listed x old in (k, omega arith, before_end k b ∙ e)) (seen_before x s);
          list_seen = each (Seen (set seen u true)) (λ k b. still_seen (get_or list k 0) (l.list_seen k b)) here;
          list_below =
              subst (λ (m : ℕ). (k : ℕ) → k < end + 1 → get_or (set list end u) k 0 < m) (sym (length-set seen u true)) (each (λ x. x < length seen) l.list_below known);
        }

-- ---- the walk

pub record Marking (ss ts : List ℕ) (event : ℕ) (seen₀ : List Bool) (list₀ : List ℕ) (end₀ e : ℕ) (seen : List Bool) (list : List ℕ) (end : ℕ) : Type 0 where
  pub walk : Walk ts event e (λ (i : ℕ). get_or seen (get_or ss i 0) false ≡ true)
  pub listing : Listing seen list end
  pub still : (u : ℕ) → get_or seen₀ u false ≡ true → get_or seen u false ≡ true
  pub new : (u : ℕ) → get_or seen u false ≡ true → (get_or seen₀ u false ≡ true) ⊎ InSources ss ts event u
  pub same_front : (k : ℕ) → k < end₀ → get_or list k 0 ≡ get_or list₀ k 0
  pub grown : end₀ ≤ end
  pub seen_length : length seen ≡ length seen₀
  pub list_length : length list ≡ length list₀

module _ (ss ts heads nexts : List ℕ) (chained : Chained ts heads nexts) (event : ℕ) (seen₀ : List Bool) (list₀ : List ℕ) (end₀ : ℕ) where
  pub marking_start : event < length heads → Listing seen₀ list₀ end₀ → Marking ss ts event seen₀ list₀ end₀ (get_or heads event 0) seen₀ list₀ end₀
  marking_start l listing =
      record {
        walk = walk_start ts heads nexts chained event (λ (i : ℕ). get_or seen₀ (get_or ss i 0) false ≡ true) l;
        listing = listing;
        still = λ u s. s;
        new = λ u s. inl s;
        same_front = λ k h. refl;
        grown = omega arith;
        seen_length = refl;
        list_length = refl;
      }

  module _ (e i : ℕ) (some : e ≡ suc i) (seen : List Bool) (list : List ℕ) (end : ℕ) (at : Marking ss ts event seen₀ list₀ end₀ e seen list end) where
    m : Marking ss ts event seen₀ list₀ end₀ (suc i) seen list end
    m = subst (λ (x : ℕ). Marking ss ts event seen₀ list₀ end₀ x seen list end) some at

    pub marking_known : get_or seen (get_or ss i 0) false ≡ true → Marking ss ts event seen₀ list₀ end₀ (get_or nexts i 0) seen list end
    marking_known s =
        record {
          walk = walk_step ts heads nexts chained event (λ (j : ℕ). get_or seen (get_or ss j 0) false ≡ true) i m.walk s;
          listing = m.listing;
          still = m.still;
          new = m.new;
          same_front = m.same_front;
          grown = m.grown;
          seen_length = m.seen_length;
          list_length = m.list_length;
        }

    module _ (known : get_or ss i 0 < length seen) (long : length seen ≤ length list) (unseen : get_or seen (get_or ss i 0) false ≡ false) where
      pub marking_new : Marking ss ts event seen₀ list₀ end₀ (get_or nexts i 0) (set seen (get_or ss i 0) true) (set list end (get_or ss i 0)) (end + 1)
      marking_new =
          let u : ℕ = get_or ss i 0 in
          record {
            walk =
                walk_step ts heads nexts chained event (λ (j : ℕ). get_or (set seen u true) (get_or ss j 0) false ≡ true) i
                (walk_map ts event (suc i) (λ (j : ℕ). get_or seen (get_or ss j 0) false ≡ true) (λ (j : ℕ). get_or (set seen u true) (get_or ss j 0) false ≡ true)
                (λ j s. still_seen seen list end m.listing u known unseen (get_or ss j 0) s) m.walk)
                (get_or-set_same seen u true false known);
            listing = listing_more seen list end m.listing u known unseen long;
            still = λ x s. still_seen seen list end m.listing u known unseen x (m.still x s);
            new = λ x s. ⊎_elim (λ e. inr (i, m.walk.within, m.walk.hit i refl, sym e)) (λ old. m.new x old) (seen_before seen list end m.listing u known unseen x s);
            same_front = λ k h. before_end seen list end m.listing u known unseen long k (omega (arith, m.grown)) ∙ m.same_front k h;
            grown = omega (arith, m.grown);
            seen_length = length-set seen u true ∙ m.seen_length;
            list_length = length-set list end u ∙ m.list_length;
          }

pub marking_end : (ss ts : List ℕ) (event : ℕ) (seen₀ : List Bool) (list₀ : List ℕ) (end₀ e : ℕ) (seen : List Bool) (list : List ℕ) (end : ℕ) →
    e ≡ 0 → Marking ss ts event seen₀ list₀ end₀ e seen list end → Marked ss ts event seen₀ list₀ end₀ seen list end
marking_end ss ts event seen₀ list₀ end₀ e seen list end last m =
    record {
      listing = m.listing;
      closed = walk_end ts event (λ (i : ℕ). get_or seen (get_or ss i 0) false ≡ true) (subst (λ (x : ℕ). Walk ts event x (λ (i : ℕ). get_or seen (get_or ss i 0) false ≡ true)) last m.walk);
      still = m.still;
      new = m.new;
      same_front = m.same_front;
      grown = m.grown;
    }
