-- The walk of `serve` through the rules into the event at place head.
--     Walking … e      == the walk stands at e: rule e − 1 is next, and the rules into the event from e on have been served
--     walking_begins      at heads[event] none has been served
--     Turn                == what a turn of the walk needs, and what it does: the rule's source waits for one rule less, and is placed where that was the last
--     walking_serves      at a e above 0 there is a turn
--     walking_ends        at 0 the event has been served
-- Assumes nothing.
use mathlib.Core.Path.{◌≡◌, refl, sym, subst, ◌∙◌}
use mathlib.Core.List.{List}
use Prim.Native.Nat.{ℕ, suc, ◌+◌, ◌-◌, ◌<◌, ◌≤◌}
use native.Mathlib.Decide.{ℕ_discrete}
use native.Mathlib.Omega.{arith}
use lib.ListN.{length, get_or, set}
use lib.Seq.{get_or-set_same, get_or-set_other}
use Rattle.analysis.specs.Parts.Chains.{Last, ChainLists}
use Rattle.analysis.specs.Parts.Rules.{RulesKept}
use Rattle.analysis.specs.Parts.Placing.{Progress, Serving}
use Rattle.analysis.proofs.Placement.{Joins, room_left, progress_place, progress_beyond, progress_keep, walk_begins, walk_waits, walk_lowers, walk_finishes}

pub record Walking (n : ℕ) (ss ts : List ℕ) (event : ℕ) (waiting order : List ℕ) (tail head e : ℕ) : Type 0 where
  pub progress : Progress n ss ts waiting order tail head e (λ (v : ℕ). v < n)
  pub busy : head < tail
  pub here : get_or order head 0 ≡ event
  pub within : e ≤ length ts
  pub own : (i : ℕ) → e ≡ suc i → get_or ts i 0 ≡ event

pub record Turn (n : ℕ) (ss ts nexts : List ℕ) (event : ℕ) (waiting order : List ℕ) (tail head e i x : ℕ) : Type 0 where
  pub rule_known : i < length ss
  pub source_known : x < n
  pub source_waits : 0 < get_or waiting x 0
  pub room : tail < n
  pub e_falls : get_or nexts i 0 < e
  pub moves :
      (r : ℕ) → (get_or waiting x 0 - 1 ≡ 0 → r ≡ 1) → ((get_or waiting x 0 - 1 ≡ 0 → ⊥) → r ≡ 0) →
      Walking n ss ts event (set waiting x (get_or waiting x 0 - 1)) (set order tail x) (tail + r) head (get_or nexts i 0)

module _ (n : ℕ) (ss ts heads nexts : List ℕ) (kept : RulesKept n ss ts) (chains : ChainLists n ts heads nexts) where
  pub walking_begins : (waiting order : List ℕ) (tail head : ℕ) → Serving n ss ts waiting order tail head → head < tail → Walking n ss ts (get_or order head 0) waiting order tail head (get_or heads (get_or order head 0) 0)
  walking_begins waiting order tail head turn busy =
      let last : Last ts (get_or order head 0) (length ts) (get_or heads (get_or order head 0) 0) = chains.chained.heads_last (get_or order head 0) (omega (arith, turn.placed.order_below head busy, chains.heads_room)) in
      record {
        progress = walk_begins n ss ts kept (get_or heads (get_or order head 0) 0) turn busy last;
        busy = busy;
        here = refl;
        within = last.within;
        own = last.hit;
      }

  pub walking_ends : (event : ℕ) (waiting order : List ℕ) (tail head e : ℕ) → Walking n ss ts event waiting order tail head e → e ≤ 0 → Serving n ss ts waiting order tail (head + 1)
  walking_ends event waiting order tail head e w l =
      walk_finishes n ss ts kept w.busy (subst (λ (e : ℕ). Progress n ss ts waiting order tail head e (λ (v : ℕ). v < n)) (let z : e ≡ 0 = omega arith in z) w.progress)

  -- the next rule is i, its source x
  module _ (event : ℕ) (waiting order : List ℕ) (tail head e i x : ℕ) (w : Walking n ss ts event waiting order tail head e) (next : e ≡ suc i) (end : get_or ss i 0 ≡ x) where
    known : i < length ss
    known = omega (arith, w.within, kept.targets_match)

    below : x < n
    below = subst (λ (v : ℕ). v < n) end (kept.sources_below.below i known)

    last : Last ts event i (get_or nexts i 0)
    last = subst (λ (v : ℕ). Last ts v i (get_or nexts i 0)) (w.own i next) (chains.chained.nexts_last i (omega (arith, kept.targets_match, known)))

    lowers : (0 < get_or waiting x 0) × Progress n ss ts (set waiting x (get_or waiting x 0 - 1)) order tail head (get_or nexts i 0) (λ (v : ℕ). (v < n) × (v ≡ x → ⊥))
    lowers =
        let own : get_or ts i 0 ≡ get_or order head 0 = w.own i next ∙ sym w.here in
        let last' : Last ts (get_or order head 0) i (get_or nexts i 0) = rw w.here last in
        let progress : Progress n ss ts waiting order tail head (suc i) (λ (v : ℕ). v < n) = rw next at w.progress in (
          walk_waits n ss ts kept waiting order tail head i (get_or nexts i 0) x w.busy known own last' end progress,
          walk_lowers n ss ts kept waiting order tail head i (get_or nexts i 0) x w.busy known own last' end progress,
        )

    at_x : get_or (set waiting x (get_or waiting x 0 - 1)) x 0 ≡ get_or waiting x 0 - 1
    at_x = get_or-set_same waiting x (get_or waiting x 0 - 1) 0 (omega (arith, below, kept.few_events, w.progress.waiting_room))

    -- lowered, x is the one event that may wait for no rule and have no place
    joins : Joins (λ (v : ℕ). (v < n) × (v ≡ x → ⊥)) (λ (v : ℕ). v < n) x
    joins = record { not_before = λ d. d.1 refl; after = below; others = λ v q l. (l, q); stays = λ v d. d.0 }

    -- the source is written to the next place, whether it gets that place or not
    onward : (tail' : ℕ) → Progress n ss ts (set waiting x (get_or waiting x 0 - 1)) (set order tail x) tail' head (get_or nexts i 0) (λ (v : ℕ). v < n) → head < tail' → Walking n ss ts event (set waiting x (get_or waiting x 0 - 1)) (set order tail x) tail' head (get_or nexts i 0)
    onward tail' p busy =
        record {
          progress = p;
          busy = busy;
          here = get_or-set_other order tail head x 0 (λ q. let z : ⊥ = omega (arith, w.busy) in z) ∙ w.here;
          within = omega (arith, last.within, known, kept.targets_match);
          own = last.hit;
        }

    moved :
        (r : ℕ) → (get_or waiting x 0 - 1 ≡ 0 → r ≡ 1) → ((get_or waiting x 0 - 1 ≡ 0 → ⊥) → r ≡ 0) → Dec (get_or waiting x 0 - 1 ≡ 0) →
        Walking n ss ts event (set waiting x (get_or waiting x 0 - 1)) (set order tail x) (tail + r) head (get_or nexts i 0)
    moved r one zero (yes none) =
        let more : tail + 1 ≡ tail + r = omega (arith, one none) in
        subst (λ (k : ℕ). Walking n ss ts event (set waiting x (get_or waiting x 0 - 1)) (set order tail x) k head (get_or nexts i 0)) more
        (onward (tail + 1)
        (progress_place n ss ts kept (set waiting x (get_or waiting x 0 - 1)) order tail head (get_or nexts i 0) (λ (v : ℕ). (v < n) × (v ≡ x → ⊥)) (λ (v : ℕ). v < n) x below joins (at_x ∙ none) lowers.1)
        (omega (arith, w.busy)))
    moved r one zero (no some) =
        let same : tail ≡ tail + r = omega (arith, zero some) in
        subst (λ (k : ℕ). Walking n ss ts event (set waiting x (get_or waiting x 0 - 1)) (set order tail x) k head (get_or nexts i 0)) same
        (onward tail (progress_beyond n ss ts kept x (progress_keep n ss ts kept joins (omega (arith, at_x)) lowers.1)) w.busy)

    pub walking_serves : Turn n ss ts nexts event waiting order tail head e i x
    walking_serves =
        record {
          rule_known = known;
          source_known = below;
          source_waits = lowers.0;
          room = room_left w.progress.placed x below (w.progress.waiting_left x below lowers.0);
          e_falls = omega (arith, last.within);
          moves = λ r one zero. moved r one zero (ℕ_discrete (get_or waiting x 0 - 1) 0);
        }
