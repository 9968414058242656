-- The sweep's steps: level k from level k + 1, event by event, down to the root.
--     least_same, turn_same     a turn stays where the caps and sets that it reads do
--     levels_above, fits_later  above the later of the two occurrences nothing is found: no m, and empty sets, none of them too large
--     swept_begun               before the first turn of a level
--     swept_cap, swept_set      the turn of an event: what it reads is what stands ahead, so it finds the event's cap and candidates for its set
--     swept_more                one event more
--     swept_level               once all events had their turn, the level is held whole
--     swept_root_cap, swept_root_set   the root's turn, from level 0
--     swept_fits                where no set was too large, the root's included, no event is overfull
--     swept_overfull            where the set of an occurrence, or of the root, is too large, one is
-- Assumes nothing.
use mathlib.Core.Path.{◌≡◌, refl, sym, ap, subst, ◌∙◌}
use mathlib.Core.Logic.{◌⊎◌, inl, inr}
use mathlib.Core.List.{List, []}
use Prim.Native.Nat.{ℕ, zero, suc, ◌+◌, ◌*◌, ◌<◌, ◌≤◌}
use native.Mathlib.Decide.{ℕ_discrete, dec_lt}
use native.Mathlib.Omega.{arith}
use lib.IntN.{neg_ℤ}
use lib.ListN.{length}
use Rattle.graphs.specs.Graph.{Graph}
use Rattle.sets.specs.Limit.{Limit, number, unlimited, ◌≤ᴸ◌, ◌+ᴸ◌}
use Rattle.sets.specs.Pair.{Pair, pair, compose}
use Rattle.sets.specs.Set.{◌∈◌, Prunes}
use Rattle.sets.specs.Family.{Covers}
use Rattle.paths.specs.PathPair.{PathPairs, Overfull}
use Rattle.paths.specs.Parts.Solved.{Solved}
use Rattle.paths.proofs.Solved.{solved_fits, solved_overfull}
use Rattle.processes.specs.declared.Event.{Event}
use Rattle.processes.specs.Process.{templates, source, target, least, most, mark, occurrence, ProcessGraph, start_least, start_most}
use Rattle.processes.proofs.Occurrences.{OneOccurrence, occurrence_below, occurrence_found}
use Rattle.levels.specs.Parts.Turns.{ahead, Reached, LeastTemplate, Candidate, TemplateTurn}
use Rattle.levels.specs.Parts.Sweep.{by_mark, cap_ahead, set_ahead, Ranked, Whole, LevelHolds, Fits, Swept}
use Rattle.levels.proofs.Sound.{Fit, unfolded_sound}
use Rattle.levels.proofs.Turns.{level_cap, level_set, occurrence_cap, occurrence_set, root_cap, root_set}
use Rattle.processes.specs.Unfolding.{Unfolds}

-- ---- a turn stays where what it reads does

pub least_same : {g : ProcessGraph} {At : ℕ → Type 0} {f h : ℕ → Limit} {c : Limit} → ((j : ℕ) → j < templates g → At j → f j ≡ h j)
    → LeastTemplate g At f c → LeastTemplate g At h c
least_same {g} {At} {f} {h} {c} same x =
    record { reached = by x.reached; bound = λ j l a. subst (λ (y : Limit). c ≤ᴸ y) (same j l a) (x.bound j l a) }
  where
    by : Reached At f (templates g) c → Reached At h (templates g) c
    by (inl e) = inl e
    by (inr (j, l, a, e)) = inr (j, l, a, sym (same j l a) ∙ e)

pub turn_same : {g : ProcessGraph} {At : ℕ → Type 0} {Here : Type 0} {own own' : ℕ → Pair} {sets sets' : ℕ → List Pair} {C : List Pair}
    → ((j : ℕ) → j < templates g → At j → own j ≡ own' j) → ((j : ℕ) → j < templates g → At j → sets j ≡ sets' j)
    → TemplateTurn g At Here own sets C → TemplateTurn g At Here own' sets' C
turn_same {g} {At} {Here} {own} {own'} {sets} {sets'} {C} owns same x =
    record {
      here = x.here;
      on = λ j l a q m.
          subst (λ (p : Pair). compose p q ∈ C) (owns j l a) (x.on j l a q (subst (λ (T : List Pair). q ∈ T) (sym (same j l a)) m));
      only = λ r m. by r (x.only r m);
    }
  where
    by : (r : Pair) → Candidate At Here own sets (templates g) r → Candidate At Here own' sets' (templates g) r
    by r (inl h) = inl h
    by r (inr (j, q, l, a, m, e)) =
        inr (j, q, l, a, subst (λ (T : List Pair). q ∈ T) (same j l a) m, e ∙ ap (λ (p : Pair). compose p q) (owns j l a))

-- what stands ahead, by the mark
ahead_is : {A : Type 0} (f : ℕ → A) (g : ProcessGraph) (k j : ℕ) {here above : A} (m : ℕ) → mark g j ≡ m → (m ≡ 0) ⊎ (m ≡ 1)
    → (m ≡ 0 → here ≡ f (occurrence g k (target g j)).0) → above ≡ f (occurrence g (suc k) (target g j)).0
    → by_mark m here above ≡ f (ahead g k j)
ahead_is f g k j zero e which at_here at_above =
    at_here refl ∙ ap (λ (x : ℕ). f (occurrence g x (target g j)).0) (let same : k ≡ k + mark g j = omega arith in same)
ahead_is f g k j (suc m) e (inl no-mark) at_here at_above = absurd (let no : ⊥ = omega arith in no)
ahead_is f g k j (suc m) e (inr one) at_here at_above =
    at_above ∙ ap (λ (x : ℕ). f (occurrence g x (target g j)).0) (let same : suc k ≡ k + mark g j = omega (arith, e, one) in same)

module _ {g : ProcessGraph} {K : ℕ} {graph : Graph} (fit : Fit g) (unfolds : Unfolds g K graph)
    {s t : ℕ} {cap : ℕ → Limit} {full : ℕ → List Pair} (solved : Solved graph s t cap full) where
  -- ---- before the first level

  module _ (ks kt : ℕ) (su tu : Event) (hs : su.0 < g.events) (ht : tu.0 < g.events)
      (s-is : s ≡ (occurrence g ks su).0) (t-is : t ≡ (occurrence g kt tu).0) where
    pub levels_above : (k : ℕ) → ks < k → kt < k → LevelHolds g cap full k (λ u. unlimited) (λ u. []) Whole
    levels_above k s_before t-before =
        record {
          caps_hold = λ u hu _. sym (level_cap fit unfolds solved ks su hs s-is k u hu s_before);
          sets_hold = λ u hu _. sym (level_set fit unfolds solved kt tu ht t-is k u hu t-before);
        }

    pub fits_later : (room k : ℕ) → kt < k → Fits g full room k Whole
    fits_later room k t-before =
        record { each = λ u hu _. subst (λ (T : List Pair). length T ≤ room) (sym (level_set fit unfolds solved kt tu ht t-is k u hu t-before)) (omega arith) }

  -- ---- a level

  module _ {rank : ℕ → ℕ} {room k : ℕ} {above-caps : ℕ → Limit} {above-sets : ℕ → List Pair} where
    pub swept_begun : {n : ℕ} {caps : ℕ → Limit} {sets : ℕ → List Pair} → ((u : ℕ) → u < g.events → rank u < n)
        → LevelHolds g cap full (suc k) above-caps above-sets Whole → ((l : ℕ) → k < l → Fits g full room l Whole)
        → Swept g cap full rank room k n caps sets above-caps above-sets
    swept_begun ranks above fits =
        record {
          above = above;
          here =
              record {
                caps_hold = λ u hu h. absurd (let no : ⊥ = omega (arith, ranks u.0 hu, h) in no);
                sets_hold = λ u hu h. absurd (let no : ⊥ = omega (arith, ranks u.0 hu, h) in no);
              };
          fits_above = fits;
          fits_here = record { each = λ u hu h. absurd (let no : ⊥ = omega (arith, ranks u.0 hu, h) in no) };
        }

    module _ (ranked : Ranked g rank) {r : ℕ} {caps : ℕ → Limit} {sets : ℕ → List Pair}
        (swept : Swept g cap full rank room k (suc r) caps sets above-caps above-sets)
        (u : Event) (hu : u.0 < g.events) (its-turn : rank u.0 ≡ r) where
      -- the target of a mark-0 template out of u had its turn
      later : (j : ℕ) → j < templates g → source g j ≡ u → mark g j ≡ 0 → suc r ≤ rank (target g j).0
      later j l from m = omega (arith, ranked j l m, ap (λ (x : Event). rank x.0) from, its-turn)

      cap_ahead_is : (j : ℕ) → j < templates g → source g j ≡ u
          → cap_ahead g caps above-caps j ≡ cap (ahead g k j)
      cap_ahead_is j l from =
          ahead_is cap g k j (mark g j) refl (fit.each.marks j l)
          (λ m. swept.here.caps_hold (target g j) (fit.each.ends j l).target_known (later j l from m))
          (swept.above.caps_hold (target g j) (fit.each.ends j l).target_known tt)

      set_ahead_is : (j : ℕ) → j < templates g → source g j ≡ u
          → set_ahead g sets above-sets j ≡ full (ahead g k j)
      set_ahead_is j l from =
          ahead_is full g k j (mark g j) refl (fit.each.marks j l)
          (λ m. swept.here.sets_hold (target g j) (fit.each.ends j l).target_known (later j l from m))
          (swept.above.sets_hold (target g j) (fit.each.ends j l).target_known tt)

      pub swept_cap : s < graph.events → ((occurrence g k u).0 ≡ s → ⊥) → (c : Limit)
          → LeastTemplate g (λ j. source g j ≡ u) (λ j. cap_ahead g caps above-caps j +ᴸ number (neg_ℤ (least g j))) c
          → c ≡ cap (occurrence g k u).0
      swept_cap known other c h =
          occurrence_cap fit unfolds solved k u hu known other c
          (least_same (λ j l from. ap (λ (x : Limit). x +ᴸ number (neg_ℤ (least g j))) (cap_ahead_is j l from)) h)

      pub swept_set : t < graph.events → {C : List Pair}
          → TemplateTurn g (λ j. source g j ≡ u) ((occurrence g k u).0 ≡ t)
          (λ j. pair (number (most g j)) (cap_ahead g caps above-caps j)) (λ j. set_ahead g sets above-sets j) C
          → Covers C (PathPairs graph cap t (occurrence g k u).0) × ((T : List Pair) → Prunes C T → T ≡ full (occurrence g k u).0)
      swept_set known turn =
          occurrence_set fit unfolds solved k u hu known
          (turn_same (λ j l from. ap (λ (x : Limit). pair (number (most g j)) x) (cap_ahead_is j l from)) set_ahead_is turn)

      -- one event more: what was written for u is its cap and its set, and what was written for the others is kept
      pub swept_more : {caps' : ℕ → Limit} {sets' : ℕ → List Pair} → ((v : ℕ) → v < g.events → rank v ≡ r → v ≡ u.0)
          → caps' u.0 ≡ cap (occurrence g k u).0 → sets' u.0 ≡ full (occurrence g k u).0
          → ((v : ℕ) → (v ≡ u.0 → ⊥) → (caps' v ≡ caps v) × (sets' v ≡ sets v)) → length (full (occurrence g k u).0) ≤ room
          → Swept g cap full rank room k r caps' sets' above-caps above-sets
      swept_more {caps'} {sets'} alone new-cap new-set kept short =
          record {
            above = swept.above;
            here =
                record {
                  caps_hold = λ v hv h. at_cap v hv h (ℕ_discrete v.0 u.0);
                  sets_hold = λ v hv h. at_set v hv h (ℕ_discrete v.0 u.0);
                };
            fits_above = swept.fits_above;
            fits_here = record { each = λ v hv h. at_fits v hv h (ℕ_discrete v.0 u.0) };
          }
        where
          -- another event that is done was done before
          before : (v : Event) → v.0 < g.events → r ≤ rank v.0 → (v.0 ≡ u.0 → ⊥) → suc r ≤ rank v.0
          before v hv h other = by (ℕ_discrete (rank v.0) r)
            where
              by : Dec (rank v.0 ≡ r) → suc r ≤ rank v.0
              by (yes e) = absurd (other (alone v.0 hv e))
              by (no n) = omega arith

          at_cap : (v : Event) → v.0 < g.events → r ≤ rank v.0 → Dec (v.0 ≡ u.0) → caps' v.0 ≡ cap (occurrence g k v).0
          at_cap v hv h (yes e) = subst (λ (x : ℕ). caps' x ≡ cap (1 + k * g.events + x)) (sym e) new-cap
          at_cap v hv h (no n) = (kept v.0 n).0 ∙ swept.here.caps_hold v hv (before v hv h n)

          at_set : (v : Event) → v.0 < g.events → r ≤ rank v.0 → Dec (v.0 ≡ u.0) → sets' v.0 ≡ full (occurrence g k v).0
          at_set v hv h (yes e) = subst (λ (x : ℕ). sets' x ≡ full (1 + k * g.events + x)) (sym e) new-set
          at_set v hv h (no n) = (kept v.0 n).1 ∙ swept.here.sets_hold v hv (before v hv h n)

          at_fits : (v : Event) → v.0 < g.events → r ≤ rank v.0 → Dec (v.0 ≡ u.0) → length (full (occurrence g k v).0) ≤ room
          at_fits v hv h (yes e) = subst (λ (x : ℕ). length (full (1 + k * g.events + x)) ≤ room) (sym e) short
          at_fits v hv h (no n) = swept.fits_here.each v hv (before v hv h n)

    pub swept_level : {caps : ℕ → Limit} {sets : ℕ → List Pair} → Swept g cap full rank room k 0 caps sets above-caps above-sets
        → LevelHolds g cap full k caps sets Whole × ((l : ℕ) → k ≤ l → Fits g full room l Whole)
    swept_level swept = (
      record {
        caps_hold = λ u hu _. swept.here.caps_hold u hu (omega arith);
        sets_hold = λ u hu _. swept.here.sets_hold u hu (omega arith);
      },
      λ l h. by l h (dec_lt k l),
    )
      where
        by : (l : ℕ) → k ≤ l → Dec (k < l) → Fits g full room l Whole
        by l h (yes later) = swept.fits_above l later
        by l h (no n) =
            subst (λ (x : ℕ). Fits g full room x Whole) (let same : k ≡ l = omega arith in same)
            (record { each = λ u hu _. swept.fits_here.each u hu (omega arith) })

  -- ---- the root

  module _ (some : 0 < K) {caps : ℕ → Limit} {sets : ℕ → List Pair} (level : LevelHolds g cap full 0 caps sets Whole) where
    pub swept_root_cap : s < graph.events → (0 ≡ s → ⊥) → (c : Limit)
        → LeastTemplate g (λ j. mark g j ≡ 1) (λ j. caps (target g j).0 +ᴸ number (neg_ℤ (start_least g j))) c → c ≡ cap 0
    swept_root_cap known other c h =
        root_cap fit unfolds solved some known other c
        (least_same (λ j l m. ap (λ (x : Limit). x +ᴸ number (neg_ℤ (start_least g j))) (level.caps_hold (target g j) (fit.each.ends j l).target_known tt)) h)

    pub swept_root_set : t < graph.events → {C : List Pair}
        → TemplateTurn g (λ j. mark g j ≡ 1) (0 ≡ t)
        (λ j. pair (number (start_most g j)) (caps (target g j).0)) (λ j. sets (target g j).0) C
        → Covers C (PathPairs graph cap t 0) × ((T : List Pair) → Prunes C T → T ≡ full 0)
    swept_root_set known turn =
        root_set fit unfolds solved some known
        (turn_same
        (λ j l m. ap (λ (x : Limit). pair (number (start_most g j)) x) (level.caps_hold (target g j) (fit.each.ends j l).target_known tt))
        (λ j l m. level.sets_hold (target g j) (fit.each.ends j l).target_known tt)
        turn)

  -- ---- refusal 12

  pub swept_fits : {room : ℕ} → ((l : ℕ) → Fits g full room l Whole) → length (full 0) ≤ room → Overfull graph s t room → ⊥
  swept_fits {room} levels root-fits = solved_fits solved (unfolded_sound fit unfolds) (λ v l. at v l (ℕ_discrete v 0))
    where
      at : (v : ℕ) → v < graph.events → Dec (v ≡ 0) → length (full v) ≤ room
      at v l (yes e) = subst (λ (x : ℕ). length (full x) ≤ room) (sym e) root-fits
      at v l (no n) = by (occurrence_found g K v (omega arith) (omega (arith, unfolds.event_count)))
        where
          by : OneOccurrence g K v → length (full v) ≤ room
          by o = subst (λ (x : ℕ). length (full x) ≤ room) o.its_number ((levels o.k).each o.event o.is_event tt)

  pub swept_overfull : {room : ℕ} (k : ℕ) (u : Event) → k < K → u.0 < g.events
      → room < length (full (occurrence g k u).0) → Overfull graph s t room
  swept_overfull k u below hu over =
      solved_overfull solved (let known = occurrence_below g K k u hu below in omega (arith, known, unfolds.event_count)) over
