-- What a sweep back over the levels holds: two levels, k + 1 whole and k in part.
--     by_mark m here above                   == what stands at level k, for mark 0; at level k + 1, for another
--     cap_ahead g caps above j, set_ahead g sets above j == so for the target of template j
--     limit a f                             == the limit that number a and flag f stand for
--     caps_of ms fs u, sets_of ss u           == the cap and the set of event u, as a level's lists hold them: of each m a number and whether it is unlimited, and
--                                              a set
--     Ranked g rank                         == along every mark-0 template the rank grows: sources come first
--     Whole, From rank r                    == every event; those with a rank of at least r
--     LevelHolds g cap full k caps sets Done == caps and sets hold the caps and the fully pruned sets of occurrence k of the events of which Done holds
--     Fits g full room k Done               == none of these sets has more than `room` pairs
--     Swept g cap full rank room k r …      == level k + 1 is held whole, of level k the events with a rank of at least r; and no set found was too large
-- cap and full are all caps and all sets of the graph unfolded in full, which the sweep does not store. Assumes nothing.
use Rattle.std.specs.Prelude.{◌≡◌, Bool, true, false, List, ℕ, zero, suc, ◌<◌, ◌≤◌, ℤ, pos, length, get_or}
use Rattle.sets.specs.Limit.{Limit, number, unlimited}
use Rattle.sets.specs.Pair.{Pair}
use Rattle.sets.specs.Set.{pass_nothing}
use Rattle.sets.specs.Held.{pairs_of, held}
use Rattle.sets.specs.declared.PrunedSet.{PrunedSet}
use Rattle.processes.specs.declared.Event.{Event}
use Rattle.processes.specs.Process.{templates, source, target, mark, occurrence, ProcessGraph}

abbrev pub by_mark : {A : Type 0} → ℕ → A → A → A
by_mark zero here above = here
by_mark (suc m) here above = above

abbrev pub cap_ahead : ProcessGraph → (ℕ → Limit) → (ℕ → Limit) → ℕ → Limit
cap_ahead g caps above j = by_mark (mark g j) (caps (target g j).0) (above (target g j).0)

abbrev pub set_ahead : ProcessGraph → (ℕ → List Pair) → (ℕ → List Pair) → ℕ → List Pair
set_ahead g sets above j = by_mark (mark g j) (sets (target g j).0) (above (target g j).0)

abbrev pub limit : ℤ → Bool → Limit
limit a false = number a
limit a true = unlimited

abbrev pub caps_of : List ℤ → List Bool → ℕ → Limit
caps_of ms fs u = limit (get_or ms u (pos 0)) (get_or fs u false)

abbrev pub sets_of : List PrunedSet → ℕ → List Pair
sets_of ss u = pairs_of (get_or ss u (held pass_nothing))

abbrev pub Ranked : ProcessGraph → (ℕ → ℕ) → Type 0
Ranked g rank = (j : ℕ) → j < templates g → mark g j ≡ 0 → rank (source g j).0 < rank (target g j).0

abbrev pub Whole : ℕ → Type 0
Whole u = Unit {0}

abbrev pub From : (ℕ → ℕ) → ℕ → ℕ → Type 0
From rank r u = r ≤ rank u

pub record LevelHolds (g : ProcessGraph) (cap : ℕ → Limit) (full : ℕ → List Pair) (k : ℕ)
    (caps : ℕ → Limit) (sets : ℕ → List Pair) (Done : ℕ → Type 0) : Type 0 where
  pub caps_hold : (u : Event) → u.0 < g.events → Done u.0 → caps u.0 ≡ cap (occurrence g k u).0
  pub sets_hold : (u : Event) → u.0 < g.events → Done u.0 → sets u.0 ≡ full (occurrence g k u).0

pub record Fits (g : ProcessGraph) (full : ℕ → List Pair) (room k : ℕ) (Done : ℕ → Type 0) : Type 0 where
  pub each : (u : Event) → u.0 < g.events → Done u.0 → length (full (occurrence g k u).0) ≤ room

pub record Swept (g : ProcessGraph) (cap : ℕ → Limit) (full : ℕ → List Pair) (rank : ℕ → ℕ) (room k r : ℕ)
    (caps : ℕ → Limit) (sets : ℕ → List Pair) (above-caps : ℕ → Limit) (above-sets : ℕ → List Pair) : Type 0 where
  pub above : LevelHolds g cap full (suc k) above-caps above-sets Whole
  pub here : LevelHolds g cap full k caps sets (From rank r)
  pub fits_above : (l : ℕ) → k < l → Fits g full room l Whole
  pub fits_here : Fits g full room k (From rank r)
