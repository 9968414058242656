-- Ways of a process graph, along templates of either mark: paths of its unfolding without occurrence numbers.
--     Way g d u v         == a way of d crossings from process event u to v: along it d templates have mark 1, the others mark 0
--     way_least w          == the sum of the least delays on w
--     way_pair c w         == the pair of w: the unit of the empty way, else the first template's pair and then that of the rest. The cap at the end of a
--                            template is c d x, where x is its target and d the crossings that are left
--     WayM g d s v x      == x is m of v at distance d: the least of −(sum of d) over the ways of d crossings from v to s
--     WayCap g d s v c    == c is that m, or unlimited where there is no such way
--     WayPairs g c t d v  == the pairs of all ways of d crossings from v to t
-- What is said of ways knows neither k nor K nor the root, so it is the same at every occurrence. Assumes nothing.
use Rattle.std.specs.Prelude.{◌≡◌, ℕ, suc, ◌<◌, ℤ, pos, neg_ℤ, ◌+ℤ◌, ◌≤ℤ◌}
use Rattle.sets.specs.Limit.{Limit, number, unlimited}
use Rattle.sets.specs.Pair.{Pair, pair, compose, unit}
use Rattle.sets.specs.Family.{Family}
use Rattle.processes.specs.declared.Event.{Event}
use Rattle.processes.specs.Process.{templates, source, target, least, most, mark, ProcessGraph}

pub data Way (g : ProcessGraph) : ℕ → Event → Event → Type 0 where
  nothing : {v : Event} → Way g 0 v v
  within :
      {d : ℕ} {u v : Event} (j : ℕ) → j < templates g → mark g j ≡ 0 → source g j ≡ u
      → Way g d (target g j) v → Way g d u v
  across :
      {d : ℕ} {u v : Event} (j : ℕ) → j < templates g → mark g j ≡ 1 → source g j ≡ u
      → Way g d (target g j) v → Way g (suc d) u v

abbrev pub way_least : {g : ProcessGraph} {d : ℕ} {u v : Event} → Way g d u v → ℤ
way_least nothing = pos 0
way_least {g} (within j l m e w) = least g j +ℤ way_least w
way_least {g} (across j l m e w) = least g j +ℤ way_least w

abbrev pub way_pair : {g : ProcessGraph} (c : ℕ → Event → Limit) {d : ℕ} {u v : Event} → Way g d u v → Pair
way_pair c nothing = unit
way_pair {g} c (within {d} j l m e w) = compose (pair (number (most g j)) (c d (target g j))) (way_pair c w)
way_pair {g} c (across {d} j l m e w) = compose (pair (number (most g j)) (c d (target g j))) (way_pair c w)

pub record WayM (g : ProcessGraph) (d : ℕ) (s v : Event) (x : ℤ) : Type 0 where
  pub reached : (w : Way g d v s) × (neg_ℤ (way_least w) ≡ x)
  pub bound : (w : Way g d v s) → x ≤ℤ neg_ℤ (way_least w)

pub data WayCap (g : ProcessGraph) (d : ℕ) (s v : Event) : Limit → Type 0 where
  at_m : (x : ℤ) → WayM g d s v x → WayCap g d s v (number x)
  no_m : (Way g d v s → ⊥) → WayCap g d s v unlimited

abbrev pub WayPairs : (g : ProcessGraph) (c : ℕ → Event → Limit) (t : Event) (d : ℕ) (v : Event) → Family
WayPairs g c t d v l w = (way : Way g d v t) × (way_pair c way ≡ pair (number l) w)
