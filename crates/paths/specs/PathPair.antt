-- The pair of a path, and the pairs of all paths from an event to the target. Document 02, request 7: "the function from its value to the target's, over
-- all paths between them: a set of pairs (l, w)"; report, equations 5 to 7 and 12. Caps stand at the end of each rule, so the first event of a path is not
-- capped and its last is. Values are U itself, and an event with no m has an unlimited cap.
--     rule_pair g cap i       == the pair of rule i: its most delay, and the cap of its target
--     path_pair cap p         == the pair of path p: the unit of the empty path, else the first rule's pair and then that of the rest
--     PathPairs g cap t v    == the pairs of all paths from v to t
--     Overfull g s t room    == for some event the fully pruned set over all paths to t has more than `room` pairs
-- Assumes nothing.
use Rattle.std.specs.Prelude.{◌≡◌, List, ℕ, ◌<◌, length}
use Rattle.graphs.specs.Graph.{Graph, target, most}
use Rattle.graphs.specs.Path.{Path, stay, step}
use Rattle.sets.specs.Limit.{Limit, number}
use Rattle.sets.specs.Pair.{Pair, pair, compose, unit}
use Rattle.sets.specs.Family.{Family, Closes}
use Rattle.paths.specs.Cap.{Caps}

-- report, equations 4 and 5, with the value U in place of U − m: at the end of a rule stands the lesser of U(source) + D and m(target)
abbrev pub rule_pair : Graph → (ℕ → Limit) → ℕ → Pair
rule_pair g cap i = pair (number (most g i)) (cap (target g i))

abbrev pub path_pair : {g : Graph} (cap : ℕ → Limit) {u v : ℕ} → Path g u v → Pair
path_pair cap stay = unit
path_pair {g} cap (step i h e f p) = compose (rule_pair g cap i) (path_pair cap p)

abbrev pub PathPairs : (g : Graph) (cap : ℕ → Limit) (t v : ℕ) → Family
PathPairs g cap t v l w = (p : Path g v t) × (path_pair cap p ≡ pair (number l) w)

-- "exactly if for some occurrence, or the root, the fully pruned set over all paths to the target has more than 64 pairs"
pub record Overfull (g : Graph) (s t room : ℕ) : Type 0 where
  pub cap : ℕ → Limit
  pub caps : Caps g s cap
  pub event : ℕ
  pub is_event : event < g.events
  pub set : List Pair
  pub closes : Closes set (PathPairs g cap t event)
  pub over : room < length set
