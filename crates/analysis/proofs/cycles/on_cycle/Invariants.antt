-- `on_cycle` meets its contract. The loop's invariant is `Searching`; the list never holds more than 1,024 events. Assumes nothing.
use mathlib.Core.Path.{◌≡◌}
use Prim.Native.Nat.{◌-◌}
use lib.ListN.{length}
use Rattle.analysis.proofs.Searching.{Searching}
use Rattle.analysis.proofs.cycles.on_cycle.Given as goal

abbrev pub invariant-loop-at : goal.invariant-loop-at
invariant-loop-at l = Searching l.chains.lists.sources.now l.chains.lists.targets.now l.v l.at l.seen l.list l.end × (length l.seen ≡ 1024) × (length l.list ≡ 1024)

abbrev pub decreases-loop-at : goal.decreases-loop-at
decreases-loop-at l = 1024 - l.at
