-- `pruned` meets its contract. The invariant: of any candidates of which `next` gives the one that is selected next, what is kept is a beginning of what
-- pruning leaves. Assumes nothing.
use Rattle.std.proofs.Common.{◌-◌, List}
use Rattle.sets.specs.Pair.{Pair}
use Rattle.sets.specs.Parts.{Selects}
use Rattle.sets.proofs.Keeping.{Keeping}
use Rattle.sets.proofs.pruned.Given as goal

abbrev pub invariant-loop-pair : goal.invariant-loop-pair
invariant-loop-pair g l = (C : List Pair) → Selects C (goal.F-post g l.next) → Keeping C l.room l.set l.last

abbrev pub decreases-loop-pair : goal.decreases-loop-pair
decreases-loop-pair g l = l.room - l.set.count
