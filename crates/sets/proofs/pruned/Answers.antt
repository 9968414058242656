-- `pruned` meets its contract: at each turn what is kept is a beginning of what pruning leaves. Assumes nothing.
use Rattle.std.proofs.Common.{arith}
use Rattle.sets.proofs.Keeping.{keeping_start, keeping_more, keeping_end, keeping_over, promised}
use Rattle.sets.proofs.pruned.Goals as goal

pub loop-pair-init : goal.loop-pair-init
loop-pair-init g c = λ C selects. rw c.zero-set.ensures (keeping_start _ _)

pub returns-then-set-room : goal.returns-then-set-room
returns-then-set-room g c = λ C selects.
    promised _ _ c.min-room.ensures (keeping_over C (c.loop-pair.invariant C selects) _ (selects _ _ c.in-Some.ensures) (omega arith))

pub loop-pair-preserved : goal.loop-pair-preserved
loop-pair-preserved g c = λ C selects.
    keeping_more C (c.loop-pair.invariant C selects) _ (selects _ _ c.in-Some.ensures) (omega arith) (omega (arith, c.min-room.ensures))

pub returns : goal.returns
returns g c = λ C selects. promised _ _ c.min-room.ensures (keeping_end C (c.loop-pair.invariant C selects) (selects _ _ c.in_default.ensures))
