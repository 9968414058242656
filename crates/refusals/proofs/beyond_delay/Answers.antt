use mir.Syntax.{w64}
use Rattle.integers.proofs.Word.{read_pair}
use Rattle.graphs.specs.Refusal.{BeyondDelays}
use Rattle.refusals.specs.Faults.{BoundedDelays}
use Rattle.verdicts.proofs.Searches.{before_more}
use Rattle.refusals.proofs.beyond_delay.Goals as goal

pub returns-then-delays_beyond : goal.returns-then-delays_beyond
returns-then-delays_beyond c =
    let d = c.delays_beyond-arg-1.given in
    let D = c.delays_beyond-arg-in-loop-i-1.given in
    record { below = rw c.min-i-end.ensures at c.loop-i-test.true; before = c.loop-i.invariant; bad = read_pair w64 (BeyondDelays _) _ _ d D c.if-delays_beyond.ensures }

pub loop-i-preserved : goal.loop-i-preserved
loop-i-preserved c =
    let d = c.delays_beyond-arg-1.given in
    let D = c.delays_beyond-arg-in-loop-i-1.given in
    before_more _ c.loop-i.i c.loop-i.invariant (read_pair w64 (BoundedDelays _) _ _ d D c.if-delays_beyond.ensures)
