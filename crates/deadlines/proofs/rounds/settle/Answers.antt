use Rattle.deadlines.proofs.Settling.{rounds_none, rounds_more, rounds_settled, rounds_late}
use Rattle.deadlines.proofs.rounds.settle.Goals as goal

pub loop-init : goal.loop-init
loop-init c = rounds_none c.requires.event_graph c.requires.n_in_bounds.1

pub returns-then-not-round : goal.returns-then-not-round
returns-then-not-round c = rounds_settled c.requires.event_graph c.loop.invariant c.round.ensures c.if-not-round.true c.above_floor.ensures

pub loop-preserved : goal.loop-preserved
loop-preserved c = rounds_more c.requires.event_graph c.loop.invariant c.round.ensures c.if-not-round.false c.loop-test.true

pub returns : goal.returns
returns c = rounds_late c.requires.event_graph c.loop.invariant c.loop-test.false
