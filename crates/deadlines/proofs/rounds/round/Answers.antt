use Rattle.deadlines.proofs.Holding.{rules_turn}
use Rattle.deadlines.proofs.rounds.round.Goals as goal

pub loop-i-preserved : goal.loop-i-preserved
loop-i-preserved c = rules_turn c.requires.sized c.loop-i-test.true c.loop-i.invariant c.hold_rule-changed.ensures
