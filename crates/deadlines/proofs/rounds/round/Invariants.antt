-- `round` meets its contract: a loop that holds one rule a turn. Assumes nothing.
use Rattle.graphs.specs.Lists.{graph_in}
use Rattle.deadlines.specs.Parts.Rounds.{RulesHeld}
use Rattle.deadlines.proofs.rounds.round.Given as goal

abbrev pub invariant-loop-i : goal.invariant-loop-i
invariant-loop-i l = RulesHeld (graph_in l.lists) l.i l.initial.numbers l.numbers l.changed
