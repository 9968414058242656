-- `settle` meets its contract: a loop that makes one round a turn, and ends where a round changes nothing. Assumes nothing.
use Rattle.graphs.specs.Lists.{graph_in}
use Rattle.deadlines.proofs.Settling.{RoundsDone}
use Rattle.deadlines.proofs.rounds.settle.Given as goal

abbrev pub invariant-loop : goal.invariant-loop
invariant-loop l = RoundsDone (graph_in l.lists) l.counter l.initial.numbers l.numbers
