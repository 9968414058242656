-- `take_rules` meets its contract. The invariant: the rules below i are taken (TakeRulesLaws.antt). Assumes nothing.
use Rattle.graphs.specs.Lists.{graph_in}
use Rattle.analysis.proofs.TakeRulesLaws.{Taking}
use Rattle.analysis.proofs.rules.take_rules.Given as goal

abbrev pub invariant-loop-i : goal.invariant-loop-i
invariant-loop-i l = Taking l.bound (graph_in l.lists) l.heads l.nexts l.waiting l.i
