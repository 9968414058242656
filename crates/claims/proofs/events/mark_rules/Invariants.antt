-- `mark_rules` meets its contract. The invariant: what is found is so of the rules passed. Assumes nothing.
use Rattle.graphs.specs.Lists.{graph_in}
use Rattle.separation.specs.Promise.{at}
use Rattle.claims.specs.Parts.Marks.{RulesMarked}
use Rattle.claims.proofs.events.mark_rules.Given as goal

abbrev pub invariant-loop-i : goal.invariant-loop-i
invariant-loop-i l = RulesMarked (graph_in l.claim.lists) (at l.claim.delays.now) (at l.claim.times.now) l.initial.met l.i l.unbroken l.met
