-- `mark_sources` meets its contract. The loop's invariant is `Marking`, at the rules that are left. Assumes nothing.
use mathlib.Core.Path.{◌≡◌}
use Rattle.analysis.proofs.Marking.{Marking}
use Rattle.analysis.proofs.cycles.mark_sources.Given as goal

abbrev pub invariant-loop-rule : goal.invariant-loop-rule
invariant-loop-rule l =
    (l.rule-iterator.nexts.now ≡ l.chains.nexts.now) ×
    Marking l.chains.lists.sources.now l.chains.lists.targets.now l.event l.initial.seen l.initial.list l.listed l.rule-iterator.e l.seen l.list l.end
