-- `serve` meets its contract. The invariant: the walk stands at the rules that are left (ServeLaws.antt). Assumes nothing.
use mathlib.Core.Path.{◌≡◌}
use lib.ListN.{get_or}
use Rattle.analysis.proofs.ServeLaws.{Walking}
use Rattle.analysis.proofs.order.serve.Given as goal

abbrev pub invariant-loop-rule : goal.invariant-loop-rule
invariant-loop-rule l =
    (l.rule-iterator.nexts.now ≡ l.chains.nexts.now) ×
    Walking l.chains.lists.events l.chains.lists.sources.now l.chains.lists.targets.now (get_or l.fn.order l.head 0) l.waiting l.order l.end l.head l.rule-iterator.e
