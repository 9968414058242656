use mathlib.Core.Path.{refl, ◌∙◌}
use native.Mathlib.Omega.{arith}
use borrow.Author.Tests.{eq-eqb, ne_eqb}
use lib.ListN.{get_or}
use Rattle.analysis.proofs.ServeLaws.{Turn, walking_begins, walking_serves, walking_ends}
use Rattle.analysis.proofs.order.serve.Goals as goal
use Rattle.analysis.proofs.order.serve.Goals.{In-Some}

turn :
    (c : In-Some) →
    Turn c.args.chains.now.lists.events c.args.chains.now.lists.sources.now c.args.chains.now.lists.targets.now c.args.chains.now.nexts.now
    (get_or c.args.order.now c.args.head 0) c.loop-rule.waiting c.loop-rule.order c.loop-rule.end c.args.head c.loop-rule.rule-iterator.e c.in-Some.rule
    (get_or c.args.chains.now.lists.sources.now c.in-Some.rule 0)
turn c = walking_serves _ _ _ _ _ c.args.chains.now.kept c.args.chains.now.chained _ _ _ _ _ _ _ _ c.loop-rule.invariant.1 c.in-Some.ensures.steps.0 refl

pub loop-rule-init : goal.loop-rule-init
loop-rule-init c =
    rw c.into_iter-rule-iterator.ensures.into_iter_gives
    (c.rules_into-rule-items.ensures.1, rw (c.rules_into-rule-items.ensures.0, c.from.ensures) (walking_begins _ _ _ _ _ c.args.chains.now.kept c.args.chains.now.chained _ _ _ _ c.requires.serving c.requires.head_lt_tail))

pub overflow_sub-left : goal.overflow_sub-left
overflow_sub-left c = (turn (goal.at.overflow_sub-left c).In-Some).source_waits

pub bounds-order-end : goal.bounds-order-end
bounds-order-end c = omega (arith, (turn (goal.at.bounds-order-end c).In-Some).room, c.loop-rule.invariant.1.progress.order_room)

pub loop-rule-preserved : goal.loop-rule-preserved
loop-rule-preserved c =
    let (it, same, next) = c.in-Some.ensures.steps in
    (same ∙ c.loop-rule.invariant.0, rw (next, c.loop-rule.invariant.0) ((turn (goal.at.loop-rule-preserved c).In-Some).moves _ (λ none. rw (c.from-end.ensures, eq-eqb _ _ none) refl) (λ some. rw (c.from-end.ensures, ne_eqb _ _ some) refl)))

pub returns : goal.returns
returns c = walking_ends _ _ _ _ _ c.args.chains.now.kept c.args.chains.now.chained _ _ _ _ _ _ c.loop-rule.invariant.1 (omega (arith, c.in-None.ensures.steps))
