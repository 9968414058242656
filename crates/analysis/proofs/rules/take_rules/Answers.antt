use mathlib.Core.Path.{refl}
use native.Mathlib.Omega.{arith}
use lib.ListN.{get_or}
use Rattle.analysis.proofs.TakeRulesLaws.{taking_none, taking_more, taking_fits, taking_all}
use Rattle.analysis.proofs.rules.take_rules.Goals as goal

pub loop-i-init : goal.loop-i-init
loop-i-init c = taking_none _ _ _ _ _ c.requires.zeros.0 c.requires.zeros.1 c.requires.zeros.2

pub overflow_add-waiting : goal.overflow_add-waiting
overflow_add-waiting c =
    let right = c.rule_right.ensures.yes c.if-not-rule_right.false in
    let counts = c.requires.counts_kept in
    omega (arith, taking_fits _ _ _ _ _ _ c.loop-i.invariant (get_or c.args.lists.now.sources.now c.loop-i.i 0) (omega (arith, right.source_known, c.loop-i.invariant.waiting_room)), c.loop-i-test.true, counts.few_rules)

pub loop-i-preserved : goal.loop-i-preserved
loop-i-preserved c = taking_more _ _ _ _ _ _ c.loop-i.invariant _ _ c.loop-i-test.true refl refl (c.rule_right.ensures.yes c.if-not-rule_right.false)

pub returns : goal.returns
returns c = taking_all _ _ _ _ _ _ c.loop-i.invariant c.requires.counts_kept c.loop-i-test.false
