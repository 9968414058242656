-- `up` meets its contract: where the multiple beside x lies below x, one step mends it. Assumes nothing.
use Rattle.rounding.proofs.Outward.{step_more_fits, up_by_step, up_as_is}
use Rattle.rounding.proofs.up.Goals as goal

pub overflow_add-result : goal.overflow_add-result
overflow_add-result c = step_more_fits c.args.step.few c.requires c.toward_zero-y.ensures

pub returns-then-y-x : goal.returns-then-y-x
returns-then-y-x c = up_by_step c.args.step.few c.requires c.toward_zero-y.ensures c.if-y-x.true

pub returns-else-y-x : goal.returns-else-y-x
returns-else-y-x c = up_as_is c.args.step.few c.requires c.toward_zero-y.ensures c.if-y-x.false
