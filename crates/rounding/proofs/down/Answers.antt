-- `down` meets its contract: where the multiple beside x lies above x, one step mends it. Assumes nothing.
use Rattle.rounding.proofs.Outward.{step_less_fits, down_by_step, down_as_is}
use Rattle.rounding.proofs.down.Goals as goal

pub overflow_sub-result : goal.overflow_sub-result
overflow_sub-result c = step_less_fits c.args.step.few c.requires c.toward_zero-y.ensures

pub returns-then-x-y : goal.returns-then-x-y
returns-then-x-y c = down_by_step c.args.step.few c.requires c.toward_zero-y.ensures c.if-x-y.true

pub returns-else-x-y : goal.returns-else-x-y
returns-else-x-y c = down_as_is c.args.step.few c.requires c.toward_zero-y.ensures c.if-x-y.false
