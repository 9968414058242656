-- `lowest_unreached` meets its contract: by the rules into the events, or by the marks. Assumes nothing.
use Rattle.analysis.proofs.ReachPass.{led_reachable, marked_lowest}
use Rattle.analysis.proofs.reach.lowest_unreached.Goals as goal

pub returns-then-all_led : goal.returns-then-all_led
returns-then-all_led c = led_reachable _ _ _ _ _ _ c.requires.0 _ _ (c.all_led.ensures c.if-all_led.true)

pub returns : goal.returns
returns c = marked_lowest _ _ c.mark_reached.ensures c.lowest_unmarked.result c.lowest_unmarked.ensures
