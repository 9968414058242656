-- `order_events` meets its contract: what holds after the last step says which of the two it is (OrderEventsLaws.antt). Assumes nothing.
use Rattle.analysis.proofs.OrderEventsLaws.{served_ordered}
use Rattle.analysis.proofs.order.order_events.Goals as goal

pub returns : goal.returns
returns c = served_ordered _ _ _ _ _ _ c.args.chains.now.kept c.serve_all-placed.ensures
