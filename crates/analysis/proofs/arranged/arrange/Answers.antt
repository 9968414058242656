-- `arrange` meets its contract: what `order_events` and `lowest_on_cycle` promise, put together. Assumes nothing.
use Rattle.verdicts.specs.Verdict.{FoundAt}
use Rattle.analysis.specs.Parts.InChains.{LiesOnIn, LiesOffIn}
use Rattle.analysis.proofs.Arranging.{some_on, lowest_on}
use Rattle.analysis.proofs.arranged.arrange.Goals as goal

pub unwrap-event-requires : goal.unwrap-event-requires
unwrap-event-requires c = some_on c.args.chains.now.kept.sources_below (c.order_events.ensures.cyclic c.if-order_events.false) c.lowest_on_cycle.result c.lowest_on_cycle.ensures

pub returns : goal.returns
returns c =
    let found : FoundAt c.args.chains.now.lists.events (LiesOffIn c.args.chains.now) (LiesOnIn c.args.chains.now) c.unwrap-event.result = rw c.unwrap-event.ensures at c.lowest_on_cycle.ensures in
    lowest_on found _ _
