use mathlib.Core.Path.{◌∙◌}
use Prim.Native.Nat.{◌<◌}
use native.Mathlib.Omega.{arith}
use lib.ListN.{get_or}
use Rattle.analysis.proofs.Searching.{listing_none, searching_start, searching_step, searching_known, searching_end}
use Rattle.analysis.proofs.cycles.on_cycle.Goals as goal
use Rattle.analysis.proofs.cycles.on_cycle.Goals.{In-loop-at}

-- the event at hand
event_below : (c : In-loop-at) → get_or c.loop-at.list c.loop-at.at 0 < c.args.chains.now.lists.events
event_below c =
    let kept = c.args.chains.now.kept in
    searching_known _ _ kept.targets_match _ _ _ _ _ c.loop-at.invariant.0 c.loop-at-test.true kept.sources_below

pub mark_sources-end-requires-clause-listing : goal.mark_sources-end-requires-clause-listing
mark_sources-end-requires-clause-listing c = listing_none 1024 _

pub loop-at-init : goal.loop-at-init
loop-at-init c =
    let marked = c.mark_sources-end in
    (searching_start _ _ c.args.chains.now.kept.targets_match _ 1024 _ _ _ _ marked.ensures, marked.auto.seen, marked.auto.list)

pub mark_sources-end-requires-in-loop-at-clause-in_bounds : goal.mark_sources-end-requires-in-loop-at-clause-in_bounds
mark_sources-end-requires-in-loop-at-clause-in_bounds c =
    let (search, seen-long, list-long) = c.loop-at.invariant in
    (rw c.from.ensures (event_below (goal.at.mark_sources-end-requires-in-loop-at-clause-in_bounds c).In-loop-at), omega (arith, c.args.chains.now.kept.few_events), omega arith, omega arith)

pub loop-at-preserved : goal.loop-at-preserved
loop-at-preserved c =
    let (search, seen-long, list-long) = c.loop-at.invariant in
    let marked = c.mark_sources-end-in-loop-at in (
      searching_step _ _ c.args.chains.now.kept.targets_match _ _ _ _ _ search c.loop-at-test.true _ _ _ (rw c.from.ensures at marked.ensures),
      marked.auto.seen ∙ seen-long,
      marked.auto.list ∙ list-long,
    )

pub returns : goal.returns
returns c = searching_end _ _ c.args.chains.now.kept.targets_match _ _ _ _ _ c.loop-at.invariant.0 c.loop-at-test.false
