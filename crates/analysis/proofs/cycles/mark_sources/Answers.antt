use mathlib.Core.Path.{◌∙◌}
use Prim.Native.Nat.{◌<◌, ◌≤◌}
use native.Mathlib.Omega.{arith}
use lib.ListN.{length, get_or}
use Rattle.analysis.proofs.Marking.{listing_room, marking_new}
use Rattle.analysis.proofs.cycles.mark_sources.Goals as goal
use Rattle.analysis.proofs.cycles.mark_sources.Goals.{Then-not-seen-source}

source-below : (c : Then-not-seen-source) → get_or c.args.chains.now.lists.sources.now c.in-Some.rule 0 < length c.loop-rule.seen
source-below c =
    let kept = c.args.chains.now.kept in
    omega (arith, kept.sources_below.below c.in-Some.rule (omega (arith, c.loop-rule.invariant.1.walk.within, c.in-Some.ensures.steps.0, kept.targets_match)), c.requires.in_bounds, c.loop-rule.auto.seen)

lists-long : (c : Then-not-seen-source) → length c.loop-rule.seen ≤ length c.loop-rule.list
lists-long c = omega (arith, c.requires.in_bounds, c.loop-rule.auto.seen, c.loop-rule.auto.list)

-- an event that is not marked has room in the list
pub bounds-list-end : goal.bounds-list-end
bounds-list-end c = omega (arith, listing_room _ _ _ c.loop-rule.invariant.1.listing _ (source-below c) c.if-not-seen-source.true, lists-long c)

pub loop-rule-preserved-then-not-seen-source : goal.loop-rule-preserved-then-not-seen-source
loop-rule-preserved-then-not-seen-source c =
    let (it, same, next) = c.in-Some.ensures.steps in
    let chained = c.args.chains.now.chained.chained in
    (same ∙ c.loop-rule.invariant.0, rw (next, c.loop-rule.invariant.0) (marking_new _ _ _ _ chained _ _ _ _ _ _ it _ _ _ c.loop-rule.invariant.1 (source-below c) (lists-long c) c.if-not-seen-source.true))
