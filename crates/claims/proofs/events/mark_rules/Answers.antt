use Prim.Native.Nat.{◌<◌}
use native.Mathlib.Omega.{arith}
use lib.ListN.{length}
use Rattle.graphs.specs.Graph.{target}
use Rattle.graphs.specs.Lists.{graph_in}
use Rattle.claims.proofs.Marking.{marked_met, marked_early, marked_broken, marked_done}
use Rattle.claims.proofs.events.mark_rules.Goals as goal
use Rattle.claims.proofs.events.mark_rules.Goals.{in-Meets, in_default-verdict}

pub loop-i-preserved-in_default : goal.loop-i-preserved-in_default
loop-i-preserved-in_default c =
    let sized = c.args.claim.now.sized in
    let room : target (graph_in c.args.claim.now.lists) c.loop-i.i < length c.loop-i.met = omega (arith, c.requires, (sized.ends c.loop-i.i c.loop-i-test.true).target_known, sized.counts.few_events) in
    elim c.match-verdict-2.branch [
      | in-Meets w ↦ marked_met _ _ _ _ _ _ _ c.loop-i.invariant w.in-Meets.ensures room _ w.met-is
      | in_default-verdict w ↦ rw w.met-is (marked_early _ _ _ _ _ _ _ c.loop-i.invariant _ c.rule_verdict-verdict.ensures w.in_default-verdict.not-Meets c.in_default.not-Broken)
    ]

pub loop-i-preserved : goal.loop-i-preserved
loop-i-preserved c = marked_broken _ _ _ _ _ _ _ c.loop-i.invariant _ _ c.in-Broken.ensures (omega arith)

pub returns : goal.returns
returns c = marked_done _ _ _ _ _ _ _ c.loop-i.invariant _ (omega arith)
