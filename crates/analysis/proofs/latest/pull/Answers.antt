use mathlib.Core.Path.{◌≡◌, sym, ◌∙◌}
use Prim.Native.Nat.{suc, ◌<◌}
use native.Mathlib.Omega.{arith}
use lib.ListN.{length, get_or}
use mir.Syntax.{w32}
use mir.ValLaws.{to_z-of_z}
use Rattle.analysis.proofs.Extremes.{greatest_is, deepest_is}
use Rattle.analysis.proofs.PullLaws.{best_start, best_step, best_end, rule_into}
use Rattle.analysis.proofs.latest.pull.Goals as goal
use Rattle.analysis.proofs.latest.pull.Goals.{In-Some}

into : (c : In-Some) → (c.in-Some.i < length c.args.chains.now.lists.targets.now) × (get_or c.args.chains.now.lists.targets.now c.in-Some.i 0 ≡ c.args.v)
into c = rule_into _ _ _ _ _ _ _ _ _ c.requires c.loop-i.invariant.1.walk _ c.in-Some.ensures.steps.0

pub loop-i-init : goal.loop-i-init
loop-i-init c =
    let (at, own) = c.rules_into-rules.ensures in
    let steps :
    (c.rules_into-rules.result.e ≡ suc c.unwrap-first.result) × (c.next.new.self.nexts.now ≡ c.rules_into-rules.result.nexts.now) ×
    (c.next.new.self.e ≡ get_or c.rules_into-rules.result.nexts.now c.unwrap-first.result 0) =
    rw c.unwrap-first.ensures at c.next.ensures.steps in
    let (it, same, next) = steps in
    let chained = c.args.chains.now.chained.chained in
    let known : c.args.v < length c.args.chains.now.heads.now = omega (arith, c.requires.known, c.requires.chains.heads_room) in
    let held = to_z-of_z w32 c.arrival_by-time.result (record { sfits = c.arrival_by-time.type_inv }) in
    rw c.into_iter-i-iterator.ensures.into_iter_gives (
      same ∙ own,
      rw (next, own, held) (best_start _ _ _ chained _ _ _ known (sym at ∙ it) _ c.arrival_by-time.ensures),
      rw (next, own) (best_start _ _ _ chained _ _ _ known (sym at ∙ it) _ c.depth_by-deep.ensures),
    )

pub arrival_by-requires : goal.arrival_by-requires
arrival_by-requires c = let (l, to) = into c in c.requires.addable _ l to

pub depth_by-requires : goal.depth_by-requires
depth_by-requires c = let (l, to) = into (goal.at.depth_by-requires c).In-Some in c.requires.deepenable _ l to

pub loop-i-preserved : goal.loop-i-preserved
loop-i-preserved c =
    let (nexts, best, deepest) = c.loop-i.invariant in
    let (it, same, next) = c.in-Some.ensures.steps in
    let chained = c.args.chains.now.chained.chained in
    let held = to_z-of_z w32 c.max-time.result (record { sfits = c.max-time.type_inv }) in
    let brought = to_z-of_z w32 c.arrival_by.result (record { sfits = c.arrival_by.type_inv }) in (
      same ∙ nexts,
      rw (next, nexts, held) (best_step _ _ _ chained _ _ _ _ _ _ _ best it (brought ∙ c.arrival_by.ensures) (greatest_is _ _ _ c.max-time.ensures.value)),
      rw (next, nexts) (best_step _ _ _ chained _ _ _ _ _ _ _ deepest it c.depth_by.ensures (deepest_is _ _ _ c.max-deep.ensures)),
    )

pub returns : goal.returns
returns c =
    let (nexts, best, deepest) = c.loop-i.invariant in
    record {
      arrival = λ ds. best_end _ _ _ ds _ _ _ _ _ c.requires.targets_match c.in-None.ensures.steps best;
      deepest = λ ds. best_end _ _ _ ds _ _ _ _ _ c.requires.targets_match c.in-None.ensures.steps deepest;
    }
