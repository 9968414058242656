-- `judge` meets its contract. Each return gives what the tests passed before leave. Assumes nothing.
use mathlib.Core.Path.{refl}
use mathlib.Core.Logic.{inl, inr, ⊎_elim}
use native.Mathlib.Omega.{arith}
use Rattle.std.proofs.Common.{rules}
use Rattle.std.proofs.lemmas.Result.{err_from_is_err_and}
use lib.IntN.{◌-ℤ◌}
use mir.Syntax.{w64}
use mir.Val.{SFits}
use mir.Facts.{to_z-of_z}
use Rattle.graphs.specs.Lists.{graph_in}
use Rattle.graphs.proofs.Limits.{sound_of}
use Rattle.graphs.proofs.Greatest.{root_has_no_rule}
use Rattle.refusals.proofs.Counts.{counts_of}
use Rattle.executions.specs.Execution.{Execution}
use Rattle.separation.specs.Promise.{at}
use Rattle.claims.specs.Claim.{WrongLists}
use Rattle.claims.specs.Parts.Verdicts.{NumberJudged}
use Rattle.claims.proofs.Executions.{execution_of}
use Rattle.claims.proofs.Judging.{judged_counts, judged_lists, judged_handed, judged_broken, small, judged_number}
use Rattle.claims.proofs.judge.Goals as goal
use Rattle.claims.proofs.judge.Goals.{In_ok-check_counts, Else-delays-lists, In_default, then-times-lists-via-then-times-lists, then-times-lists-via-else-times-lists+then-delays-lists}

right : (c : Else-delays-lists) → WrongLists (graph_in c.args.lists.now) c.args.times.now c.args.delays.now → ⊥
right c = ⊎_elim (λ wrong. wrong (omega arith)) (λ wrong. wrong (omega arith))

execution : (c : In_default) → Execution (graph_in c.args.lists.now) (at c.args.delays.now) (at c.args.times.now)
execution c = execution_of (sound_of (c.in_ok-found.ensures.found refl).graph) c.in_default.ensures

pub returns-in_err-check_counts : goal.returns-in_err-check_counts
returns-in_err-check_counts c =
    let p = err_from_is_err_and c.from_residual.result c.from_residual.ensures.1 in
    rw (p.1, p.2) (judged_counts _ c.in_err-check_counts.ensures)

pub returns-then-times-lists : goal.returns-then-times-lists
returns-then-times-lists c =
    judged_lists (counts_of refl c.in_ok-check_counts.ensures)
    (elim c.then-times-lists.branch [
      | then-times-lists-via-then-times-lists w ↦ inl w.if-times-lists.true
      | then-times-lists-via-else-times-lists+then-delays-lists w ↦ inr w.if-delays-lists.true
    ])

pub returns-in_err-found : goal.returns-in_err-found
returns-in_err-found c =
    let p = err_from_is_err_and c.from_residual-in_err-found.result c.from_residual-in_err-found.ensures.1 in
    rw (p.1, p.2) (judged_handed (right (goal.at.returns-in_err-found c).Else-delays-lists) _ c.in_err-found.ensures.verdict)

pub invariant_of-claim : goal.invariant_of-claim
invariant_of-claim c =
    let graph = (c.in_ok-found.ensures.found refl).graph in
    record { sized = graph.sized; root_free = root_has_no_rule (sound_of graph); times_length = c.if-times-lists.false; delays_length = c.if-delays-lists.false }

pub returns-in-Some : goal.returns-in-Some
returns-in-Some c = judged_broken (right (goal.at.returns-in-Some c).Else-delays-lists) c.in_ok-found.ensures.verdict c.in-Some.ensures

pub judge_number-requires : goal.judge_number-requires
judge_number-requires c =
    let f = c.in_ok-found.ensures.found refl in
    let x = execution (goal.at.judge_number-requires c).In_default in
    (small f.graph x f.source_known (search rules), small f.graph x f.target_known (search rules))

pub returns : goal.returns
returns c =
    let start : SFits w64 (at c.args.times.now c.args.s) = search rules in
    let end : SFits w64 (at c.args.times.now c.args.t) = search rules in
    let claimed : SFits w64 c.args.claimed = c.ranges.claimed in
    let top : SFits w64 c.in_ok-found.found.separation = search rules in
    let n : NumberJudged (at c.args.times.now c.args.t -ℤ at c.args.times.now c.args.s) c.args.claimed c.in_ok-found.found.separation c.judge_number.result = simp to_z-of_z at c.judge_number.ensures in
    judged_number (right (goal.at.returns c).Else-delays-lists) c.in_ok-found.ensures.verdict _ (c.in_ok-found.ensures.found refl).greatest (execution (goal.at.returns c).In_default) _ n
