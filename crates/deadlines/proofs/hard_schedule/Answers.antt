-- `hard_schedule` meets its contract: what `check_counts`, `both_ends`, `write_gaps` and `write_differences` promise, put together. Assumes nothing.
use mathlib.Core.Path.{refl}
use mathlib.Core.Logic.{inl, inr, ⊎_elim}
use native.Mathlib.Omega.{arith}
use Rattle.std.proofs.lemmas.Result.{err_from_is_err_and}
use Rattle.graphs.specs.Lists.{graph_in}
use Rattle.graphs.specs.Limits.{CountsKept}
use Rattle.refusals.proofs.Counts.{counts_of}
use Rattle.separation.specs.Promise.{ShortLists}
use Rattle.deadlines.proofs.Answers.{answered_alone, answered_counts, answered_short}
use Rattle.deadlines.proofs.Writing.{rule_timed, lists_written}
use Rattle.deadlines.proofs.hard_schedule.Goals as goal
use Rattle.deadlines.proofs.hard_schedule.Goals.{In_ok-check_counts, Else-delays-lists, then-times-lists-via-then-times-lists, then-times-lists-via-else-times-lists+then-delays-lists}

counts : (c : In_ok-check_counts) → CountsKept (graph_in c.args.lists.now)
counts c = counts_of refl c.in_ok-check_counts.ensures

-- past the test of the lists: neither is too short
roomy : (c : Else-delays-lists) → ShortLists (graph_in c.args.lists.now) c.args.times.now c.args.delays.now → ⊥
roomy c = ⊎_elim (λ h. let no : ⊥ = omega (arith, c.if-times-lists.false) in no) (λ h. let no : ⊥ = omega (arith, c.if-delays-lists.false) in no)

pub returns-in_err-check_counts-clause-hard_answered : goal.returns-in_err-check_counts-clause-hard_answered
returns-in_err-check_counts-clause-hard_answered c =
    let p = err_from_is_err_and c.from_residual.result c.from_residual.ensures.1 in
    rw (p.1, p.2) (answered_counts _ c.in_err-check_counts.ensures)

pub returns-then-times-lists-clause-hard_answered : goal.returns-then-times-lists-clause-hard_answered
returns-then-times-lists-clause-hard_answered c =
    answered_short (counts (goal.at.returns-then-times-lists-clause-hard_answered c).In_ok-check_counts)
    (elim c.then-times-lists.branch [
      | then-times-lists-via-then-times-lists w ↦ inl w.if-times-lists.true
      | then-times-lists-via-else-times-lists+then-delays-lists w ↦ inr w.if-delays-lists.true
    ])

pub returns-in_err-found-clause-hard_answered : goal.returns-in_err-found-clause-hard_answered
returns-in_err-found-clause-hard_answered c =
    let p = err_from_is_err_and c.from_residual-in_err-found.result c.from_residual-in_err-found.ensures.1 in
    rw (p.1, p.2) (answered_alone (roomy (goal.at.returns-in_err-found-clause-hard_answered c).Else-delays-lists) c.in_err-found.ensures.answer)

pub write_differences-requires-clause-timed : goal.write_differences-requires-clause-timed
write_differences-requires-clause-timed c = rule_timed c.in_ok-found.ensures refl c.write_gaps.ensures (omega (arith, c.write_gaps.auto.gaps, c.if-times-lists.false))

pub returns-clause-hard_answered : goal.returns-clause-hard_answered
returns-clause-hard_answered c = answered_alone (roomy (goal.at.returns-clause-hard_answered c).Else-delays-lists) c.in_ok-found.ensures.answer

pub returns-clause-hard_written : goal.returns-clause-hard_written
returns-clause-hard_written c =
    lists_written c.in_ok-found.ensures refl c.write_gaps.ensures c.write_gaps.auto.gaps c.write_differences.ensures c.write_differences.auto.delays
