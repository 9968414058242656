-- `analyse` meets its contract: what its parts promise, put together. Assumes nothing.
use mathlib.Core.Path.{refl}
use Prim.Native.Nat.{◌<◌}
use native.Mathlib.Omega.{arith}
use lib.ListN.{length}
use Rattle.std.proofs.lemmas.Result.{err_from_is_err_and}
use Rattle.graphs.specs.Lists.{graph_in}
use Rattle.graphs.specs.Limits.{CountsKept}
use Rattle.refusals.proofs.Counts.{counts_of}
use Rattle.analysis.proofs.Promises.{analysed_counts, analysed_short, analysed_input, not_kept}
use Rattle.analysis.proofs.analyse.Goals as goal
use Rattle.analysis.proofs.analyse.Goals.{In_ok-check_counts, Else-latest-lists, then-s-lists-via-then-s-lists, then-s-lists-via-else-s-lists+then-t-lists}

counts : (c : In_ok-check_counts) → CountsKept (graph_in c.args.lists.now)
counts c = counts_of refl c.in_ok-check_counts.ensures

room : (c : Else-latest-lists) → length c.args.latest.now < c.args.lists.now.events → ⊥
room c l = omega (arith, c.if-latest-lists.false)

pub returns-in_err-check_counts : goal.returns-in_err-check_counts
returns-in_err-check_counts c =
    let p = err_from_is_err_and c.from_residual.result c.from_residual.ensures.1 in
    rw (p.1, p.2) (analysed_counts c.in_err-check_counts.ensures)

pub returns-then-latest-lists : goal.returns-then-latest-lists
returns-then-latest-lists c = analysed_short (counts (goal.at.returns-then-latest-lists c).In_ok-check_counts) c.if-latest-lists.true

pub input_refusal-requires : goal.input_refusal-requires
input_refusal-requires c =
    not_kept c.args.limit (graph_in c.args.lists.now) c.args.s c.args.t
    (λ k. elim c.then-s-lists.branch [
      | then-s-lists-via-then-s-lists w ↦ (let no : ⊥ = omega (arith, k.source_known, w.if-s-lists.true) in no)
      | then-s-lists-via-else-s-lists+then-t-lists w ↦ (let no : ⊥ = omega (arith, k.target_known, w.if-t-lists.true) in no)
    ])

pub returns-then-s-lists : goal.returns-then-s-lists
returns-then-s-lists c = analysed_input (room (goal.at.returns-then-s-lists c).Else-latest-lists) c.input_refusal.ensures

pub analyse_within-requires-clause-counts_kept : goal.analyse_within-requires-clause-counts_kept
analyse_within-requires-clause-counts_kept c =
    (counts (goal.at.analyse_within-requires-clause-counts_kept c).In_ok-check_counts, c.if-s-lists.false, c.if-t-lists.false, c.if-latest-lists.false)

pub analyse_within-requires-2-clause-counts_kept : goal.analyse_within-requires-2-clause-counts_kept
analyse_within-requires-2-clause-counts_kept c =
    (counts (goal.at.analyse_within-requires-2-clause-counts_kept c).In_ok-check_counts, c.if-s-lists.false, c.if-t-lists.false, c.if-latest-lists.false)

pub analyse_within-requires-2-clause-room : goal.analyse_within-requires-2-clause-room
analyse_within-requires-2-clause-room c =
    let sizes = counts (goal.at.analyse_within-requires-2-clause-room c).In_ok-check_counts in
    (sizes.few_events, omega arith, sizes.few_rules, omega arith)
