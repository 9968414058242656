-- `check_input` meets its contract. Each return gives the first refusal that applies: the checks passed before shut out the earlier ones. Assumes nothing.
use mathlib.Core.Path.{sym, ◌∙◌, refl}
use Prim.Native.Nat.{ℕ, ◌<◌}
use Rattle.std.proofs.lemmas.Result.{err_from_is_err_and}
use Rattle.graphs.specs.Graph.{rules}
use Rattle.graphs.specs.Lists.{graph_in}
use Rattle.graphs.specs.Limits.{CountsKept, EndsKept, Sized}
use Rattle.refusals.specs.Question.{delay_limit}
use Rattle.refusals.proofs.Unique.{some_number}
use Rattle.refusals.proofs.Question.{lowest_unknown, all_ends_kept, lowest_beyond, all_delays_kept, input_2, input_3, input_4_source, input_4_target, kept_accepted}
use Rattle.refusals.proofs.Counts.{counts_of, counts_given}
use Rattle.refusals.proofs.check_input.Goals as goal
use Rattle.refusals.proofs.check_input.Goals.{In_default, In_default-beyond_delay, In_ok-check_counts}

counts : (c : In_ok-check_counts) → CountsKept (graph_in c.args.lists.now)
counts c = counts_of refl (c.in_ok-check_counts.ensures)

ends : (c : In_default) (i : ℕ) → i < rules (graph_in c.args.lists.now) → EndsKept (graph_in c.args.lists.now) i
ends c = all_ends_kept (counts_of refl (c.in_ok-check_counts.ensures)).targets_match (c.in_default.ensures)

sized : (c : In_default-beyond_delay) → Sized (delay_limit c.args.limit) (graph_in c.args.lists.now)
sized c =
    let sizes = counts_of refl (c.in_ok-check_counts.ensures) in
    record {
      counts = sizes;
      ends = all_ends_kept sizes.targets_match c.in_default.ensures;
      delays = all_delays_kept (sizes.mosts_match ∙ sym sizes.leasts_match) sizes.leasts_match (rw c.delay_limit.ensures at c.in_default-beyond_delay.ensures);
    }

pub returns-in_err-check_counts : goal.returns-in_err-check_counts
returns-in_err-check_counts c =
    let p = err_from_is_err_and c.from_residual.result c.from_residual.ensures.1 in
    rw (p.1, p.2) (counts_given _ (some_number _) (c.in_err-check_counts.ensures))

pub returns-in-Some : goal.returns-in-Some
returns-in-Some c =
    let sizes = counts (goal.at.returns-in-Some c).In_ok-check_counts in
    input_2 sizes (lowest_unknown sizes.targets_match (c.in-Some.ensures))

pub returns-in-Some-beyond_delay : goal.returns-in-Some-beyond_delay
returns-in-Some-beyond_delay c =
    let sizes = counts (goal.at.returns-in-Some-beyond_delay c).In_ok-check_counts in
    input_3 sizes (ends (goal.at.returns-in-Some-beyond_delay c).In_default)
    (lowest_beyond (sizes.mosts_match ∙ sym sizes.leasts_match) sizes.leasts_match (rw c.delay_limit.ensures at c.in-Some-beyond_delay.ensures))

pub returns-then-s-lists : goal.returns-then-s-lists
returns-then-s-lists c = input_4_source (sized (goal.at.returns-then-s-lists c).In_default-beyond_delay) c.if-s-lists.true

pub returns-then-t-lists : goal.returns-then-t-lists
returns-then-t-lists c = input_4_target (sized (goal.at.returns-then-t-lists c).In_default-beyond_delay) c.if-s-lists.false c.if-t-lists.true

pub returns : goal.returns
returns c = kept_accepted (record { sized = sized (goal.at.returns c).In_default-beyond_delay; source_known = c.if-s-lists.false; target_known = c.if-t-lists.false })
