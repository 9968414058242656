-- `check_process` meets its contract. Each return gives the first refusal that applies: the checks passed before shut out the earlier ones.
-- Assumes nothing.
use mathlib.Core.Path.{refl}
use Prim.Native.Nat.{ℕ, ◌<◌}
use native.Mathlib.Omega.{arith}
use Rattle.std.proofs.lemmas.Result.{err_from_is_err_and}
use Rattle.refusals.specs.Faults.{EndsKnown}
use Rattle.refusals.specs.declared.Refusal.TheVariants.{UnknownEvent, DelayOutside, MarkOutside, ShortList}
use Rattle.processes.specs.Lists.{process_in}
use Rattle.processes.specs.Process.{templates}
use Rattle.processes.specs.Parts.Checks.{ProcessCountsKept}
use Rattle.processes.proofs.Verdicts.{lowest_unknown, lowest_outside, lowest_broken, process_23, process_2, process_3, process_7, refusal_checked, counts_checked, kept_checked}
use Rattle.processes.proofs.Refusals.{counts_from}
use Rattle.processes.proofs.input.check_process.Goals as goal
use Rattle.processes.proofs.input.check_process.Goals.{In_ok-check_counts, In_default}

counts : (c : In_ok-check_counts) → ProcessCountsKept (process_in c.args.process.now) c.args.copies
counts c = counts_from refl c.in_ok-check_counts.ensures

known : (c : In_default) (j : ℕ) → j < templates (process_in c.args.process.now) → EndsKnown c.args.process.now.events c.args.process.now.sources.now c.args.process.now.targets.now j
known c j l = let same = (counts_from refl c.in_ok-check_counts.ensures).lists.targets_match in c.in_default.ensures j (omega (arith, same))

pub returns-in_err-check_counts : goal.returns-in_err-check_counts
returns-in_err-check_counts c =
    let p = err_from_is_err_and c.from_residual.result c.from_residual.ensures.1 in
    rw (p.1, p.2) (counts_checked _ c.in_err-check_counts.ensures)

pub overflow_mul-rules : goal.overflow_mul-rules
overflow_mul-rules c = record { fits = omega (arith, (counts c).few_rules) }

pub returns-then-places-rules : goal.returns-then-places-rules
returns-then-places-rules c = refusal_checked ShortList (process_23 (counts (goal.at.returns-then-places-rules c).In_ok-check_counts) c.if-places-rules.true)

pub returns-in-Some : goal.returns-in-Some
returns-in-Some c =
    let sized = counts (goal.at.returns-in-Some c).In_ok-check_counts in
    refusal_checked (UnknownEvent _) (process_2 sized c.if-places-rules.false (lowest_unknown sized.lists.targets_match c.in-Some.ensures))

pub outside_interval-requires : goal.outside_interval-requires
outside_interval-requires c = (counts (goal.at.outside_interval-requires c).In_ok-check_counts).lists

pub returns-in-Some-outside_interval : goal.returns-in-Some-outside_interval
returns-in-Some-outside_interval c =
    refusal_checked (DelayOutside _)
    (process_3 (counts (goal.at.returns-in-Some-outside_interval c).In_ok-check_counts) c.if-places-rules.false (known (goal.at.returns-in-Some-outside_interval c).In_default)
    (lowest_outside c.in-Some-outside_interval.ensures))

pub returns-in-Some-broken_mark : goal.returns-in-Some-broken_mark
returns-in-Some-broken_mark c =
    let sized = counts (goal.at.returns-in-Some-broken_mark c).In_ok-check_counts in
    refusal_checked (MarkOutside _)
    (process_7 sized c.if-places-rules.false (known (goal.at.returns-in-Some-broken_mark c).In_default) c.in_default-outside_interval.ensures
    (lowest_broken sized.lists.marks_match c.in-Some-broken_mark.ensures))

pub overflow_mul-result : goal.overflow_mul-result
overflow_mul-result c = record { fits = omega (arith, (counts (goal.at.overflow_mul-result c).In_ok-check_counts).few_occurrences) }

pub overflow_add-result : goal.overflow_add-result
overflow_add-result c = record { fits = omega (arith, (counts (goal.at.overflow_add-result c).In_ok-check_counts).few_occurrences) }

pub returns : goal.returns
returns c =
    let sized = counts (goal.at.returns c).In_ok-check_counts in
    kept_checked c.in_default-outside_interval.ensures
    (record {
      counts = sized;
      known = known (goal.at.returns c).In_default;
      marked = λ j l. c.in_default-broken_mark.ensures j (omega (arith, sized.lists.marks_match));
      room = c.if-places-rules.false;
    })
