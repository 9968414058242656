-- `check_counts` meets its contract: each test that fails is one way for a count to be outside, and past all of them none of the three refusals applies. A
-- K that is too large makes the product too large, since p is above 0; past its test both factors are small, and no product wraps. Assumes nothing.
use Rattle.graphs.specs.Refusal.{no_events, many_events}
use Rattle.processes.specs.Lists.{process_in}
use Rattle.processes.specs.Parts.Checks.{ListsKept}
use Rattle.processes.specs.Unfolding.{many_templates, targets_differ, leasts_differ, mosts_differ, marks_differ, start_leasts_differ, start_mosts_differ, no_copies, many_occurrences, many_rules}
use Rattle.processes.proofs.Numbers.{large_copies}
use Rattle.processes.proofs.Refusals.{count_21, count_22, count_24, count_0, counts_within}
use Rattle.processes.proofs.checks.check_counts.Goals as goal
use Rattle.processes.proofs.checks.check_counts.Goals.{Else-process-templates-6, then-process-eq0-via-then-process-eq0, then-process-eq0-via-else-process-eq0+then-process-gt-MAX_PROCESS_EVENTS}
use Rattle.processes.proofs.checks.check_counts.Goals.{then-templates-gt-MAX_RULES-via-then-templates-gt-MAX_RULES, then-templates-gt-MAX_RULES-via-else-templates-gt-MAX_RULES+then-process-templates, then-templates-gt-MAX_RULES-via-else-templates-gt-MAX_RULES+else-process-templates+then-process-templates-2, then-templates-gt-MAX_RULES-via-else-templates-gt-MAX_RULES+else-process-templates+else-process-templates-2+then-process-templates-3, then-templates-gt-MAX_RULES-via-else-templates-gt-MAX_RULES+else-process-templates+else-process-templates-2+else-process-templates-3+then-process-templates-4, then-templates-gt-MAX_RULES-via-else-templates-gt-MAX_RULES+else-process-templates+else-process-templates-2+else-process-templates-3+else-process-templates-4+then-process-templates-5, then-templates-gt-MAX_RULES-via-else-templates-gt-MAX_RULES+else-process-templates+else-process-templates-2+else-process-templates-3+else-process-templates-4+else-process-templates-5+then-process-templates-6}
use Rattle.processes.proofs.checks.check_counts.Goals.{then-copies-eq0-via-then-copies-eq0, then-copies-eq0-via-else-copies-eq0+then-copies-ge-MAX_EVENTS, then-copies-eq0-via-else-copies-eq0+else-copies-ge-MAX_EVENTS+then-process-copies-gt-MAX_EVENTS, then-copies-eq0-via-else-copies-eq0+else-copies-ge-MAX_EVENTS+else-process-copies-gt-MAX_EVENTS+then-templates-copies-gt-MAX_RULES}

lists : (c : Else-process-templates-6) → ListsKept (process_in c.args.process.now)
lists c =
    record {
      few_templates = c.if-templates-gt-MAX_RULES.false;
      targets_match = c.if-process-templates.false;
      leasts_match = c.if-process-templates-2.false;
      mosts_match = c.if-process-templates-3.false;
      marks_match = c.if-process-templates-4.false;
      start_leasts_match = c.if-process-templates-5.false;
      start_mosts_match = c.if-process-templates-6.false;
    }

pub returns-then-process-eq0 : goal.returns-then-process-eq0
returns-then-process-eq0 c =
    elim c.then-process-eq0.branch [
      | then-process-eq0-via-then-process-eq0 w ↦ count_21 (no_events w.if-process-eq0.true)
      | then-process-eq0-via-else-process-eq0+then-process-gt-MAX_PROCESS_EVENTS w ↦ count_21 (many_events w.if-process-gt-MAX_PROCESS_EVENTS.true)
    ]

pub returns-then-templates-gt-MAX_RULES : goal.returns-then-templates-gt-MAX_RULES
returns-then-templates-gt-MAX_RULES c =
    let outside = count_22 c.if-process-eq0.false c.if-process-gt-MAX_PROCESS_EVENTS.false in
    elim c.then-templates-gt-MAX_RULES.branch [
      | then-templates-gt-MAX_RULES-via-then-templates-gt-MAX_RULES w ↦ outside (many_templates w.if-templates-gt-MAX_RULES.true)
      | then-templates-gt-MAX_RULES-via-else-templates-gt-MAX_RULES+then-process-templates w ↦ outside (targets_differ w.if-process-templates.true)
      | then-templates-gt-MAX_RULES-via-else-templates-gt-MAX_RULES+else-process-templates+then-process-templates-2 w ↦ outside (leasts_differ w.if-process-templates-2.true)
      | then-templates-gt-MAX_RULES-via-else-templates-gt-MAX_RULES+else-process-templates+else-process-templates-2+then-process-templates-3 w ↦ outside (mosts_differ w.if-process-templates-3.true)
      | then-templates-gt-MAX_RULES-via-else-templates-gt-MAX_RULES+else-process-templates+else-process-templates-2+else-process-templates-3+then-process-templates-4 w ↦ outside (marks_differ w.if-process-templates-4.true)
      | then-templates-gt-MAX_RULES-via-else-templates-gt-MAX_RULES+else-process-templates+else-process-templates-2+else-process-templates-3+else-process-templates-4+then-process-templates-5 w ↦ outside (start_leasts_differ w.if-process-templates-5.true)
      | then-templates-gt-MAX_RULES-via-else-templates-gt-MAX_RULES+else-process-templates+else-process-templates-2+else-process-templates-3+else-process-templates-4+else-process-templates-5+then-process-templates-6 w ↦ outside (start_mosts_differ w.if-process-templates-6.true)
    ]

pub returns-then-copies-eq0 : goal.returns-then-copies-eq0
returns-then-copies-eq0 c =
    let some = c.if-process-eq0.false in
    let outside = count_24 some c.if-process-gt-MAX_PROCESS_EVENTS.false (lists (goal.at.returns-then-copies-eq0 c).Else-process-templates-6) in
    elim c.then-copies-eq0.branch [
      | then-copies-eq0-via-then-copies-eq0 w ↦ outside (no_copies w.if-copies-eq0.true)
      | then-copies-eq0-via-else-copies-eq0+then-copies-ge-MAX_EVENTS w ↦ outside (many_occurrences (large_copies _ _ some w.if-copies-ge-MAX_EVENTS.true))
      | then-copies-eq0-via-else-copies-eq0+else-copies-ge-MAX_EVENTS+then-process-copies-gt-MAX_EVENTS w ↦ outside (many_occurrences w.if-process-copies-gt-MAX_EVENTS.true)
      | then-copies-eq0-via-else-copies-eq0+else-copies-ge-MAX_EVENTS+else-process-copies-gt-MAX_EVENTS+then-templates-copies-gt-MAX_RULES w ↦ outside (many_rules w.if-templates-copies-gt-MAX_RULES.true)
    ]

pub returns : goal.returns
returns c = count_0 (counts_within c.if-process-eq0.false c.if-copies-eq0.false c.if-process-copies-gt-MAX_EVENTS.false c.if-templates-copies-gt-MAX_RULES.false (lists (goal.at.returns c).Else-process-templates-6))
