-- `check_counts` meets its contract: each test that fails is one way for a count to be outside, and past all of them neither refusal applies.
-- Assumes nothing.
use Rattle.graphs.specs.Refusal.{many_rules, targets_differ, leasts_differ, mosts_differ}
use Rattle.refusals.proofs.Counts.{count_21_none, count_21_many, count_22, count_0}
use Rattle.refusals.proofs.check_counts.Goals as goal
use Rattle.refusals.proofs.check_counts.Goals.{then-lists-eq0-via-then-lists-eq0, then-lists-eq0-via-else-lists-eq0+then-lists-max_events}
use Rattle.refusals.proofs.check_counts.Goals.{then-rules-max_rules-via-then-rules-max_rules, then-rules-max_rules-via-else-rules-max_rules+then-lists-rules, then-rules-max_rules-via-else-rules-max_rules+else-lists-rules+then-lists-rules-2, then-rules-max_rules-via-else-rules-max_rules+else-lists-rules+else-lists-rules-2+then-lists-rules-3}

pub returns-then-lists-eq0 : goal.returns-then-lists-eq0
returns-then-lists-eq0 c =
    elim c.then-lists-eq0.branch [
      | then-lists-eq0-via-then-lists-eq0 w ↦ count_21_none w.if-lists-eq0.true
      | then-lists-eq0-via-else-lists-eq0+then-lists-max_events w ↦ count_21_many w.if-lists-max_events.true
    ]

pub returns-then-rules-max_rules : goal.returns-then-rules-max_rules
returns-then-rules-max_rules c =
    let outside = count_22 c.if-lists-eq0.false c.if-lists-max_events.false in
    elim c.then-rules-max_rules.branch [
      | then-rules-max_rules-via-then-rules-max_rules w ↦ outside (many_rules w.if-rules-max_rules.true)
      | then-rules-max_rules-via-else-rules-max_rules+then-lists-rules w ↦ outside (targets_differ w.if-lists-rules.true)
      | then-rules-max_rules-via-else-rules-max_rules+else-lists-rules+then-lists-rules-2 w ↦ outside (leasts_differ w.if-lists-rules-2.true)
      | then-rules-max_rules-via-else-rules-max_rules+else-lists-rules+else-lists-rules-2+then-lists-rules-3 w ↦ outside (mosts_differ w.if-lists-rules-3.true)
    ]

pub returns : goal.returns
returns c = count_0 c.if-lists-eq0.false c.if-lists-max_events.false c.if-rules-max_rules.false c.if-lists-rules.false c.if-lists-rules-2.false c.if-lists-rules-3.false
