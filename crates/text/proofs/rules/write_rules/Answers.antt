use mathlib.Core.Path.{◌∙◌}
use Rattle.text.specs.Parts.Scanning.{RowGiven}
use Rattle.text.proofs.Writing.{Turn, row_there, turn_kept, writing_more, writing_done}
use Rattle.text.proofs.rules.write_rules.Goals as goal
use Rattle.text.proofs.rules.write_rules.Goals.{In-Some, After-unwrap-row}

given : (c : In-Some) → RowGiven c.args.text.now c.loop-i.i-iterator.iter.at c.in-Some.row c.next.new.self.iter.at
given c = rw c.loop-i.invariant.0 at c.in-Some.ensures.steps.0.1

turn : (c : After-unwrap-row) → Turn c.loop-i.sources c.loop-i.targets c.loop-i.leasts c.loop-i.mosts c.in-Some.i
turn c = turn_kept c.loop-i.invariant.1 (given (goal.at.bounds-sources-i c).In-Some) c.unwrap-row.ensures c.in-Some.ensures.steps.1

pub unwrap-row-requires : goal.unwrap-row-requires
unwrap-row-requires c = row_there c.loop-i.invariant.1 (given c)

pub bounds-sources-i : goal.bounds-sources-i
bounds-sources-i c = (turn c).sources_place

pub bounds-targets-i : goal.bounds-targets-i
bounds-targets-i c = (turn c).targets_place

pub bounds-leasts-i : goal.bounds-leasts-i
bounds-leasts-i c = (turn (goal.at.bounds-leasts-i c).After-unwrap-row).leasts_place

pub bounds-mosts-i : goal.bounds-mosts-i
bounds-mosts-i c = (turn (goal.at.bounds-mosts-i c).After-unwrap-row).mosts_place

pub loop-i-preserved : goal.loop-i-preserved
loop-i-preserved c =
    let ((same, _), index, next, _) = c.in-Some.ensures.steps in
    (same ∙ c.loop-i.invariant.0, writing_more c.loop-i.invariant.1 (given (goal.at.loop-i-preserved c).In-Some) c.unwrap-row.ensures index next)

pub returns : goal.returns
returns c =
    let (same, going) = c.loop-i.invariant in
    writing_done going (rw same at c.in-None.ensures.steps.0)
