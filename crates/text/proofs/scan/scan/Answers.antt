use Rattle.text.proofs.Progress.{counted_broken, scanned_right, scanned_broken, header_broken}
use Rattle.text.proofs.scan.scan.Goals as goal

pub returns-then-not-header_stands : goal.returns-then-not-header_stands
returns-then-not-header_stands c = scanned_broken (header_broken (c.header_stands.ensures.missing c.if-not-header_stands.true))

pub returns-in_default : goal.returns-in_default
returns-in_default c =
    let (same, counted) = c.loop-row.invariant in
    let given = rw (same, c.in_default.is) at c.in-Some.ensures.steps.1 in
    scanned_broken (counted_broken counted given.room given.row)

pub returns : goal.returns
returns c =
    let (same, counted) = c.loop-row.invariant in
    scanned_right counted (rw same at c.in-None.ensures.steps)
