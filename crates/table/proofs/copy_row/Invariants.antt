-- `copy_row` meets its contract: a loop that writes one place of the row a turn. Assumes nothing.
use Rattle.table.specs.Parts.Rows.{RowCopied}
use Rattle.table.proofs.copy_row.Given as goal

abbrev pub invariant-loop-v : goal.invariant-loop-v
invariant-loop-v l = RowCopied l.v l.from l.times l.initial.table l.table
