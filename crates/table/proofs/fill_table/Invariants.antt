-- `fill_table` meets its contract: a loop that fills one row a turn. Assumes nothing.
use Rattle.graphs.specs.Lists.{graph_in}
use Rattle.table.proofs.Rows.{RowsDone}
use Rattle.table.proofs.fill_table.Given as goal

abbrev pub invariant-loop-from : goal.invariant-loop-from
invariant-loop-from l = RowsDone (graph_in l.lists) l.from l.initial.table l.table
