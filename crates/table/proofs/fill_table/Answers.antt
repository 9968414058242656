use mathlib.Core.Path.{refl}
use Prim.Native.Nat.{◌<◌, ◌≤◌}
use lib.ListN.{length}
use native.Mathlib.Omega.{arith}
use Rattle.std.proofs.Common.{Ok}
use Rattle.std.proofs.lemmas.Result.{err_from_is_err_and}
use Rattle.graphs.specs.Lists.{graph_in}
use Rattle.refusals.proofs.Counts.{counts_none, counts_in}
use Rattle.table.proofs.Rows.{rows_more, TableSmall, table_counts, table_short, table_refused, table_done}
use Rattle.table.proofs.fill_table.Goals as goal
use Rattle.table.proofs.fill_table.Goals.{Else-table-lists}

-- past the tests
small : (c : Else-table-lists) → TableSmall (graph_in c.args.lists.now) c.args.table.now
small c = record { none = counts_none refl c.in_ok-check_counts.ensures; room = c.if-table-lists.false }

few : (c : Else-table-lists) → (0 < c.args.lists.now.events) × (c.args.lists.now.events ≤ 64) × (length c.args.lists.now.sources.now ≤ 1024)
few c = counts_in (small c).none

pub returns-in_err-check_counts : goal.returns-in_err-check_counts
returns-in_err-check_counts c =
    let p = err_from_is_err_and c.from_residual.result c.from_residual.ensures.1 in
    rw (p.1, p.2) (table_counts _ c.in_err-check_counts.ensures)

pub returns-then-table-lists : goal.returns-then-table-lists
returns-then-table-lists c = table_short (counts_none refl c.in_ok-check_counts.ensures) c.if-table-lists.true

pub fill_row-requires : goal.fill_row-requires
fill_row-requires c =
    let k = few (goal.at.fill_row-requires c).Else-table-lists in
    (c.loop-from-test.true, k.1, k.2, omega (arith, c.if-table-lists.false, c.loop-from.invariant.others.same_length))

pub returns-in_err-fill_row : goal.returns-in_err-fill_row
returns-in_err-fill_row c =
    let p = err_from_is_err_and c.from_residual-in_err-fill_row.result c.from_residual-in_err-fill_row.ensures.1 in
    rw (p.1, p.2) (table_refused (small (goal.at.returns-in_err-fill_row c).Else-table-lists) _ c.loop-from.invariant c.in_err-fill_row.ensures)

pub loop-from-preserved : goal.loop-from-preserved
loop-from-preserved c = rows_more (Ok tt) c.loop-from.invariant c.in_ok-fill_row.ensures (few (goal.at.loop-from-preserved c).Else-table-lists).1 refl

pub returns : goal.returns
returns c = table_done (small (goal.at.returns c).Else-table-lists) (omega (arith, c.loop-from-test.false, c.loop-from.auto.from-end)) c.loop-from.invariant
