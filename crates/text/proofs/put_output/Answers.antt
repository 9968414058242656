-- `put_output` meets its contract: what `read_rules`, `fill_table`, `put_refusal` and `put_pairs` promise, put together. Assumes nothing.
use mathlib.Core.Path.{refl, sym}
use Rattle.std.proofs.Common.{arith, Ok, Err}
use Rattle.refusals.specs.Numbers.{number_of, place_of}
use Rattle.refusals.proofs.Unique.{some_number}
use Rattle.text.specs.Output.{PairsVerdict}
use Rattle.text.specs.Parts.Tabling.{Tabled}
use Rattle.text.proofs.Handed.{handed, read_refused}
use Rattle.text.proofs.Places.{pairs_small}
use Rattle.text.proofs.PairOutput.{refusal_put, table_verdict, tabled, table_put}
use Rattle.text.proofs.put_output.Goals as goal
use Rattle.text.proofs.put_output.Goals.{In-Err, In-Ok-fill_table, In-Err-fill_table}

unread : (c : In-Err) → PairsVerdict c.args.text.now (number_of c.in-Err.refusal) (place_of c.in-Err.refusal)
unread c =
    let read = c.in-Err.ensures in
    read_refused read.rules_written read.read_off (omega arith) (omega arith) (omega arith) (omega arith) (some_number _)

untabled : (c : In-Err-fill_table) → PairsVerdict c.args.text.now (number_of c.in-Err-fill_table.refusal) (place_of c.in-Err-fill_table.refusal)
untabled c =
    let read = c.in-Ok.ensures in
    table_verdict read.rules_written read.read_off (Err c.in-Err-fill_table.refusal) refl (rw c.graph.ensures at c.in-Err-fill_table.ensures)

pub put_refusal-requires : goal.put_refusal-requires
put_refusal-requires c =
    let small = pairs_small (unread (goal.at.put_refusal-requires c).In-Err) in
    (c.requires, small.number, small.place)

pub returns-in-Err : goal.returns-in-Err
returns-in-Err c = refusal_put _ (unread (goal.at.returns-in-Err c).In-Err) c.put_refusal.ensures

pub graph-requires : goal.graph-requires
graph-requires c =
    let read = c.in-Ok.ensures in
    (handed read.rules_written read.read_off refl).few_rows

pub put_pairs-requires : goal.put_pairs-requires
put_pairs-requires c =
    let read = c.in-Ok.ensures in
    let t = tabled read.rules_written read.read_off refl (rw c.graph.ensures at c.in-Ok-fill_table.ensures) in
    record { in_bounds = (c.requires, t.few); graph = (_, sym t.event_count, t.graph, t.filled) }

pub returns-in-Ok-fill_table : goal.returns-in-Ok-fill_table
returns-in-Ok-fill_table c =
    let read = c.in-Ok.ensures in
    table_put (tabled read.rules_written read.read_off refl (rw c.graph.ensures at c.in-Ok-fill_table.ensures)) c.put_pairs.ensures

pub put_refusal-requires-in-Err-fill_table : goal.put_refusal-requires-in-Err-fill_table
put_refusal-requires-in-Err-fill_table c =
    let small = pairs_small (untabled (goal.at.put_refusal-requires-in-Err-fill_table c).In-Err-fill_table) in
    (c.requires, small.number, small.place)

pub returns-in-Err-fill_table : goal.returns-in-Err-fill_table
returns-in-Err-fill_table c = refusal_put _ (untabled (goal.at.returns-in-Err-fill_table c).In-Err-fill_table) c.put_refusal-in-Err-fill_table.ensures
