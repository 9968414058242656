-- `text_separation` meets its contract: what `read_rules` and the analysis promise, put together. Assumes nothing.
use mathlib.Core.Path.{refl}
use Rattle.std.proofs.Common.{arith}
use Rattle.std.proofs.lemmas.Result.{err_from_is_err_and}
use Rattle.refusals.proofs.Unique.{some_number}
use Rattle.text.proofs.Handed.{handed, text_unread, text_answered}
use Rattle.text.proofs.text_separation.Goals as goal

pub returns-in_err-found : goal.returns-in_err-found
returns-in_err-found c =
    let p = err_from_is_err_and c.from_residual.result c.from_residual.ensures.1 in
    let read = c.in_err-found.ensures in
    rw (p.1, p.2)
    (text_unread read.rules_written read.read_off (omega arith) (omega arith) (omega arith) (omega arith) (some_number _) refl refl
    (record { no_separation = refl; no_source_depth = refl; no_target_depth = refl }))

pub graph-requires : goal.graph-requires
graph-requires c =
    let read = c.in_ok-found.ensures in
    (handed read.rules_written read.read_off refl).few_rows

pub returns : goal.returns
returns c =
    let read = c.in_ok-found.ensures in
    text_answered read.rules_written read.read_off refl (rw c.graph.ensures at c.separation.ensures)
