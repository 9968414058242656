-- `fill_row` meets its contract: what the analysis and `copy_row` promise, put together. Assumes nothing.
use mathlib.Core.Path.{refl}
use Rattle.std.proofs.Common.{Ok, Err}
use Rattle.std.proofs.lemmas.Result.{err_from_is_err_and}
use Rattle.table.proofs.Rows.{times_small, row_refused, row_answered}
use Rattle.table.proofs.fill_row.Goals as goal

pub returns-in_err-schedule : goal.returns-in_err-schedule
returns-in_err-schedule c =
    let p = err_from_is_err_and c.from_residual.result c.from_residual.ensures.1 in
    let asked = c.in_err-schedule.ensures in
    rw (p.1, p.2) (row_refused (Err c.in_err-schedule.field-0.0) c.requires.0 asked.answered asked.written c.requires.1 c.requires.2 refl)

pub copy_row-requires-clause-within : goal.copy_row-requires-clause-within
copy_row-requires-clause-within c =
    let asked = c.in_ok-schedule.ensures in
    times_small (Ok c.in_ok-schedule.field-0) c.requires.0 asked.answered asked.written refl

pub returns : goal.returns
returns c =
    let asked = c.in_ok-schedule.ensures in
    row_answered (Ok c.in_ok-schedule.field-0) c.requires.0 asked.answered asked.written c.requires.1 c.requires.2 refl c.copy_row.ensures
