-- `read_rules` meets its contract: what `scan`, `check_counts` and `write_rules` promise, put together. Assumes nothing.
use native.Mathlib.Omega.{arith}
use Rattle.std.proofs.lemmas.Result.{err_from_is_err_and}
use Rattle.text.proofs.Verdicts.{read_long, read_broken, read_counted, read_right, room}
use Rattle.text.proofs.read_rules.Goals as goal

pub returns-then-text-gt-MAX_BYTES-clause-read_off : goal.returns-then-text-gt-MAX_BYTES-clause-read_off
returns-then-text-gt-MAX_BYTES-clause-read_off c = read_long c.if-text-gt-MAX_BYTES.true

pub returns-in_err-found-clause-read_off : goal.returns-in_err-found-clause-read_off
returns-in_err-found-clause-read_off c =
    let p = err_from_is_err_and c.from_residual.result c.from_residual.ensures.1 in
    rw (p.1, p.2) (read_broken c.args.text.now c.if-text-gt-MAX_BYTES.false _ c.in_err-found.ensures)

pub returns-in_err-check_counts-clause-read_off : goal.returns-in_err-check_counts-clause-read_off
returns-in_err-check_counts-clause-read_off c =
    let a = c.args in
    let p = err_from_is_err_and c.from_residual-in_err-check_counts.result c.from_residual-in_err-check_counts.ensures.1 in
    rw (p.1, p.2)
    (read_counted a.text.now c.if-text-gt-MAX_BYTES.false c.in_ok-found.ensures a.sources.now a.targets.now a.leasts.now a.mosts.now (omega arith) _ c.in_err-check_counts.ensures)

pub write_rules-requires : goal.write_rules-requires
write_rules-requires c =
    let a = c.args in
    room a.text.now c.if-text-gt-MAX_BYTES.false c.in_ok-found.ensures a.sources.now a.targets.now a.leasts.now a.mosts.now (omega arith) c.in_ok-check_counts.ensures

pub returns-clause-read_off : goal.returns-clause-read_off
returns-clause-read_off c =
    let a = c.args in
    read_right a.text.now c.if-text-gt-MAX_BYTES.false c.in_ok-found.ensures a.sources.now a.targets.now a.leasts.now a.mosts.now (omega arith) c.in_ok-check_counts.ensures
