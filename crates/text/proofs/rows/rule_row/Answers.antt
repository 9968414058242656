-- `rule_row` meets its contract: the first part that is missing shows that no row stands there, and all parts are a row. Assumes nothing.
use Rattle.text.proofs.WholeRow.{needs_2, needs_3, needs_4, needs_5, needs_6, needs_7, needs_end, no_number, no_delay, no_comma, no_end, row_found}
use Rattle.text.proofs.rows.rule_row.Goals as goal

pub returns-in_err-past_comma : goal.returns-in_err-past_comma
returns-in_err-past_comma c = rw c.from_residual-in_err-past_comma.ensures (no_comma (needs_2 c.in_ok-source.ensures) c.in_err-past_comma.ensures)

pub returns-in_err-target : goal.returns-in_err-target
returns-in_err-target c = rw c.from_residual-in_err-target.ensures (no_number (needs_3 c.in_ok-source.ensures c.in_ok-past_comma.ensures) c.in_err-target.ensures)

pub returns-in_err-past_comma-2 : goal.returns-in_err-past_comma-2
returns-in_err-past_comma-2 c = rw c.from_residual-in_err-past_comma-2.ensures (no_comma (needs_4 c.in_ok-source.ensures c.in_ok-past_comma.ensures c.in_ok-target.ensures) c.in_err-past_comma-2.ensures)

pub returns-in_err-least : goal.returns-in_err-least
returns-in_err-least c = rw c.from_residual-in_err-least.ensures (no_delay (needs_5 c.in_ok-source.ensures c.in_ok-past_comma.ensures c.in_ok-target.ensures c.in_ok-past_comma-2.ensures) c.in_err-least.ensures)

pub returns-in_err-past_comma-3 : goal.returns-in_err-past_comma-3
returns-in_err-past_comma-3 c = rw c.from_residual-in_err-past_comma-3.ensures (no_comma (needs_6 c.in_ok-source.ensures c.in_ok-past_comma.ensures c.in_ok-target.ensures c.in_ok-past_comma-2.ensures c.in_ok-least.ensures) c.in_err-past_comma-3.ensures)

pub returns-in_err-most : goal.returns-in_err-most
returns-in_err-most c = rw c.from_residual-in_err-most.ensures (no_delay (needs_7 c.in_ok-source.ensures c.in_ok-past_comma.ensures c.in_ok-target.ensures c.in_ok-past_comma-2.ensures c.in_ok-least.ensures c.in_ok-past_comma-3.ensures) c.in_err-most.ensures)

pub returns-then-not-end_at : goal.returns-then-not-end_at
returns-then-not-end_at c = no_end (needs_end c.in_ok-source.ensures c.in_ok-past_comma.ensures c.in_ok-target.ensures c.in_ok-past_comma-2.ensures c.in_ok-least.ensures c.in_ok-past_comma-3.ensures c.in_ok-most.ensures) c.end_at.ensures c.if-not-end_at.true

pub returns : goal.returns
returns c = row_found c.in_ok-source.ensures c.in_ok-past_comma.ensures c.in_ok-target.ensures c.in_ok-past_comma-2.ensures c.in_ok-least.ensures c.in_ok-past_comma-3.ensures c.in_ok-most.ensures c.end_at.ensures c.if-not-end_at.false
