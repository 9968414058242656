-- `event_field` meets its contract. Assumes nothing.
use Rattle.std.proofs.Common.{arith}
use Rattle.numerals.proofs.Taking.{front_number, front_none_read}
use Rattle.numerals.proofs.event_field.Goals as goal

pub returns : goal.returns
returns c =
    front_number c.args.text.now c.in_ok-rest.rest.now c.args.at _ _ _ c.in_ok-rest.ensures.lookup.0.2 c.min.ensures (omega arith) c.front_digits-found.ensures.count (omega arith) (omega arith) c.front_digits-found.ensures.written

pub returns-then-found-eq0 : goal.returns-then-found-eq0
returns-then-found-eq0 c =
    front_none_read c.args.text.now c.in_ok-rest.rest.now c.args.at _ _ _ c.in_ok-rest.ensures.lookup.0.2 c.min.ensures (omega arith) c.front_digits-found.ensures.count (grind arith)
