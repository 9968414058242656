-- `put_digits` meets its contract: a number below ten is its digit; another is its tenth part and its last digit. The measure is the number. Assumes nothing.
use Rattle.std.proofs.Common.{arith}
use native.Mathlib.Nat.{div-add-mod}
use Rattle.numerals.proofs.WrittenNumbers.{tenth_room, put_more}
use Rattle.numerals.proofs.+put_digits.Goals as goal

pub put_digits-next-requires : goal.put_digits-next-requires
put_digits-next-requires t c = (omega (arith, c.decreases, c.if-x-lt10.false, div-add-mod c.args.x 10), tenth_room _ _ _ c.if-x-lt10.false c.requires)

pub returns : goal.returns
returns t c = put_more _ c.if-x-lt10.false c.requires c.put_digits-next.ensures c.put_byte-2.ensures
