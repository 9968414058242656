-- `front_digits` meets its contract. Assumes nothing.
use Rattle.std.proofs.Common.{arith, sym, ◌∙◌}
use Rattle.numerals.proofs.Taking.{front_more}
use Rattle.numerals.proofs.front_digits.Goals as goal

pub loop-digits-preserved : goal.loop-digits-preserved
loop-digits-preserved c = front_more c.loop-digits.invariant c.loop-digits-test.true (sym c.is_ascii_digit.ensures.value ∙ c.if-not-is_ascii_digit.false) (omega (arith, c.from.ensures))
