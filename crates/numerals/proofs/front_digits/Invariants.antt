-- `front_digits` meets its contract: the bytes passed are digits, and write the number so far. Assumes nothing.
use Rattle.numerals.proofs.Taking.{FrontSoFar}
use Rattle.numerals.proofs.front_digits.Given as goal

abbrev pub invariant-loop-digits : goal.invariant-loop-digits
invariant-loop-digits l = FrontSoFar l.text l.digits l.number
