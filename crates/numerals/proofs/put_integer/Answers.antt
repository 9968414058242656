-- `put_integer` meets its contract. Assumes nothing.
use Rattle.std.proofs.Common.{arith}
use Rattle.integers.proofs.Integer.{linear}
use Rattle.numerals.proofs.WrittenNumbers.{put_minus_word}
use Rattle.numerals.proofs.put_integer.Goals as goal

pub returns : goal.returns
returns c =
    let minus = c.put_byte-next.ensures in
    let w = c.put_digits.ensures.1 in
    put_minus_word _ c.ranges.z c.unsigned_abs-digits.ensures.value (omega (linear, c.if-z-ge0.false))
    (minus.fits (omega (arith, c.fits.ensures.yes c.if-not-fits.false _ w, w.some)))
    c.put_digits.ensures
