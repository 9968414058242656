use Rattle.std.proofs.Common.{arith}
use Rattle.text.proofs.WrittenLines.{table_done}
use Rattle.text.proofs.PairOrder.{lines_of_table}
use Rattle.text.proofs.lines.put_pairs.Goals as goal

pub returns : goal.returns
returns c = λ g same eg filled.
    let w = table_done c.loop-from.invariant c.loop-from-test.false (c.put_bytes-at.ensures.fits (omega (arith, c.requires.in_bounds.0))) in
    (w.0, lines_of_table same filled w.1, w.2)
