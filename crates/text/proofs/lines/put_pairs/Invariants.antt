-- `put_pairs` meets its contract: the header, and a loop that writes the lines of one event a turn. Assumes nothing.
use Rattle.text.proofs.WrittenLines.{TableGoing}
use Rattle.text.proofs.lines.put_pairs.Given as goal

abbrev pub invariant-loop-from : goal.invariant-loop-from
invariant-loop-from l = TableGoing l.n l.table l.initial.at l.initial.out l.from l.out l.at
