-- `put_pairs_from` meets its contract: a loop that writes one line a turn. Assumes nothing.
use Rattle.text.proofs.WrittenLines.{RowGoing}
use Rattle.text.proofs.lines.put_pairs_from.Given as goal

abbrev pub invariant-loop-to : goal.invariant-loop-to
invariant-loop-to l = RowGoing l.n l.table l.from l.at l.initial.out l.to l.out l.next
