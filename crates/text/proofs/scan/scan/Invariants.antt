-- `scan` meets its contract: a turn stands after a right row, and counts the rules and their events. Assumes nothing.
use mathlib.Core.Path.{◌≡◌}
use Rattle.text.proofs.Progress.{RowsCounted}
use Rattle.text.proofs.scan.scan.Given as goal

abbrev pub invariant-loop-row : goal.invariant-loop-row
invariant-loop-row l = (l.row-iterator.text.now ≡ l.text) × RowsCounted l.text l.row-iterator.at l.rules l.events
