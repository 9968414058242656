-- `write_rules` meets its contract: a loop that writes one place of each list a turn. Assumes nothing.
use mathlib.Core.Path.{◌≡◌}
use Rattle.text.proofs.Writing.{RulesGoing}
use Rattle.text.proofs.rules.write_rules.Given as goal

abbrev pub invariant-loop-i : goal.invariant-loop-i
invariant-loop-i l =
    (l.i-iterator.iter.text.now ≡ l.text) ×
    RulesGoing l.text l.initial.sources l.initial.targets l.initial.leasts l.initial.mosts l.sources l.targets l.leasts l.mosts l.i-iterator.iter.at l.i-iterator.count
