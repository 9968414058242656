-- `round_lists` meets its contract: a loop that fills one place of either list for each rule. Assumes nothing.
use lib.IntN.{pos}
use lib.ListN.{length, get_or}
use Rattle.rounding.specs.Rounding.{Down, Up}
use Rattle.sequences.proofs.Filling.{Filling}
use Rattle.rounding.proofs.round_lists.Given as goal

abbrev pub invariant-loop-i : goal.invariant-loop-i
invariant-loop-i l =
    Filling (pos 0) (length l.leasts) (λ j. Down l.step.ticks (get_or l.leasts j (pos 0))) l.initial.low l.i l.low × Filling (pos 0) (length l.leasts) (λ j. Up l.step.ticks (get_or l.mosts j (pos 0))) l.initial.high l.i l.high
