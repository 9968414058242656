-- `write_rules` meets its contract: the loop over the copies k, and in it that over the templates j, write one place of each list a turn, place
-- k × templates + j. Assumes nothing.
use Prim.Native.Nat.{◌+◌, ◌*◌}
use Rattle.processes.specs.Lists.{process_in}
use Rattle.processes.proofs.Writing.{RulesWriting}
use Rattle.processes.proofs.rules.write_rules.Given as goal

abbrev pub invariant-loop-k : goal.invariant-loop-k
invariant-loop-k l =
    RulesWriting (process_in l.process) l.copies l.initial.out_sources l.initial.out_targets l.initial.out_leasts l.initial.out_mosts l.out_sources l.out_targets l.out_leasts l.out_mosts (l.k * l.templates)

abbrev pub invariant-loop-j : goal.invariant-loop-j
invariant-loop-j l =
    RulesWriting (process_in l.process) l.copies l.fn.out_sources l.fn.out_targets l.fn.out_leasts l.fn.out_mosts l.out_sources l.out_targets l.out_leasts l.out_mosts (l.k * l.templates + l.j)
