-- `place_first` meets its contract. The invariant: of the events below v each that waits for no rule is placed, and no other event. Assumes nothing.
use Prim.Native.Nat.{ℕ, ◌<◌}
use Rattle.analysis.specs.Parts.Placing.{Progress}
use Rattle.analysis.proofs.order.place_first.Given as goal

abbrev pub invariant-loop-v : goal.invariant-loop-v
invariant-loop-v l = Progress l.chains.lists.events l.chains.lists.sources.now l.chains.lists.targets.now l.waiting l.order l.tail 0 5000 (λ (u : ℕ). u < l.v)
