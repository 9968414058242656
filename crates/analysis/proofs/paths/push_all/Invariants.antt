-- `push_all` meets its contract. The invariant: the first k events have handed on their m. Assumes nothing.
use mathlib.Core.List.{List}
use Prim.Native.Nat.{ℕ}
use lib.IntN.{ℤ}
use Rattle.graphs.specs.Lists.{graph_in}
use Rattle.analysis.specs.Parts.Paths.{MPass}
use Rattle.analysis.specs.Parts.InChains.{PassReadyIn}
use Rattle.analysis.proofs.paths.push_all.Given as goal

abbrev pub invariant-loop-event : goal.invariant-loop-event
invariant-loop-event l = (s : ℕ) (m₋ : List ℤ) (r : PassReadyIn l.chains l.order s m₋ l.initial.m) → MPass (graph_in l.chains.lists) s r.ready.arranged.rank l.event-index 5000 m₋ l.m
