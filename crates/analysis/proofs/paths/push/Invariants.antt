-- `push` meets its contract. The invariant: the walk stands at the rules that are left, and the rules passed have been pushed along (PushLaws.antt). Assumes
-- nothing.
use mathlib.Core.Path.{◌≡◌}
use mathlib.Core.List.{List}
use Prim.Native.Nat.{ℕ}
use lib.IntN.{ℤ, pos}
use lib.ListN.{get_or}
use Rattle.analysis.specs.Parts.InChains.{PushReadyIn}
use Rattle.analysis.proofs.PushLaws.{Pushing}
use Rattle.analysis.proofs.paths.push.Given as goal

abbrev pub invariant-loop-i : goal.invariant-loop-i
invariant-loop-i l =
    (l.i-iterator.nexts.now ≡ l.chains.nexts.now) ×
    ((order : List ℕ) (s k : ℕ) (m₋ : List ℤ) (r : PushReadyIn l.chains order s k l.v m₋ l.initial.m) →
    Pushing l.chains.lists.events l.chains.lists.sources.now l.chains.lists.targets.now l.chains.lists.leasts.now l.chains.lists.mosts.now s r.ready.arranged.rank k l.v (get_or l.initial.m l.v (pos 0)) m₋ l.m l.i-iterator.e)
