-- `pull` meets its contract. The invariant: `time` and `deep` are the greatest of what the rules passed bring (PullLaws.antt). Assumes nothing.
use mathlib.Core.Path.{◌≡◌}
use lib.IntN.{pos}
use Rattle.analysis.specs.Parts.InChains.{arrival_in, depth_in}
use Rattle.analysis.proofs.PullLaws.{Best}
use Rattle.analysis.proofs.latest.pull.Given as goal

abbrev pub invariant-loop-i : goal.invariant-loop-i
invariant-loop-i l =
    (l.i-iterator.nexts.now ≡ l.chains.nexts.now) ×
    Best l.chains.lists.targets.now (arrival_in l.chains l.us) l.v l.i-iterator.e l.time ×
    Best l.chains.lists.targets.now (depth_in l.chains l.depth) l.v l.i-iterator.e (pos l.deep)
