-- What a path of the unfolding says of the process graph: along a rule the occurrence never falls. The crate processes proves it, proofs/Cycles.antt; here
-- the templates are known to be kept.
--     no_path_back          no path leads from an occurrence to one with a lesser number k
--     folds_to_cycle        a cycle of the unfolded graph is a cycle of mark-0 templates
-- Assumes nothing.
use mathlib.Core.Path.{refl}
use Prim.Native.Nat.{ℕ, ◌<◌}
use native.Mathlib.Omega.{arith}
use Rattle.graphs.specs.Graph.{Graph}
use Rattle.graphs.specs.Path.{Path, HasCycle}
use Rattle.graphs.specs.Limits.{EndsKept}
use Rattle.refusals.specs.Faults.{EndsKnown}
use Rattle.processes.specs.declared.Event.{Event}
use Rattle.processes.specs.Process.{templates, occurrence, ProcessGraph}
use Rattle.processes.specs.Ways.{MarkZeroCycle}
use Rattle.processes.specs.Unfolding.{Unfolds}
use Rattle.processes.proofs.Refusals.{plain}
use Rattle.processes.proofs.Cycles.{path_folds, cycle_folds}

module _ {g : ProcessGraph} {K : ℕ} {graph : Graph} (unfolds : Unfolds g K graph) (kept : (j : ℕ) → j < templates g → EndsKept (plain g) j) where
  known : (j : ℕ) → j < templates g → EndsKnown g.events g.sources g.targets j
  known j l = let e = kept j l in record { source_known = e.source_known; target_known = e.target_known }

  pub no_path_back : {k l : ℕ} {u v : Event} → u.0 < g.events → v.0 < g.events → l < k
      → Path graph (occurrence g k u).0 (occurrence g l v).0 → ⊥
  no_path_back {k} {l} {u} {v} hu hv less p = let up = (path_folds unfolds known p k l u v hu hv refl refl).no_lower in omega (arith, up)

  pub folds_to_cycle : HasCycle graph → MarkZeroCycle g
  folds_to_cycle = cycle_folds unfolds known
