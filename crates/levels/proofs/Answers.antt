-- From what the sweep finds to the answer of a long run.
--     kept_unfolds, kept_sound where the input is kept, the graph unfolded in full unfolds, and is sound
--     source_event, target_event, source_other, target_other   the two occurrences are events of it, and not the root
--     root_number              the root has an m
--     root_some                and its set is not empty: t is reachable
--     answer_overfull          a set of more than 64 pairs, of an occurrence or of the root, gives 12
--     answer_found             where none has more, the value of the root's set at m(root) is the answer
-- Assumes nothing.
use mathlib.Core.Path.{◌≡◌, sym, subst}
use mathlib.Core.List.Memᴰ
use mathlib.Core.List.{List, []}
use Prim.Native.Nat.{ℕ, ◌+◌, ◌*◌, ◌<◌, ◌≤◌}
use lib.IntN.{ℤ, pos}
use lib.ListN.{length}
use Rattle.graphs.specs.Graph.{Graph}
use Rattle.graphs.specs.Path.{Path}
use Rattle.graphs.specs.Limits.{SoundGraph}
use Rattle.sets.specs.Limit.{Limit, number}
use Rattle.sets.specs.Pair.{Pair, pair}
use Rattle.sets.specs.Set.{◌∈◌, SetValue, Dominated}
use Rattle.paths.specs.PathPair.{path_pair}
use Rattle.paths.specs.Parts.Solved.{Solved}
use Rattle.paths.proofs.Caps.{path_cap}
use Rattle.paths.proofs.PathPairs.{most_sum, path_pair_number}
use Rattle.paths.proofs.Solved.{solved_separation, solved_overfull}
use Rattle.processes.specs.declared.Event.{Event}
use Rattle.processes.specs.Process.{occurrence, ProcessGraph}
use Rattle.processes.proofs.Occurrences.{occurrence_below, never_root}
use Rattle.levels.specs.Full.{full_unfolding}
use Rattle.levels.specs.Long.{LongAnswered}
use Rattle.levels.specs.Parts.Sweep.{Whole, Fits}
use Rattle.levels.proofs.Unfolded.{full_unfolds}
use Rattle.levels.proofs.Sound.{unfolded_sound}
use Rattle.levels.proofs.Sweeps.{swept_fits}
use Rattle.levels.proofs.Verdicts.{InputKept, long_overfull, long_answered}
use Rattle.processes.specs.Unfolding.{Unfolds}

-- ---- the root, in any sound graph

module _ {graph : Graph} (sound : SoundGraph graph) {s t : ℕ} {cap : ℕ → Limit} {full : ℕ → List Pair} (solved : Solved graph s t cap full) where
  pub root_number : s < graph.events → (x : ℤ) × (cap 0 ≡ number x)
  root_number hs =
      let (x, is_m, e) = path_cap (sound.reachable s hs) (solved.caps 0) in
      (x, e)

  pub root_some : t < graph.events → full 0 ≡ [] → ⊥
  root_some ht e =
      let p : Path graph 0 t = sound.reachable t ht in
      let d : Dominated (full 0) (pair (number (most_sum p)) (path_pair cap p).w) =
      (solved.sets.each 0).closes.covers.bound (most_sum p) (path_pair cap p).w (p, path_pair_number cap p) in
      Memᴰ.not-nil (subst (λ (T : List Pair). d.by ∈ T) e d.among)

-- ---- the answer

module _ {g : ProcessGraph} {K : ℕ} {s : Event} {ks : ℕ} {t : Event} {kt : ℕ} (kept : InputKept g K s ks t kt) where
  pub kept_unfolds : Unfolds g K (full_unfolding g K)
  kept_unfolds = full_unfolds g K kept.fit.each.marks

  pub kept_sound : SoundGraph (full_unfolding g K)
  kept_sound = unfolded_sound kept.fit kept_unfolds

  pub source_event : (occurrence g ks s).0 < 1 + g.events * K
  source_event = occurrence_below g K ks s kept.source_there.is_event kept.source_there.is_copy

  pub target_event : (occurrence g kt t).0 < 1 + g.events * K
  target_event = occurrence_below g K kt t kept.target_there.is_event kept.target_there.is_copy

  pub source_other : 0 ≡ (occurrence g ks s).0 → ⊥
  source_other e = never_root g ks s (sym e)

  pub target_other : 0 ≡ (occurrence g kt t).0 → ⊥
  target_other e = never_root g kt t (sym e)

  module _ {cap : ℕ → Limit} {full : ℕ → List Pair}
      (solved : Solved (full_unfolding g K) (occurrence g ks s).0 (occurrence g kt t).0 cap full) where
    pub answer_overfull : (v : ℕ) → v < 1 + g.events * K → 64 < length (full v) → LongAnswered g K s ks t kt 12 0 (pos 0)
    answer_overfull v l over = long_overfull kept (solved_overfull solved l over)

    pub answer_found : ((l : ℕ) → Fits g full 64 l Whole) → length (full 0) ≤ 64 → {m x : ℤ} → cap 0 ≡ number m → SetValue (full 0) m x
        → LongAnswered g K s ks t kt 0 0 x
    answer_found levels root-fits e v =
        long_answered kept (swept_fits kept.fit kept_unfolds solved levels root-fits) (solved_separation solved kept_sound source_event target_event e v)
