-- A level as its lists hold it: what a store at one event does.
--     caps_here, caps_other     the cap stored for u is u's; those of the others stay
--     sets_here, sets_other     the same of sets
--     nothing_caps, nothing_sets   lists that hold no m and empty sets
--     level_same                a level is held where its caps and sets are the same
--     levels_begun              so the lists that hold nothing hold the levels above the later of the two occurrences
--     swept_stored              the turn of an event, once its cap and its set are stored
-- Assumes nothing.
use mathlib.Core.Path.{◌≡◌, ap, ◌∙◌}
use mathlib.Core.Bool.{Bool, true, false}
use mathlib.Core.List.{List, []}
use Prim.Native.Nat.{ℕ, suc, ◌<◌, ◌≤◌}
use native.Mathlib.Omega.{arith}
use lib.IntN.{ℤ, pos}
use lib.ListN.{length, get_or, set, replicate, get_or-replicate}
use lib.Seq.{get_or-set_same, get_or-set_other}
use Rattle.graphs.specs.Graph.{Graph}
use Rattle.sets.specs.Limit.{Limit, unlimited}
use Rattle.sets.specs.Pair.{Pair}
use Rattle.sets.specs.Set.{pass_nothing}
use Rattle.sets.specs.Held.{pairs_of, held}
use Rattle.sets.specs.declared.PrunedSet.{PrunedSet}
use Rattle.sets.proofs.Holding.{pairs_back}
use Rattle.paths.specs.Parts.Solved.{Solved}
use Rattle.processes.specs.declared.Event.{Event}
use Rattle.processes.specs.Process.{occurrence, ProcessGraph}
use Rattle.levels.specs.Parts.Sweep.{limit, caps_of, sets_of, Ranked, Whole, LevelHolds, Swept}
use Rattle.levels.proofs.Sound.{Fit}
use Rattle.levels.proofs.Sweeps.{levels_above, swept_more}
use Rattle.processes.specs.Unfolding.{Unfolds}

-- ---- one store

module _ (ms : List ℤ) (fs : List Bool) (u : ℕ) (a : ℤ) (f : Bool) where
  pub caps_here : u < length ms → u < length fs → caps_of (set ms u a) (set fs u f) u ≡ limit a f
  caps_here m-room f-room =
      ap (λ (x : ℤ). limit x (get_or (set fs u f) u false)) (get_or-set_same ms u a (pos 0) m-room) ∙ ap (limit a) (get_or-set_same fs u f false f-room)

  pub caps_other : (v : ℕ) → (v ≡ u → ⊥) → caps_of (set ms u a) (set fs u f) v ≡ caps_of ms fs v
  caps_other v other =
      ap (λ (x : ℤ). limit x (get_or (set fs u f) v false)) (get_or-set_other ms u v a (pos 0) other)
      ∙ ap (limit (get_or ms v (pos 0))) (get_or-set_other fs u v f false other)

module _ (ss : List PrunedSet) (u : ℕ) (r : PrunedSet) where
  pub sets_here : u < length ss → sets_of (set ss u r) u ≡ pairs_of r
  sets_here room = ap pairs_of (get_or-set_same ss u r (held pass_nothing) room)

  pub sets_other : (v : ℕ) → (v ≡ u → ⊥) → sets_of (set ss u r) v ≡ sets_of ss v
  sets_other v other = ap pairs_of (get_or-set_other ss u v r (held pass_nothing) other)

-- ---- nothing found

pub nothing_caps : (n u : ℕ) → u < n → caps_of (replicate n (pos 0)) (replicate n true) u ≡ unlimited
nothing_caps n u l = ap (limit (get_or (replicate n (pos 0)) u (pos 0))) (get_or-replicate n u true false l)

pub nothing_sets : (n u : ℕ) → u < n → sets_of (replicate n (held pass_nothing)) u ≡ []
nothing_sets n u l = ap pairs_of (get_or-replicate n u (held pass_nothing) (held pass_nothing) l) ∙ pairs_back pass_nothing

pub level_same : {g : ProcessGraph} {cap : ℕ → Limit} {full : ℕ → List Pair} {k : ℕ} {caps caps' : ℕ → Limit} {sets sets' : ℕ → List Pair} {Done : ℕ → Type 0}
    → ((u : ℕ) → u < g.events → caps' u ≡ caps u) → ((u : ℕ) → u < g.events → sets' u ≡ sets u)
    → LevelHolds g cap full k caps sets Done → LevelHolds g cap full k caps' sets' Done
level_same caps_same sets_same h =
    record {
      caps_hold = λ u hu done. caps_same u.0 hu ∙ h.caps_hold u hu done;
      sets_hold = λ u hu done. sets_same u.0 hu ∙ h.sets_hold u hu done;
    }

-- ---- the sweep

module _ {g : ProcessGraph} {K : ℕ} {graph : Graph} (fit : Fit g) (unfolds : Unfolds g K graph)
    {s t : ℕ} {cap : ℕ → Limit} {full : ℕ → List Pair} (solved : Solved graph s t cap full) where
  pub levels_begun : (n : ℕ) → g.events ≤ n → (ks kt : ℕ) (su tu : Event) → su.0 < g.events → tu.0 < g.events
      → s ≡ (occurrence g ks su).0 → t ≡ (occurrence g kt tu).0 → (k : ℕ) → ks < k → kt < k
      → LevelHolds g cap full k (caps_of (replicate n (pos 0)) (replicate n true)) (sets_of (replicate n (held pass_nothing))) Whole
  levels_begun n room ks kt su tu hs ht s-is t-is k s_before t-before =
      level_same
      (λ u hu. nothing_caps n u (omega (arith, hu, room)))
      (λ u hu. nothing_sets n u (omega (arith, hu, room)))
      (levels_above fit unfolds solved ks kt su tu hs ht s-is t-is k s_before t-before)

  module _ {rank : ℕ → ℕ} {room k r : ℕ} {above-caps : ℕ → Limit} {above-sets : ℕ → List Pair} (ranked : Ranked g rank)
      (ms : List ℤ) (fs : List Bool) (ss : List PrunedSet)
      (swept : Swept g cap full rank room k (suc r) (caps_of ms fs) (sets_of ss) above-caps above-sets)
      (u : Event) (hu : u.0 < g.events) (its-turn : rank u.0 ≡ r) where
    pub swept_stored : ((v : ℕ) → v < g.events → rank v ≡ r → v ≡ u.0) → u.0 < length ms → u.0 < length fs → u.0 < length ss
        → (a : ℤ) (f : Bool) (found : PrunedSet) → limit a f ≡ cap (occurrence g k u).0 → pairs_of found ≡ full (occurrence g k u).0
        → length (full (occurrence g k u).0) ≤ room
        → Swept g cap full rank room k r (caps_of (set ms u.0 a) (set fs u.0 f)) (sets_of (set ss u.0 found)) above-caps above-sets
    swept_stored alone m-room f-room s-room a f found cap-is set_is short =
        swept_more fit unfolds solved ranked swept u hu its-turn alone
        (caps_here ms fs u.0 a f m-room f-room ∙ cap-is)
        (sets_here ss u.0 found s-room ∙ set_is)
        (λ v other. (caps_other ms fs u.0 a f v other, sets_other ss u.0 found v other))
        short
