-- Whether some event's set has more than so many pairs.
--     path_pair_same, path_pairs_same    caps that agree at the events give a path the same pair, and the paths the same pairs
--     never_overfull                   where sets are found that close the pairs of every event's paths, none of them too long, there is no event with more
-- Assumes nothing.
use mathlib.Core.Path.{◌≡◌, refl, sym, ap, ◌∙◌}
use mathlib.Core.List.{List}
use Prim.Native.Nat.{ℕ, ◌<◌, ◌≤◌}
use native.Mathlib.Omega.{arith}
use lib.ListN.{length}
use Rattle.graphs.specs.Graph.{Graph, target, most}
use Rattle.graphs.specs.Path.{Path, stay, step}
use Rattle.graphs.specs.Limits.{SoundGraph}
use Rattle.sets.specs.Limit.{Limit, number}
use Rattle.sets.specs.Pair.{Pair, pair, compose}
use Rattle.sets.specs.Family.{Closes}
use Rattle.sets.proofs.Covers.{closes_length}
use Rattle.sets.proofs.Operations.{cover_more}
use Rattle.paths.specs.Cap.{Caps}
use Rattle.paths.specs.PathPair.{rule_pair, path_pair, PathPairs, Overfull}
use Rattle.paths.proofs.Caps.{cap_unique}

module _ {g : Graph} (sound : SoundGraph g) {cap cap' : ℕ → Limit} (agree : (v : ℕ) → v < g.events → cap v ≡ cap' v) where
  pub path_pair_same : {u v : ℕ} (p : Path g u v) → path_pair cap p ≡ path_pair cap' p
  path_pair_same stay = refl
  path_pair_same (step i h e f p) =
      ap (λ (c : Limit). compose (pair (number (most g i)) c) (path_pair cap p)) (agree (target g i) (sound.ends i h).target_known)
      ∙ ap (compose (rule_pair g cap' i)) (path_pair_same p)

  pub path_pairs_same : {t v : ℕ} {T : List Pair} → Closes T (PathPairs g cap t v) → Closes T (PathPairs g cap' t v)
  path_pairs_same h =
      record {
        ordered = h.ordered;
        covers = cover_more (λ l w is. (is.0, sym (path_pair_same is.0) ∙ is.1)) (λ l w is. (is.0, path_pair_same is.0 ∙ is.1)) h.covers;
      }

pub never_overfull : {g : Graph} → SoundGraph g → {s t room : ℕ} {cap : ℕ → Limit} → Caps g s cap
    → ((v : ℕ) → v < g.events → (T : List Pair) × Closes T (PathPairs g cap t v) × (length T ≤ room)) → Overfull g s t room → ⊥
never_overfull {g} sound {cap = cap} caps found o =
    let (T, closes, short) = found o.event o.is_event in
    let moved : Closes o.set (PathPairs g cap _ o.event) = path_pairs_same sound (λ v l. cap_unique (o.caps.each v l) (caps.each v l)) o.closes in
    omega (arith, closes_length closes moved, short, o.over)
