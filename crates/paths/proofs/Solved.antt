-- All caps and all fully pruned sets of a graph, against s and towards t: what a sweep is to find, event by event.
--     solved_exists              a sound graph has them
--     cap_found, set_found       what has the meaning of a cap or of a fully pruned set is it
--     turn_found                 the candidates of an event's turn cover the pairs of its paths, and what pruning leaves of them is its set
--     pruning_found              a pruning of what covers the pairs of v's paths holds the set of v, or says that it has more pairs than there is room
--     no_path_cap, no_path_set   an event with no path to s has an unlimited cap; one with none to t has the empty set
--     outside_path               no path leads from a number that is no event to another number
--     solved_separation          the value of the root's set at the root's cap is the separation
--     solved_overfull            an event whose set has more pairs than there is room is overfull
--     solved_fits                where no event's set has more, none is
-- Assumes nothing.
use mathlib.Core.Path.{◌≡◌, sym, subst}
use mathlib.Core.List.{List, []}
use Prim.Native.Nat.{ℕ, ◌<◌, ◌≤◌}
use native.Mathlib.Omega.{arith}
use lib.IntN.{ℤ}
use lib.ListN.{length}
use Rattle.std.specs.Prelude.{Result, Ok, Err}
use Rattle.graphs.specs.Graph.{Graph, rules, target}
use Rattle.graphs.specs.Path.{Path}
use Rattle.graphs.specs.Limits.{EndsKept, SoundGraph}
use Rattle.graphs.proofs.Paths.{FirstRule, no_first, first, first_rule}
use Rattle.executions.specs.Separation.{Separation}
use Rattle.sets.specs.Limit.{Limit, number, unlimited}
use Rattle.sets.specs.Pair.{Pair}
use Rattle.sets.specs.Set.{SetValue, Prunes}
use Rattle.sets.specs.Family.{Covers, Closes}
use Rattle.sets.specs.Held.{pairs_of}
use Rattle.sets.specs.Promise.{PrunedTo}
use Rattle.sets.specs.declared.PrunedSet.{PrunedSet}
use Rattle.sets.specs.declared.MorePairs.{MorePairs}
use Rattle.sets.proofs.Covers.{closes_unique, prunes_closes}
use Rattle.sets.proofs.Promises.{pruning_closes, pruning_more}
use Rattle.paths.specs.Cap.{CapOf, no_m, Caps}
use Rattle.paths.specs.PathPair.{PathPairs, Overfull}
use Rattle.paths.proofs.Caps.{cap_unique, cap_m, caps_exist}
use Rattle.paths.proofs.Carried.{separation_carried}
use Rattle.paths.specs.Parts.Turn.{Turn}
use Rattle.paths.specs.Parts.Solved.{Solved}
use Rattle.paths.proofs.Turn.{turn_covers, no_path_closes}
use Rattle.paths.proofs.Closed.{sets_exist}
use Rattle.paths.proofs.Overfull.{never_overfull}

pub solved_exists : {g : Graph} → SoundGraph g → (s t : ℕ) → (cap : ℕ → Limit) × (full : ℕ → List Pair) × Solved g s t cap full
solved_exists sound s t =
    let (cap, caps) = caps_exist sound s in
    let (full, sets) = sets_exist sound cap t in
    (cap, full, record { caps = caps; sets = sets })

pub outside_path : {g : Graph} {s v : ℕ} → ((i : ℕ) → i < rules g → EndsKept g i) → g.events ≤ v → (v ≡ s → ⊥) → Path g v s → ⊥
outside_path {g} {s} {v} ends outside other p = by (first_rule p)
  where
    by : FirstRule g v s p → ⊥
    by (no_first same none zero-sum) = other same
    by (first i l out q one_more its-sum) = let known = (ends i l).source_known in omega (arith, known, out)

module _ {g : Graph} {s t : ℕ} {cap : ℕ → Limit} {full : ℕ → List Pair} (solved : Solved g s t cap full) where
  pub cap_found : {v : ℕ} {c : Limit} → CapOf g s v c → c ≡ cap v
  cap_found {v} h = cap_unique h (solved.caps v)

  pub set_found : {v : ℕ} {T : List Pair} → Closes T (PathPairs g cap t v) → T ≡ full v
  set_found {v} h = closes_unique h (solved.sets.each v).closes

  pub turn_found : {v : ℕ} {C : List Pair} → Turn g cap t v (λ i. full (target g i)) C
      → Covers C (PathPairs g cap t v) × ((T : List Pair) → Prunes C T → T ≡ full v)
  turn_found {v} turn =
      let covers =
      turn_covers (λ i. full (target g i)) (λ i h out. (solved.sets.each (target g i)).closes.covers)
      (λ i h out. (solved.sets.each (target g i)).numbered.number_of) turn in
      (covers, λ T h. set_found (prunes_closes covers h))

  pub pruning_found : {v room : ℕ} {C : List Pair} (r : Result PrunedSet MorePairs) → Covers C (PathPairs g cap t v) → PrunedTo C room r
      → ((s : PrunedSet) → r ≡ Ok s → (pairs_of s ≡ full v) × (length (full v) ≤ room)) × ((e : MorePairs) → r ≡ Err e → room < length (full v))
  pruning_found {room = room} {C = C} r covers h = (
    λ s is.
        let (closes, short) = pruning_closes covers s (subst (PrunedTo C room) is h) in
        let same = set_found closes in
        (same, subst (λ (T : List Pair). length T ≤ room) same short),
    λ e is. let (T, closes, over) = pruning_more covers e (subst (PrunedTo C room) is h) in subst (λ (T : List Pair). room < length T) (set_found closes) over,
  )

  pub no_path_cap : {v : ℕ} → (Path g v s → ⊥) → cap v ≡ unlimited
  no_path_cap never = sym (cap_found (no_m never))

  pub no_path_set : {v : ℕ} → (Path g v t → ⊥) → full v ≡ []
  no_path_set never = sym (set_found (no_path_closes cap never))

  events_caps : Caps g s cap
  events_caps = record { each = λ v l. solved.caps v }

  module _ (sound : SoundGraph g) where
    pub solved_separation : s < g.events → t < g.events → {m x : ℤ} → cap 0 ≡ number m → SetValue (full 0) m x → Separation g s t x
    solved_separation hs ht e v =
        separation_carried sound hs ht events_caps (solved.sets.each 0).closes.covers (cap_m (subst (CapOf g s 0) e (solved.caps 0))) v

    pub solved_fits : {room : ℕ} → ((v : ℕ) → v < g.events → length (full v) ≤ room) → Overfull g s t room → ⊥
    solved_fits short = never_overfull sound events_caps (λ v l. (full v, (solved.sets.each v).closes, short v l))

  pub solved_overfull : {room v : ℕ} → v < g.events → room < length (full v) → Overfull g s t room
  solved_overfull {v = v} l over =
      record { cap = cap; caps = events_caps; event = v; is_event = l; set = full v; closes = (solved.sets.each v).closes; over = over }
