-- The promise of a long run. Document 02, request 7, "Long runs without storing them"; its refusals and their order.
--     CountOutside g                == refusal 21: the number of process events is 0, or above 32
--     TemplatesOutside g            == refusal 22: more than 128 templates, or the lists differ in length
--     CopiesOutside K               == refusal 24: K is 0, or above 100,000
--     IntervalOutside g j           == refusal 3: the interval of template j is outside, or, where its mark is 1, its start interval
--     At g K u k                    == occurrence k of u exists
--     MissingOccurrence g K …       == refusal 4: the occurrence of s, or that of t, doesn't exist
--     OnCycle g v                   == refusal 5: process event v lies on a cycle of mark-0 templates
--     Untargeted g v                == refusal 6: no template targets process event v
--     TooManyPairs g K …            == refusal 12: some event of the graph unfolded in full has a set of more than 64 pairs
--     input_checks g K …             == the refusals of what is handed in, in their order
--     long_checks g K …              == with 12 after them
--     LongAnswered g K …            == the answer: the verdict's number and place, and the separation in the graph unfolded in full; 0 where it is refused
-- Refusals 2 and 7 are those of the unfolding. Process event u at occurrence k is event 1 + k × p + u of the graph. Assumes nothing.
use Rattle.std.specs.Prelude.{◌≡◌, ◌⊎◌, List, [], ◌∷◌, ◌++◌, ℕ, ◌<◌, ℤ, pos, length}
use Rattle.verdicts.specs.Verdict.{Check, check, FirstOf, AtZero, Lowest}
use Rattle.graphs.specs.Refusal.{OutsideDelays}
use Rattle.executions.specs.Separation.{Separation}
use Rattle.processes.specs.declared.Event.{Event}
use Rattle.processes.specs.Process.{templates, target, least, most, mark, occurrence, ProcessGraph, start_least, start_most}
use Rattle.processes.specs.Unfolding.{UnknownTemplateEvent, MarkOutside}
use Rattle.processes.specs.Ways.{OnMarkZeroCycle}
use Rattle.paths.specs.PathPair.{Overfull}
use Rattle.levels.specs.Full.{full_unfolding}

-- "at most 32 process events"; request 3: "process-event count of 0 … 21"
pub data CountOutside (g : ProcessGraph) : Type 0 where
  no_events : g.events ≡ 0 → CountOutside g
  many_events : 32 < g.events → CountOutside g

-- "at most … 128 templates"; request 3: "rule or template count above … or unequal lists 22"
pub data TemplatesOutside (g : ProcessGraph) : Type 0 where
  many_templates : 128 < templates g → TemplatesOutside g
  targets_differ : (length g.targets ≡ templates g → ⊥) → TemplatesOutside g
  leasts_differ : (length g.leasts ≡ templates g → ⊥) → TemplatesOutside g
  mosts_differ : (length g.mosts ≡ templates g → ⊥) → TemplatesOutside g
  marks_differ : (length g.marks ≡ templates g → ⊥) → TemplatesOutside g
  start_leasts_differ : (length g.start_leasts ≡ templates g → ⊥) → TemplatesOutside g
  start_mosts_differ : (length g.start_mosts ≡ templates g → ⊥) → TemplatesOutside g

-- "K up to 100,000"; request 3: "K = 0 or an unfolding beyond its limits 24"
pub data CopiesOutside (K : ℕ) : Type 0 where
  no_copies : K ≡ 0 → CopiesOutside K
  many_copies : 100000 < K → CopiesOutside K

-- request 1: "3 covers the start interval too, same template as place", "an entry for another mark is neither read nor checked"
pub record IntervalOutside (g : ProcessGraph) (j : ℕ) : Type 0 where
  pub is_template : j < templates g
  pub outside : OutsideDelays (least g j) (most g j) ⊎ ((mark g j ≡ 1) × OutsideDelays (start_least g j) (start_most g j))

-- an occurrence: a process event and its k
pub record At (g : ProcessGraph) (K : ℕ) (u : Event) (k : ℕ) : Type 0 where
  pub is_event : u.0 < g.events
  pub is_copy : k < K

-- "s or t doesn't exist"; "0 if s, else 1"
pub data MissingOccurrence (g : ProcessGraph) (K : ℕ) (s : Event) (ks : ℕ) (t : Event) (kt : ℕ) : ℕ → Type 0 where
  source_missing : (At g K s ks → ⊥) → MissingOccurrence g K s ks t kt 0
  target_missing : At g K s ks → (At g K t kt → ⊥) → MissingOccurrence g K s ks t kt 1

-- "5 (lowest process event on a mark-0 cycle)"
pub record OnCycle (g : ProcessGraph) (v : ℕ) : Type 0 where
  pub is_event : v < g.events
  pub cycle : OnMarkZeroCycle g (record { 0 = v })

-- "6 (the lowest process event that no template targets)"
pub record Untargeted (g : ProcessGraph) (v : ℕ) : Type 0 where
  pub is_event : v < g.events
  pub no_template : (j : ℕ) → j < templates g → (target g j).0 ≡ v → ⊥

-- "21, 22, 24 at these limits, then 2, 3, 7, 4, 5 (lowest process event on a mark-0 cycle), 6 (the lowest process event that no template targets)"
abbrev pub input_checks : ProcessGraph → ℕ → Event → ℕ → Event → ℕ → List Check
input_checks g K s ks t kt =
    check 21 (AtZero (CountOutside g))
    ∷ check 22 (AtZero (TemplatesOutside g))
    ∷ check 24 (AtZero (CopiesOutside K))
    ∷ check 2 (Lowest (UnknownTemplateEvent g))
    ∷ check 3 (Lowest (IntervalOutside g))
    ∷ check 7 (Lowest (MarkOutside g))
    ∷ check 4 (MissingOccurrence g K s ks t kt)
    ∷ check 5 (Lowest (OnCycle g))
    ∷ check 6 (Lowest (Untargeted g))
    ∷ []

-- "then 12, place 0, exactly if for some occurrence, or the root, the fully pruned set over all paths to the target has more than 64 pairs"
abbrev pub TooManyPairs : ProcessGraph → ℕ → Event → ℕ → Event → ℕ → Type 0
TooManyPairs g K s ks t kt = Overfull (full_unfolding g K) (occurrence g ks s).0 (occurrence g kt t).0 64

abbrev pub long_checks : ProcessGraph → ℕ → Event → ℕ → Event → ℕ → List Check
long_checks g K s ks t kt = input_checks g K s ks t kt ++ (check 12 (AtZero (TooManyPairs g K s ks t kt)) ∷ [])

-- "The number must equal demand 2's maximum over the graph unfolded in full"
pub record LongAnswered (g : ProcessGraph) (K : ℕ) (s : Event) (ks : ℕ) (t : Event) (kt : ℕ) (refusal place : ℕ) (separation : ℤ) : Type 0 where
  pub verdict : FirstOf (long_checks g K s ks t kt) refusal place
  pub answer : refusal ≡ 0 → Separation (full_unfolding g K) (occurrence g ks s).0 (occurrence g kt t).0 separation
  pub refused : (refusal ≡ 0 → ⊥) → separation ≡ pos 0
