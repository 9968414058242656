-- The search for an event on a cycle: going back along rules, events are marked and listed.
--     Listing seen list end       == the first `end` places of list hold the marked events, each once
--     InSources ss ts event u     == u is the source of a rule into event
--     Marked ss ts event …        == the sources of the rules into event are marked too, and listed after the others, and no more is
--     LiesOn ss ts v, LiesOff ss ts v == in every graph with these rules event v lies on a cycle, or lies on none
--     CycleAt ss ts v b           == b says which of the two
-- ss and ts are the sources and the targets of the rules. Assumes nothing.
use Rattle.std.specs.Prelude.{◌≡◌, ◌⊎◌, Bool, true, false, List, ℕ, ◌+◌, ◌<◌, ◌≤◌, ℤ, length, get_or}
use Rattle.graphs.specs.Graph.{graph_of}
use Rattle.graphs.specs.Path.{OnCycle}
use Rattle.sequences.specs.Counted.{Counted}

pub record Listing (seen : List Bool) (list : List ℕ) (end : ℕ) : Type 0 where
  pub left : ℕ
  pub left_counted : Counted (λ (u : ℕ). get_or seen u false ≡ false) (length seen) left
  pub left_end : left + end ≡ length seen
  pub listed : (u : ℕ) → get_or seen u false ≡ true → (k : ℕ) × (k < end) × (get_or list k 0 ≡ u)
  pub list_seen : (k : ℕ) → k < end → get_or seen (get_or list k 0) false ≡ true
  pub list_below : (k : ℕ) → k < end → get_or list k 0 < length seen

abbrev pub InSources : List ℕ → List ℕ → ℕ → ℕ → Type 0
InSources ss ts event u = (i : ℕ) × (i < length ts) × (get_or ts i 0 ≡ event) × (get_or ss i 0 ≡ u)

pub record Marked (ss ts : List ℕ) (event : ℕ) (seen₀ : List Bool) (list₀ : List ℕ) (end₀ : ℕ) (seen : List Bool) (list : List ℕ) (end : ℕ) : Type 0 where
  pub listing : Listing seen list end
  pub closed : (i : ℕ) → i < length ts → get_or ts i 0 ≡ event → get_or seen (get_or ss i 0) false ≡ true
  pub still : (u : ℕ) → get_or seen₀ u false ≡ true → get_or seen u false ≡ true
  pub new : (u : ℕ) → get_or seen u false ≡ true → (get_or seen₀ u false ≡ true) ⊎ InSources ss ts event u
  pub same_front : (k : ℕ) → k < end₀ → get_or list k 0 ≡ get_or list₀ k 0
  pub grown : end₀ ≤ end

abbrev pub LiesOn : List ℕ → List ℕ → ℕ → Type 0
LiesOn ss ts v = (n : ℕ) (ds Ds : List ℤ) → OnCycle (graph_of n ss ts ds Ds) v

abbrev pub LiesOff : List ℕ → List ℕ → ℕ → Type 0
LiesOff ss ts v = (n : ℕ) (ds Ds : List ℤ) → OnCycle (graph_of n ss ts ds Ds) v → ⊥

pub record CycleAt (ss ts : List ℕ) (v : ℕ) (b : Bool) : Type 0 where
  pub on : b ≡ true → LiesOn ss ts v
  pub off : b ≡ false → LiesOff ss ts v
