-- One event's turn in the sweep, template by template.
--     ahead g k j                       == the number of the occurrence that template j leads to from occurrence k of its source
--     start_ahead g j                    == the number of the occurrence that its start rule leads to
--     Reached From f r c                == c is unlimited, or f j of a template j below r with From j
--     LeastTemplate g From f c          == c is the least f j over the templates j with From j; unlimited where none is less
--     Candidate From Here own sets r p  == p is the unit, and Here holds; or own j of a template j below r with From j composed with a pair of its set
--     TemplateTurn g From Here own sets C == C holds the pair own j of every template j with From j composed with every pair of its set, the unit where Here
--                                          holds, and no other
-- Assumes nothing.
use Rattle.std.specs.Prelude.{◌≡◌, ◌⊎◌, List, ℕ, ◌+◌, ◌<◌}
use Rattle.sets.specs.Limit.{Limit, unlimited, ◌≤ᴸ◌}
use Rattle.sets.specs.Pair.{Pair, compose, unit}
use Rattle.sets.specs.Set.{◌∈◌}
use Rattle.processes.specs.Process.{templates, target, mark, occurrence, ProcessGraph}

abbrev pub ahead : ProcessGraph → ℕ → ℕ → ℕ
ahead g k j = (occurrence g (k + mark g j) (target g j)).0

abbrev pub start_ahead : ProcessGraph → ℕ → ℕ
start_ahead g j = (occurrence g 0 (target g j)).0

abbrev pub Reached : (From : ℕ → Type 0) (f : ℕ → Limit) (r : ℕ) → Limit → Type 0
Reached From f r c = (c ≡ unlimited) ⊎ ((j : ℕ) × (j < r) × From j × (f j ≡ c))

pub record LeastTemplate (g : ProcessGraph) (From : ℕ → Type 0) (f : ℕ → Limit) (c : Limit) : Type 0 where
  pub reached : Reached From f (templates g) c
  pub bound : (j : ℕ) → j < templates g → From j → c ≤ᴸ f j

abbrev pub Candidate : (From : ℕ → Type 0) (Here : Type 0) (own : ℕ → Pair) (sets : ℕ → List Pair) (r : ℕ) → Pair → Type 0
Candidate From Here own sets r p = (Here × (p ≡ unit)) ⊎ ((j : ℕ) × (q : Pair) × (j < r) × From j × (q ∈ sets j) × (p ≡ compose (own j) q))

pub record TemplateTurn (g : ProcessGraph) (From : ℕ → Type 0) (Here : Type 0) (own : ℕ → Pair) (sets : ℕ → List Pair) (C : List Pair) : Type 0 where
  pub here : Here → unit ∈ C
  pub on : (j : ℕ) → j < templates g → From j → (q : Pair) → q ∈ sets j → compose (own j) q ∈ C
  pub only : (p : Pair) → p ∈ C → Candidate From Here own sets (templates g) p
