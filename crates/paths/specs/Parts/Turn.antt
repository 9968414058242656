-- One event's turn: the candidates for its set, from the sets of the targets of its rules.
--     LeastOut g v f c       == c is the least f i over the rules i out of v; unlimited where none is less
--     Candidate … r p        == p is the unit, and v is t; or that of a rule below r out of v composed with a pair of the rule's set
--     Turn g cap t v sets C  == C holds every pair of a rule out of v composed with a pair of the rule's set, the unit where v is t, and no other
-- Assumes nothing.
use Rattle.std.specs.Prelude.{◌≡◌, ◌⊎◌, List, ℕ, ◌<◌}
use Rattle.graphs.specs.Graph.{Graph, rules, source}
use Rattle.sets.specs.Limit.{Limit, unlimited, ◌≤ᴸ◌}
use Rattle.sets.specs.Pair.{Pair, compose, unit}
use Rattle.sets.specs.Set.{◌∈◌}
use Rattle.paths.specs.PathPair.{rule_pair}

pub record LeastOut (g : Graph) (v : ℕ) (f : ℕ → Limit) (c : Limit) : Type 0 where
  pub reached : (c ≡ unlimited) ⊎ ((i : ℕ) × (i < rules g) × (source g i ≡ v) × (f i ≡ c))
  pub bound : (i : ℕ) → i < rules g → source g i ≡ v → c ≤ᴸ f i

abbrev pub Candidate : (g : Graph) (cap : ℕ → Limit) (t v : ℕ) (sets : ℕ → List Pair) (r : ℕ) → Pair → Type 0
Candidate g cap t v sets r p =
    ((v ≡ t) × (p ≡ unit)) ⊎ ((i : ℕ) × (q : Pair) × (i < r) × (source g i ≡ v) × (q ∈ sets i) × (p ≡ compose (rule_pair g cap i) q))

pub record Turn (g : Graph) (cap : ℕ → Limit) (t v : ℕ) (sets : ℕ → List Pair) (C : List Pair) : Type 0 where
  pub here : v ≡ t → unit ∈ C
  pub on : (i : ℕ) → i < rules g → source g i ≡ v → (q : Pair) → q ∈ sets i → compose (rule_pair g cap i) q ∈ C
  pub only : (p : Pair) → p ∈ C → Candidate g cap t v sets (rules g) p
