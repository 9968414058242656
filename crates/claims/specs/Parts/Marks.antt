-- What the passes over the rules and the events of a claim say.
--     RootFree g                == no rule leads to the root
--     RulesMarked g delay time met₀ k lowest met == of the first k rules: lowest is the lowest target of a rule that isn't kept, or n; met, which was met₀, is
--                                  set at each event that one of them meets exactly
-- Assumes nothing.
use Rattle.std.specs.Prelude.{◌≡◌, Bool, true, false, ◌⊎◌, List, ℕ, ◌<◌, ◌≤◌, ℤ, length, get_or}
use Rattle.graphs.specs.Graph.{Graph, rules, target}
use Rattle.claims.specs.Parts.Verdicts.{RuleKept, RuleMeets}

abbrev pub RootFree : Graph → Type 0
RootFree g = (i : ℕ) → i < rules g → target g i ≡ 0 → ⊥

pub record RulesMarked (g : Graph) (delay time : ℕ → ℤ) (met₀ : List Bool) (k lowest : ℕ) (met : List Bool) : Type 0 where
  pub same_length : length met ≡ length met₀
  pub within : lowest ≤ g.events
  pub kept : (i : ℕ) → i < k → target g i < lowest → RuleKept g delay time i
  pub broken : lowest < g.events → (i : ℕ) × (i < k) × (target g i ≡ lowest) × (RuleKept g delay time i → ⊥)
  pub set : (v : ℕ) → get_or met v false ≡ true → (get_or met₀ v false ≡ true) ⊎ ((i : ℕ) × (i < k) × (target g i ≡ v) × RuleMeets g delay time i)
  pub unset : (v : ℕ) → get_or met v false ≡ false → (get_or met₀ v false ≡ false) × ((i : ℕ) → i < k → target g i ≡ v → RuleMeets g delay time i → ⊥)
