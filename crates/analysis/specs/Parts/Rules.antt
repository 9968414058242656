-- The rules, looked at one by one: checked, chained by target and counted by source.
--     RightRule n b u v d D        == a rule from u to v with the delays d and D names events below n, and its delays are right
--     RuleRight b g i              == rule i of g is right
--     EndsBelow n keys             == every key is an event
--     Tally ss k waiting           == waiting[v] is the number of rules below k out of v
--     RulesKept n ss ts            == the limits that the rules ss, ts of n events keep
--     Zeros n xs                   == xs has n places at least, and holds 0 at each
--     RulesTaken b g heads nexts waiting x == x is true, every rule is right, they are chained by target and counted by source; or x is false, and one is not right
-- Assumes nothing.
use Rattle.std.specs.Prelude.{◌≡◌, Bool, true, false, List, ℕ, ◌<◌, ◌≤◌, ℤ, length, get_or}
use Rattle.sequences.specs.Counted.{Counted}
use Rattle.graphs.specs.Graph.{Graph, rules, source, target, least, most}
use Rattle.refusals.specs.Faults.{BoundedDelays}
use Rattle.analysis.specs.Parts.Chains.{ChainLists}

pub record RightRule (n b u v : ℕ) (d D : ℤ) : Type 0 where
  pub source_known : u < n
  pub target_known : v < n
  pub delays : BoundedDelays b d D

abbrev pub RuleRight : ℕ → Graph → ℕ → Type 0
RuleRight b g i = RightRule g.events b (source g i) (target g i) (least g i) (most g i)

pub record EndsBelow (n : ℕ) (keys : List ℕ) : Type 0 where
  pub below : (i : ℕ) → i < length keys → get_or keys i 0 < n

pub record Tally (ss : List ℕ) (k : ℕ) (waiting : List ℕ) : Type 0 where
  pub counted : (v : ℕ) → v < length waiting → Counted (λ (i : ℕ). get_or ss i 0 ≡ v) k (get_or waiting v 0)

pub record RulesKept (n : ℕ) (ss ts : List ℕ) : Type 0 where
  pub few_events : n ≤ 1024
  pub few_rules : length ss ≤ 4096
  pub targets_match : length ts ≡ length ss
  pub sources_below : EndsBelow n ss
  pub targets_below : EndsBelow n ts

pub record Zeros (n : ℕ) (xs : List ℕ) : Type 0 where
  pub room : n ≤ length xs
  pub zero : (v : ℕ) → v < length xs → get_or xs v 0 ≡ 0

pub record RulesTaken (b : ℕ) (g : Graph) (heads nexts waiting : List ℕ) (x : Bool) : Type 0 where
  pub right : x ≡ true → (i : ℕ) → i < rules g → RuleRight b g i
  pub chains : x ≡ true → ChainLists g.events g.targets heads nexts
  pub tally : x ≡ true → Tally g.sources (rules g) waiting
  pub wrong : x ≡ false → ((i : ℕ) → i < rules g → RuleRight b g i) → ⊥
