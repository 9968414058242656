-- The refusals of a question about two events of a graph. Document 01, section "Refusal numbers": "The first that applies is given, in this order"; 02,
-- wish 3, which gives 21 to 24 "where 1 stood", and 5 its place.
--     EventsOutside top n      == refusal 21: the number n of events is 0 or above its limit
--     RulesOutside top g       == refusal 22: the rules are more than their limit, or the rule lists differ in length
--     UnknownEvent g i         == refusal 2: rule i names an event that doesn't exist
--     BeyondDelays b d D       == one of the two delays is not from −b to b, or d > D
--     OutsideDelays d D        == the same with 01's 1,000,000
--     DelayBeyond b g i        == the delays of rule i are beyond b
--     DelayOutside g i         == refusal 3: a delay of rule i is out of range, or d > D
--     MissingEnd g s t p       == refusal 4: "s or t doesn't exist", place "0 if s, else 1"
--     Unreached g v            == refusal 6: event v isn't reachable from the root
--     count_checks n r g        == refusals 21 and 22, with the limits n of events and r of rules
--     rule_checks b g           == refusals 2 and 3
--     graph_checks g            == refusals 21, 22, 2, 3, in this order: those of the graph before any path is looked at
--     question_checks g s t Short == refusals 21, 22, 23, 2, 3, 4: the same of a question; 23, a lent list is too short, where Short says so
--     question_checks_to b …     == the same with b for 1,000,000
--     path_checks g             == refusals 5 and 6
--     GraphVerdict g           == the refusals of a graph alone: 21, 22, 2, 3, 5, 6
-- Refusal 5 is `OnCycle` of Path.antt. A rounded graph passes 1,000,000 by less than 1,000 (01, "Coarse form"), and a table is for smaller graphs, so the
-- bounds are arguments. Assumes nothing.
use Rattle.std.specs.Prelude.{◌≡◌, ◌⊎◌, List, [], ◌∷◌, ◌++◌, ℕ, ◌<◌, ◌≤◌, ℤ, pos, neg_ℤ, ◌<ℤ◌, length}
use Rattle.verdicts.specs.Verdict.{Check, check, FirstOf, AtZero, Lowest}
use Rattle.graphs.specs.Graph.{Graph, rules, source, target, least, most}
use Rattle.graphs.specs.Path.{OnCycle, Reachable}

-- "1 ≤ n ≤ 1,024"; 02: "event count … 21"
pub data EventsOutside (top n : ℕ) : Type 0 where
  no_events : n ≡ 0 → EventsOutside top n
  many_events : top < n → EventsOutside top n

-- "0 ≤ r ≤ 4,096"; 02: "rule … count above 4,096 or unequal lists 22"
pub data RulesOutside (top : ℕ) (g : Graph) : Type 0 where
  many_rules : top < rules g → RulesOutside top g
  targets_differ : (length g.targets ≡ rules g → ⊥) → RulesOutside top g
  leasts_differ : (length g.leasts ≡ rules g → ⊥) → RulesOutside top g
  mosts_differ : (length g.mosts ≡ rules g → ⊥) → RulesOutside top g

-- "a rule … names an event that doesn't exist"
pub record UnknownEvent (g : Graph) (i : ℕ) : Type 0 where
  pub is_rule : i < rules g
  pub unknown : (g.events ≤ source g i) ⊎ (g.events ≤ target g i)

-- "a delay is out of range, or d > D"
pub data BeyondDelays (b : ℕ) (d D : ℤ) : Type 0 where
  least_low : d <ℤ neg_ℤ (pos b) → BeyondDelays b d D
  least_high : pos b <ℤ d → BeyondDelays b d D
  most_low : D <ℤ neg_ℤ (pos b) → BeyondDelays b d D
  most_high : pos b <ℤ D → BeyondDelays b d D
  crossed : D <ℤ d → BeyondDelays b d D

abbrev pub OutsideDelays : ℤ → ℤ → Type 0
OutsideDelays d D = BeyondDelays 1000000 d D

pub record DelayBeyond (b : ℕ) (g : Graph) (i : ℕ) : Type 0 where
  pub is_rule : i < rules g
  pub outside : BeyondDelays b (least g i) (most g i)

abbrev pub DelayOutside : Graph → ℕ → Type 0
DelayOutside g i = DelayBeyond 1000000 g i

-- "s or t doesn't exist"; "0 if s, else 1"
pub data MissingEnd (g : Graph) (s t : ℕ) : ℕ → Type 0 where
  source_missing : g.events ≤ s → MissingEnd g s t 0
  target_missing : s < g.events → g.events ≤ t → MissingEnd g s t 1

-- "an event isn't reachable from the root"
pub record Unreached (g : Graph) (v : ℕ) : Type 0 where
  pub is_event : v < g.events
  pub no_path : Reachable g v → ⊥

-- 02: "all with place 0"
abbrev pub count_checks : ℕ → ℕ → Graph → List Check
count_checks n r g = check 21 (AtZero (EventsOutside n g.events)) ∷ check 22 (AtZero (RulesOutside r g)) ∷ []

abbrev pub rule_checks : ℕ → Graph → List Check
rule_checks b g = check 2 (Lowest (UnknownEvent g)) ∷ check 3 (Lowest (DelayBeyond b g)) ∷ []

-- "analysis 1, 2, 3, 4, … 5, 6"; 02: "checked 21, 22, 24, 23 where 1 stood"
abbrev pub graph_checks : Graph → List Check
graph_checks g = count_checks 1024 4096 g ++ rule_checks 1000000 g

abbrev pub question_checks_to : ℕ → Graph → ℕ → ℕ → Type 0 → List Check
question_checks_to b g s t Short = count_checks 1024 4096 g ++ (check 23 (AtZero Short) ∷ (rule_checks b g ++ (check 4 (MissingEnd g s t) ∷ [])))

abbrev pub question_checks : Graph → ℕ → ℕ → Type 0 → List Check
question_checks g s t Short = question_checks_to 1000000 g s t Short

-- 02: "The cycle refusal must name the lowest-numbered event that lies on a cycle"
abbrev pub path_checks : Graph → List Check
path_checks g = check 5 (Lowest (OnCycle g)) ∷ check 6 (Lowest (Unreached g)) ∷ []

-- "then as the analysis": of a graph with no s and t, there is no refusal 4
abbrev pub GraphVerdict : Graph → ℕ → ℕ → Type 0
GraphVerdict g = FirstOf (graph_checks g ++ path_checks g)
