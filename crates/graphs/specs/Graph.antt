-- An event graph as it is handed in: a number of events and four lists, one entry a rule. Nothing is assumed of it here: a graph may break every
-- limit. Document 01, section "Event graphs"; report UW-CSE-92-11-01, section 2.1.
--     Graph             == the number of events and the four rule lists
--     graph_of n …       == the graph with n events and these four lists
--     rules g           == how many rules g has
--     source g i        == the source event of rule i
--     target g i        == the target event of rule i
--     least g i         == the least delay of rule i, d
--     most g i          == the most delay of rule i, D
--     Greatest g v f x  == x is the greatest f i over the rules i into event v, of which there is one at least
-- Assumes nothing.
use Rattle.std.specs.Prelude.{◌≡◌, List, ℕ, ◌<◌, ℤ, pos, ◌≤ℤ◌, length, get_or}

-- "A graph has n events, numbered from 0"; "A rule has a source event, a target event, a least delay d and a most delay D". "Event 0 is the root"
pub record Graph : Type 0 where
  pub events : ℕ
  pub sources : List ℕ
  pub targets : List ℕ
  pub leasts : List ℤ
  pub mosts : List ℤ

abbrev pub graph_of : ℕ → List ℕ → List ℕ → List ℤ → List ℤ → Graph
graph_of n ss ts ds Ds = record { events = n; sources = ss; targets = ts; leasts = ds; mosts = Ds }

-- "It has r rules, … numbered from 0 in the order given"
abbrev pub rules : Graph → ℕ
rules g = length g.sources

abbrev pub source : Graph → ℕ → ℕ
source g i = get_or g.sources i 0

abbrev pub target : Graph → ℕ → ℕ
target g i = get_or g.targets i 0

abbrev pub least : Graph → ℕ → ℤ
least g i = get_or g.leasts i (pos 0)

abbrev pub most : Graph → ℕ → ℤ
most g i = get_or g.mosts i (pos 0)

-- "the greatest value of … over its incoming rules"
pub record Greatest (g : Graph) (v : ℕ) (f : ℕ → ℤ) (x : ℤ) : Type 0 where
  pub reached : (i : ℕ) × (i < rules g) × (target g i ≡ v) × (f i ≡ x)
  pub bound : (i : ℕ) → i < rules g → target g i ≡ v → f i ≤ℤ x
