-- How the order of the events grows, from the sinks on: what holds between two steps of `order`.
--     Waits ss ts rank head e v i     == rule i is out of v and not served yet
--     Placed n ss ts order tail rank  == the first `tail` places of order hold distinct events, event v at place rank v, targets first
--     Progress … head e Due           == Placed, waiting counts the rules not served yet, and each due event with none is placed
--     Serving … head                  == Progress where the first `head` places have been served and no others
--     FirstReady == what is asked before an event is placed
-- rank v is 1024 or more for an event without a place. A rule is served when its target has been gone through at place rank(target) < head, or
-- when that place is head and the walk through its rules, which goes down, stands at e ≤ i: rank(target) · 5000 + e ≤ head · 5000 + i says
-- both, as rules are fewer than 5000. Assumes nothing.
use Rattle.std.specs.Prelude.{◌≡◌, List, ℕ, ◌+◌, ◌*◌, ◌<◌, ◌≤◌, length, get_or}
use Rattle.sequences.specs.Counted.{Counted}
use Rattle.analysis.specs.Parts.Rules.{RulesKept, Tally}

pub record Waits (ss ts : List ℕ) (rank : ℕ → ℕ) (head e v i : ℕ) : Type 0 where
  pub out : get_or ss i 0 ≡ v
  pub later : head * 5000 + i < rank (get_or ts i 0) * 5000 + e

pub record Placed (n : ℕ) (ss ts order : List ℕ) (tail : ℕ) (rank : ℕ → ℕ) : Type 0 where
  pub left : ℕ
  pub left_counted : Counted (λ (v : ℕ). 1024 ≤ rank v) n left
  pub left_tail : left + tail ≡ n
  pub no_gap : (v : ℕ) → tail ≤ rank v → 1024 ≤ rank v
  pub order_rank : (v : ℕ) → rank v < tail → get_or order (rank v) 0 ≡ v
  pub order_below : (k : ℕ) → k < tail → get_or order k 0 < n
  pub rank_order : (k : ℕ) → k < tail → rank (get_or order k 0) ≡ k
  pub targets_first : (i : ℕ) → i < length ss → rank (get_or ss i 0) < tail → rank (get_or ts i 0) < rank (get_or ss i 0)

pub record Progress (n : ℕ) (ss ts waiting order : List ℕ) (tail head e : ℕ) (Due : ℕ → Type 0) : Type 0 where
  pub rank : ℕ → ℕ
  pub placed : Placed n ss ts order tail rank
  pub waiting_room : n ≤ length waiting
  pub order_room : n ≤ length order
  pub clock : head * 5000 + 5000 ≤ tail * 5000 + e
  pub waits : (v : ℕ) → v < n → Counted (Waits ss ts rank head e v) (length ss) (get_or waiting v 0)
  pub waiting_left : (v : ℕ) → v < n → 0 < get_or waiting v 0 → 1024 ≤ rank v
  pub due_placed : (v : ℕ) → Due v → get_or waiting v 0 ≡ 0 → rank v < tail
  pub undue_left : (v : ℕ) → (Due v → ⊥) → 1024 ≤ rank v

abbrev pub Serving : ℕ → List ℕ → List ℕ → List ℕ → List ℕ → ℕ → ℕ → Type 0
Serving n ss ts waiting order tail head = Progress n ss ts waiting order tail head 5000 (λ (v : ℕ). v < n)

pub record FirstReady (n : ℕ) (ss ts waiting order : List ℕ) : Type 0 where
  pub kept : RulesKept n ss ts
  pub tally : Tally ss (length ss) waiting
  pub waiting_room : n ≤ length waiting
  pub order_room : n ≤ length order
