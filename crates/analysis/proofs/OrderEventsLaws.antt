-- What is known once every placed event has been served.
--     served_ordered      `Ordered`, with the test whether all n events are placed
-- With all events placed, the ranks are the order that is asked for. With some event left, each event that is left waits for a rule that is not
-- served, and the target of such a rule is left too: so the graph has a cycle. Assumes nothing.
use mathlib.Core.Path.{◌≡◌, subst}
use mathlib.Core.List.{List}
use Prim.Native.Nat.{ℕ, ◌<◌, ◌≤◌}
use native.Mathlib.Decide.{dec_lt}
use native.Mathlib.Omega.{arith}
use borrow.Author.Tests.{eqb-true, eqb-false}
use lib.Dec.{eqb}
use lib.IntN.{ℤ}
use lib.ListN.{length, get_or}
use Rattle.graphs.specs.Graph.{graph_of}
use Rattle.graphs.specs.Path.{HasCycle}
use Rattle.graphs.proofs.Closed.{forward_closed_cycle}
use Rattle.analysis.specs.Parts.Order.{Order, Ordered}
use Rattle.analysis.specs.Parts.Rules.{RulesKept}
use Rattle.analysis.specs.Parts.Placing.{Serving}
use Rattle.sequences.specs.Counted.{Counted}
use Rattle.sequences.proofs.Counting.{counted_none, counted_some}

module _ (n : ℕ) (ss ts waiting order : List ℕ) (tail : ℕ) (kept : RulesKept n ss ts) (p : Serving n ss ts waiting order tail tail) where
  all_placed : tail ≡ n → (v : ℕ) → v < n → p.rank v < n
  all_placed e v l = placed (dec_lt (p.rank v) n)
    where
      placed : Dec (p.rank v < n) → p.rank v < n
      placed (yes k) = k
      placed (no k) = absurd (counted_none (subst (Counted (λ (u : ℕ). 1024 ≤ p.rank u) n) (let z : p.placed.left ≡ 0 = omega (arith, p.placed.left_tail) in z) p.placed.left_counted) v l (p.placed.no_gap v (omega arith)))

  orders : tail ≡ n → Order n ss ts order p.rank
  orders e =
      record {
        rank_below = all_placed e;
        order_rank = λ v l. p.placed.order_rank v (omega (arith, all_placed e v l));
        order_below = λ k l. p.placed.order_below k (omega arith);
        rank_order = λ k l. p.placed.rank_order k (omega arith);
        targets_first = λ i l. p.placed.targets_first i l (omega (arith, all_placed e (get_or ss i 0) (kept.sources_below.below i l)));
      }

  record Left (v : ℕ) : Type 0 where
    known : v < n
    no_place : 1024 ≤ p.rank v

  still_waits : (v : ℕ) → Left v → 0 < get_or waiting v 0
  still_waits v l = waits (dec_lt 0 (get_or waiting v 0))
    where
      waits : Dec (0 < get_or waiting v 0) → 0 < get_or waiting v 0
      waits (yes k) = k
      waits (no k) = let placed : p.rank v < tail = p.due_placed v l.known (omega arith) in omega (arith, l.no_place, p.placed.left_tail, kept.few_events)

  after : (v : ℕ) → Left v → (i : ℕ) × (i < length ss) × (get_or ss i 0 ≡ v) × Left (get_or ts i 0)
  after v l =
      let (i, k, w) = counted_some (p.waits v l.known) (still_waits v l) in
      (i, k, w.out, record { known = kept.targets_below.below i (omega (arith, kept.targets_match)); no_place = p.placed.no_gap (get_or ts i 0) (omega (arith, w.later)) })

  cycles : (tail ≡ n → ⊥) → (ds Ds : List ℤ) → HasCycle (graph_of n ss ts ds Ds)
  cycles e ds Ds =
      let (v, l, k) = counted_some p.placed.left_counted (omega (arith, p.placed.left_tail)) in
      forward_closed_cycle (graph_of n ss ts ds Ds) Left (λ v l. l.known) after v (record { known = l; no_place = k })

  pub served_ordered : Ordered n ss ts order (eqb tail n)
  served_ordered = record { ordered = λ e. (p.rank, orders (eqb-true tail n e)); cyclic = λ e. cycles (eqb-false tail n e) }
