-- Ranks of events: a graph without a cycle has numbers for its events that grow along every rule.
--     Height g k v     a path that ends at v and has as many rules as any path to v of at most k rules
--     height           there is one for every k and v
--     short_path       without a cycle, a path to an event has fewer rules than there are events
--     rank_of          the ranks: along a rule they grow, and those of events stay below the number of events
-- A height is found by induction on k: a path with a rule on it is a shorter path and its last rule, so for k + 1 one takes the longest of the heights
-- for k of the sources of v's rules, each with its rule at the end, or the empty path where there is none. With no cycle every path to an event has fewer
-- than n rules, so the height for n counts all paths, and its number of rules is the rank: a path to a rule's source goes on along the rule.
-- Assumes nothing.
use mathlib.Core.Path.{◌≡◌, refl}
use Prim.Native.Nat.{ℕ, zero, suc, ◌≤◌, ◌<◌}
use native.Mathlib.Decide.{dec_lt, ℕ_discrete}
use native.Mathlib.Omega.{arith}
use Rattle.graphs.specs.Graph.{Graph, rules, source, target}
use Rattle.graphs.specs.Path.{Path, stay, steps, HasCycle}
use Rattle.graphs.specs.Limits.{EndsKept}
use Rattle.sequences.proofs.Below.{below_next}
use Rattle.graphs.proofs.Cycle.{long_path_cycle}
use Rattle.graphs.proofs.Paths.{along, steps_along, LastRule, no_last, last, last_rule}

pub record Height (g : Graph) (k v : ℕ) : Type 0 where
  pub from : ℕ
  pub path : Path g from v
  pub bound : (u : ℕ) (p : Path g u v) → steps p ≤ k → steps p ≤ steps path

-- a path that ends at v, with at least as many rules as any that has a rule below r at its end and at most k rules before it
record Found (g : Graph) (k v r : ℕ) : Type 0 where
  from : ℕ
  path : Path g from v
  bound : (i : ℕ) → i < r → target g i ≡ v → (u : ℕ) (q : Path g u (source g i)) → steps q ≤ k → steps q < steps path

module _ (g : Graph) (k v : ℕ) (below : (u : ℕ) → Height g k u) where
  -- a path that serves for the rules below r, and for rule r, serves for those below r + 1
  served :
      (r : ℕ) (b : Found g k v r) (u : ℕ) (p : Path g u v)
      → steps b.path ≤ steps p → (target g r ≡ v → steps (below (source g r)).path < steps p) → Found g k v (suc r)
  served r b u p no_less more =
      record {
        from = u;
        path = p;
        bound =
            below_next (λ i. target g i ≡ v → (t : ℕ) (q : Path g t (source g i)) → steps q ≤ k → steps q < steps p) r
            (λ i l to t q few. omega (arith, b.bound i l to t q few))
            (λ to t q few. omega (arith, more to, (below (source g r)).bound t q few));
      }

  found : (r : ℕ) → r ≤ rules g → Found g k v r
  found zero l = record { from = v; path = stay; bound = λ i none. absurd (let no_rule : ⊥ = omega arith in no_rule) }
  found (suc r) l = by (found r (omega arith)) (ℕ_discrete (target g r) v)
    where
      by : Found g k v r → Dec (target g r ≡ v) → Found g k v (suc r)
      by b (no other) = served r b b.from b.path (omega arith) (λ to. absurd (other to))
      by b (yes to) = better (dec_lt (steps h.path) (steps b.path))
        where
          h : Height g k (source g r)
          h = below (source g r)

          better : Dec (steps h.path < steps b.path) → Found g k v (suc r)
          better (yes less) = served r b b.from b.path (omega arith) (λ t. less)
          better (no more) =
              let longer : steps (along h.path r l refl to) ≡ suc (steps h.path) = steps_along h.path r l refl to in
              served r b h.from (along h.path r l refl to) (omega arith) (λ t. omega arith)

pub height : (g : Graph) (k v : ℕ) → Height g k v
height g zero v = record { from = v; path = stay; bound = λ u p few. few }
height g (suc k) v =
    let f : Found g k v (rules g) = found g k v (λ u. height g k u) (rules g) (omega arith) in
    record { from = f.from; path = f.path; bound = λ u p few. by f u p few (last_rule p) }
  where
    by : (f : Found g k v (rules g)) (u : ℕ) (p : Path g u v) → steps p ≤ suc k → LastRule g u v p → steps p ≤ steps f.path
    by f u p few (no_last same none zero-sum) = omega arith
    by f u p few (last i h to q one_more its-sum) = omega (arith, f.bound i h to u q (omega arith))

module _ (g : Graph) (ends : (i : ℕ) → i < rules g → EndsKept g i) (acyclic : HasCycle g → ⊥) where
  pub short_path : {u v : ℕ} (p : Path g u v) → v < g.events → steps p < g.events
  short_path p l = by (dec_lt (steps p) g.events)
    where
      by : Dec (steps p < g.events) → steps p < g.events
      by (yes k) = k
      by (no long) = absurd (acyclic (long_path_cycle g ends p l (omega arith)))

  pub rank_of : (rank : ℕ → ℕ) × ((i : ℕ) → i < rules g → rank (source g i) < rank (target g i)) × ((v : ℕ) → v < g.events → rank v < g.events)
  rank_of = (λ v. steps (height g g.events v).path, higher, known)
    where
      higher : (i : ℕ) → i < rules g → steps (height g g.events (source g i)).path < steps (height g g.events (target g i)).path
      higher i l =
          let h : Height g g.events (source g i) = height g g.events (source g i) in
          let p : Path g h.from (target g i) = along h.path i l refl refl in
          let few : steps p < g.events = short_path p (ends i l).target_known in
          omega (arith, steps_along h.path i l refl refl, (height g g.events (target g i)).bound h.from p (omega arith))

      known : (v : ℕ) → v < g.events → steps (height g g.events v).path < g.events
      known v l = short_path (height g g.events v).path l
