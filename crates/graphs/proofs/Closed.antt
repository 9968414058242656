-- Going on along rules among events that never come to an end.
--     forward_closed_cycle   if some events are left, and each of them is the source of a rule whose target is left too, the graph has a cycle
-- From a left event one goes on along a rule to a left event, and so on: after n rules the path is long enough to meet an event twice. Left events exist, so no
-- more is asked of the other rules. Assumes nothing.
use mathlib.Core.Path.{◌≡◌, refl}
use Prim.Native.Nat.{ℕ, zero, suc, ◌<◌}
use native.Mathlib.Omega.{arith}
use Rattle.graphs.specs.Graph.{Graph, rules, source, target}
use Rattle.graphs.specs.Path.{Path, stay, step, steps, HasCycle}
use Rattle.graphs.proofs.Cycle.{event_at, path_cycle}

module _ (g : Graph) (Left : ℕ → Type 0) where
  -- a path of k rules from v, all of whose events exist
  record Onward (v k : ℕ) : Type 0 where
    to : ℕ
    path : Path g v to
    length : steps path ≡ k
    known : (j : ℕ) → event_at path j < g.events

  module _ (known : (v : ℕ) → Left v → v < g.events) (after : (v : ℕ) → Left v → (i : ℕ) × (i < rules g) × (source g i ≡ v) × Left (target g i)) where
    onward : (v : ℕ) → Left v → (k : ℕ) → Onward v k
    onward v l zero = record { to = v; path = stay; length = refl; known = elim [ zero ↦ known v l | suc j ↦ known v l ] }
    onward v l (suc k) =
        let (i, is_rule, out, left) = after v l in
        let o : Onward (target g i) k = onward (target g i) left k in
        record {
          to = o.to;
          path = step i is_rule out refl o.path;
          length = omega (arith, o.length);
          known = elim [ zero ↦ known v l | suc j ↦ o.known j ];
        }

    pub forward_closed_cycle : (v : ℕ) → Left v → HasCycle g
    forward_closed_cycle v l =
        let o : Onward v g.events = onward v l g.events in
        path_cycle o.path o.known (omega (arith, o.length))
