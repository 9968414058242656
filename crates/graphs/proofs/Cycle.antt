-- A path with as many rules as the graph has events meets an event twice, so the graph has a cycle.
--     event_at p k             the event after k rules of p; beyond p's end, p's last event
--     leaves_below            a path on which a rule stands starts below b, where every source is
--     on_cycle_known          an event that lies on a cycle exists, where every rule's events do
--     part_of                 the part of a path between two of its places
--     closed_cycle            a path between equal events on which a rule stands is a cycle
--     path_cycle              a long path among the graph's events gives a cycle
--     long_path_cycle         the same where every rule's events exist
--     backward_closed_cycle   if some events are left, and each of them is the target of a rule whose source is left too, the graph has a cycle
-- Assumes nothing.
use mathlib.Core.Path.{◌≡◌, refl, sym, subst}
use Prim.Native.Nat.{ℕ, zero, suc, ◌+◌, ◌≤◌, ◌<◌, zero-le}
use native.Mathlib.Omega.{arith}
use Rattle.graphs.specs.Graph.{Graph, rules, source, target}
use Rattle.graphs.specs.Path.{Path, stay, step, steps, OnCycle, HasCycle}
use Rattle.graphs.specs.Limits.{EndsKept}
use Rattle.sequences.proofs.Pigeonhole.{Twice, pigeonhole}

abbrev pub event_at : {g : Graph} {u v : ℕ} → Path g u v → ℕ → ℕ
event_at {u = u} p zero = u
event_at {u = u} stay (suc k) = u
event_at (step i h e f p) (suc k) = event_at p k

-- the first rule of the path leads from it
pub leaves_below : {g : Graph} {b : ℕ} → ((i : ℕ) → i < rules g → source g i < b) → {u v : ℕ} (p : Path g u v) → 0 < steps p → u < b
leaves_below below stay l = absurd (let none : ⊥ = omega arith in none)
leaves_below {b = b} below (step i h e f p) l = subst (λ (x : ℕ). x < b) e (below i h)

pub on_cycle_known : {g : Graph} {v : ℕ} → ((i : ℕ) → i < rules g → EndsKept g i) → OnCycle g v → v < g.events
on_cycle_known kept c = leaves_below (λ i l. (kept i l).source_known) c.0 c.1

-- the rules of p from place i to place j
pub part_of : {g : Graph} {u v : ℕ} (p : Path g u v) (i j : ℕ) → i ≤ j → j ≤ steps p → (q : Path g (event_at p i) (event_at p j)) × (i + steps q ≡ j)
part_of p zero zero l k = (stay, omega arith)
part_of stay zero (suc j) l k = absurd (let none : ⊥ = omega arith in none)
part_of (step r h e f p) zero (suc j) l k =
    let (q, its-steps) = part_of p 0 j zero-le (omega arith) in
    (step r h e f q, omega (arith, its-steps))
part_of p (suc i) zero l k = absurd (let none : ⊥ = omega arith in none)
part_of stay (suc i) (suc j) l k = absurd (let none : ⊥ = omega arith in none)
part_of (step r h e f p) (suc i) (suc j) l k =
    let (q, its-steps) = part_of p i j (omega arith) (omega arith) in
    (q, omega (arith, its-steps))

-- a path from an event to the same event; the two stand as two, so that the path can be taken apart
pub closed_cycle : {g : Graph} {u v : ℕ} (p : Path g u v) → u ≡ v → 0 < steps p → HasCycle g
closed_cycle {g} {u} {v} p e l =
    let round : (q : Path g u u) × (0 < steps q) = subst (λ (x : ℕ). (q : Path g u x) × (0 < steps q)) (sym e) (p, l) in
    (u, round)

-- Of the places 0 to n of the path, with n events to stand there, two have the same event: the part between them is the cycle
pub path_cycle : {g : Graph} {u v : ℕ} (p : Path g u v) → ((k : ℕ) → event_at p k < g.events) → g.events ≤ steps p → HasCycle g
path_cycle {g} p below long =
    let two : Twice (event_at p) g.events = pigeonhole g.events (event_at p) (λ k l. below k) in
    let (part, its-steps) = part_of p two.former two.latter (omega arith) (omega arith) in
    closed_cycle part two.same (omega (arith, its-steps))

-- every event on the way exists: a rule's source does, and the last event does
event_at_known :
    {g : Graph} → ((i : ℕ) → i < rules g → EndsKept g i)
    → {u v : ℕ} (p : Path g u v) → v < g.events → (k : ℕ) → event_at p k < g.events
event_at_known kept stay l zero = l
event_at_known {g} kept (step i h e f p) l zero = subst (λ (x : ℕ). x < g.events) e (kept i h).source_known
event_at_known kept stay l (suc k) = l
event_at_known kept (step i h e f p) l (suc k) = event_at_known kept p l k

pub long_path_cycle :
    (g : Graph) → ((i : ℕ) → i < rules g → EndsKept g i)
    → {u v : ℕ} (p : Path g u v) → v < g.events → g.events ≤ steps p → HasCycle g
long_path_cycle g kept p l long = path_cycle p (event_at_known kept p l) long

-- ---- going back

-- From a left event one goes back along a rule to a left event, and so on: n rules back, the path is long enough to meet an event twice. Left events
-- exist, so no more is asked of the other rules.

module _ (g : Graph) (Left : ℕ → Type 0) where
  -- a path of k rules to v that starts in a left event, and all of whose events exist
  record Back (v k : ℕ) : Type 0 where
    from : ℕ
    left : Left from
    path : Path g from v
    length : steps path ≡ k
    known : (j : ℕ) → event_at path j < g.events

  module _ (known : (v : ℕ) → Left v → v < g.events) (before : (v : ℕ) → Left v → (i : ℕ) × (i < rules g) × (target g i ≡ v) × Left (source g i)) where
    back : (v : ℕ) → Left v → (k : ℕ) → Back v k
    back v l zero = record { from = v; left = l; path = stay; length = refl; known = elim [ zero ↦ known v l | suc j ↦ known v l ] }
    back v l (suc k) =
        let b : Back v k = back v l k in
        let (i, is_rule, to, left) = before b.from b.left in
        record {
          from = source g i;
          left = left;
          path = step i is_rule refl to b.path;
          length = omega (arith, b.length);
          known = elim [ zero ↦ known (source g i) left | suc j ↦ b.known j ];
        }

    pub backward_closed_cycle : (v : ℕ) → Left v → HasCycle g
    backward_closed_cycle v l =
        let b : Back v g.events = back v l g.events in
        path_cycle b.path b.known (omega (arith, b.length))
