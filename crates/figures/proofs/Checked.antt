-- What a certificate's tests say of paths and executions, where they pass. Proved once, for any graph.
--     by_measure               what holds of a number if it holds of those with a lower measure holds of every number
--     longest_path             a path from the root with as many rules as the certificate's depth
--     checked_graph            the graph is an event graph
--     checked_depth            the certificate's depths are the depths
--     m_bound, m_path          no path to s goes below the certificate's m, and one reaches it: so `checked_m`
--     checked_u                the certificate's u is U
--
-- The idea. Depths grow along every rule, so there is no cycle, and no path to v has more rules than the depth of v, the root's being 0.
-- Each other event has a rule into it from an event whose depth is one less: going back along such rules ends at the root, by a path with as many rules
-- as the depth. For m: going along a path to s, m(v) + (the sum of d) stays at most m(s) = 0, so no path goes below m, and an event without m has no path.
-- Each event with an m has a rule out of it that gives it: going on along such rules ends at s, since depths grow and stay below the number of events,
-- by a path that reaches m. For U the tests say all that is asked. Assumes nothing.
use mathlib.Core.Path.{◌≡◌, refl, sym, ap, subst}
use Prim.Native.Nat.{ℕ, zero, suc, ◌-◌, ◌<◌}
use native.Mathlib.Decide.{ℕ_discrete}
use native.Mathlib.Omega.{arith}
use lib.IntN.{ℤ, pos, neg_ℤ, ◌+ℤ◌, ◌-ℤ◌}
use Rattle.integers.proofs.Integer.{linear, sum, difference, negation}
use Rattle.graphs.specs.Graph.{Graph, source, target, least}
use Rattle.graphs.specs.Path.{Path, steps, least_sum, Depth}
use Rattle.graphs.specs.Path.Path.{stay, step}
use Rattle.graphs.specs.Limits.{Sized, EventGraph}
use Rattle.graphs.proofs.Paths.{along, steps_along, end_at, path_rank, ranked_acyclic}
use Rattle.graphs.proofs.Rank.{short_path}
use Rattle.executions.specs.Steps.{M, Capped, U}
use Rattle.executions.specs.Steps.Capped.{with_m, without_m}
use Rattle.figures.proofs.Certificate.{Depths, MaybeM, AtMost, Ms, Cut, Us}
use Rattle.figures.proofs.Certificate.MaybeM.{absent, m_is}

-- ---- recursion by a measure

module _ (P : ℕ → Type 0) (measure : ℕ → ℕ) (from-lower : (v : ℕ) → ((w : ℕ) → measure w < measure v → P w) → P v) where
  within : (k v : ℕ) → measure v < k → P v
  within zero v l = absurd (let none : ⊥ = omega arith in none)
  within (suc k) v l = from-lower v (λ w less. within k w (omega arith))

  by_measure : (v : ℕ) → P v
  by_measure v = within (suc (measure v)) v (omega arith)

-- ---- depths

module _ {b : ℕ} {g : Graph} (sized : Sized b g) {depth : ℕ → ℕ} (depths : Depths g depth) where
  longest_path : (v : ℕ) → v < g.events → (p : Path g 0 v) × (steps p ≡ depth v)
  longest_path = by_measure (λ v. v < g.events → (p : Path g 0 v) × (steps p ≡ depth v)) depth (λ v before l. by v before l (ℕ_discrete v 0))
    where
      by : (v : ℕ) → ((w : ℕ) → depth w < depth v → w < g.events → (p : Path g 0 w) × (steps p ≡ depth w)) → v < g.events → Dec (v ≡ 0) → (p : Path g 0 v) × (steps p ≡ depth v)
      by v before l (yes root) =
          let (p, none, zero-sum) = end_at (sym root) stay in
          (p, omega (arith, depths.root, ap depth root))
      by v before l (no other) =
          let (i, h, to, one) = depths.by_one v l other in
          let (p, long) = before (source g i) (omega arith) (sized.ends i h).source_known in
          (along p i h refl to, omega (arith, steps_along p i h refl to))

  pub checked_graph : EventGraph b g
  checked_graph =
      record {
        sized = sized;
        acyclic = ranked_acyclic depth depths.grows;
        reachable = λ v l. (longest_path v l).0;
      }

  pub checked_depth : (v : ℕ) → v < g.events → Depth g v (depth v)
  checked_depth v l =
      record {
        reached = longest_path v l;
        bound = λ p. omega (arith, path_rank depth depths.grows p);
      }

  depth_below : (v : ℕ) → v < g.events → depth v < g.events
  depth_below v l =
      let (p, long) = longest_path v l in
      omega (arith, short_path g sized.ends checked_graph.acyclic p l)

  -- ---- m

  module _ {s : ℕ} {m : ℕ → MaybeM} (ms : Ms g s m) where
    m_along : {v w : ℕ} (p : Path g v w) (z : ℤ) → AtMost (m w) z → AtMost (m v) (z -ℤ least_sum p)
    m_along {v} stay z h = subst (AtMost (m v)) (let same : z ≡ z -ℤ pos 0 = omega (linear, difference z (pos 0)) in same) h
    m_along {v} (step i l e f p) z h =
        let there : AtMost (m (target g i)) (z -ℤ least_sum p) = rw f (m_along p z h) in
        let here : AtMost (m v) ((z -ℤ least_sum p) -ℤ least g i) = rw (← e) (ms.keeps i l (z -ℤ least_sum p) there) in
        let same : (z -ℤ least_sum p) -ℤ least g i ≡ z -ℤ (least g i +ℤ least_sum p) =
        omega (
          linear,
          difference (z -ℤ least_sum p) (least g i),
          difference z (least_sum p),
          difference z (least g i +ℤ least_sum p),
          sum (least g i) (least_sum p),
        )
        in
        subst (AtMost (m v)) same here

    m_bound : {v : ℕ} (p : Path g v s) → AtMost (m v) (neg_ℤ (least_sum p))
    m_bound {v} p =
        let zero-s : AtMost (m s) (pos 0) = subst (λ (x : MaybeM). AtMost x (pos 0)) (sym ms.at_s) (record { le = tt }) in
        let same : pos 0 -ℤ least_sum p ≡ neg_ℤ (least_sum p) = omega (linear, difference (pos 0) (least_sum p), negation (least_sum p)) in
        subst (AtMost (m v)) same (m_along p (pos 0) zero-s)

    m_path : (v : ℕ) → v < g.events → (x : ℤ) → m v ≡ m_is x → (p : Path g v s) × (neg_ℤ (least_sum p) ≡ x)
    m_path = by_measure (λ v. v < g.events → (x : ℤ) → m v ≡ m_is x → (p : Path g v s) × (neg_ℤ (least_sum p) ≡ x)) (λ v. g.events - depth v) (λ v before l x has. by v before l x has (ℕ_discrete v s))
      where
        by : (v : ℕ) → ((w : ℕ) → g.events - depth w < g.events - depth v → w < g.events → (y : ℤ) → m w ≡ m_is y → (p : Path g w s) × (neg_ℤ (least_sum p) ≡ y)) → v < g.events → (x : ℤ) → m v ≡ m_is x → Dec (v ≡ s) → (p : Path g v s) × (neg_ℤ (least_sum p) ≡ x)
        by v before l x has (yes same) =
            let zero-x : x ≡ pos 0 = cc (ap m same, ms.at_s) in
            let (p, none, zero-sum) = end_at same stay in
            (p, omega (linear, negation (least_sum p)))
        by v before l x has (no other) =
            let (i, h, from, next) = ms.begins v x l other has in
            let deeper : depth v < depth (target g i) = omega (arith, depths.grows i h, ap depth from) in
            let (p, its-sum) = before (target g i) (omega (arith, depth_below v l)) (sized.ends i h).target_known (x +ℤ least g i) next in (
              step i h from refl p,
              omega (linear, sum x (least g i), sum (least g i) (least_sum p), negation (least_sum p), negation (least g i +ℤ least_sum p)),
            )

    checked_m : (v : ℕ) → v < g.events → (x : ℤ) → m v ≡ m_is x → M g s v x
    checked_m v l x has =
        record {
          reached = m_path v l x has;
          bound = λ p. subst (λ (y : MaybeM). AtMost y (neg_ℤ (least_sum p))) has (m_bound p);
        }

    -- ---- U

    checked_capped : (v : ℕ) → v < g.events → (x : MaybeM) → m v ≡ x → (a y : ℤ) → Cut x a y → Capped g s v a y
    checked_capped v l absent has a y cut = without_m (λ p. subst (λ (x : MaybeM). AtMost x (neg_ℤ (least_sum p))) has (m_bound p)) cut
    checked_capped v l (m_is x) has a y cut = with_m x (checked_m v l x has) cut

    pub checked_u : {u : ℕ → ℤ} → Us g m u → U g s u
    checked_u {u} us =
        record {
          root = checked_m 0 sized.counts.some_event (u 0) us.root;
          others =
              λ v l other.
              let (a, greatest, cut) = us.others v l other in
              record { arrival = a; arrival_greatest = greatest; capped = checked_capped v l (m v) refl a (u v) cut };
        }
