-- U(v) is the greatest separation of v from s, and the times U(v) − U(root) are those of an execution.
--
-- The idea. Let u satisfy 01's steps (`U g s u`).
-- No execution exceeds u: along an order in which sources come first, which a graph without a cycle has (`rank_of`), t(v) − t(s) ≤ u v. A path from v to s
-- puts t(s) at least the sum of its least delays after t(v), so t(v) − t(s) ≤ m(v); and t(v) is at most t(source) + D for the rule by which v happens, so
-- t(v) − t(s) ≤ u(source) + D, which is at most the greatest of these.
-- u is reached: the times u v − u 0 keep every least delay (`u_keeps_least`). For a rule from v to w, u v + d is at most u v + D, hence at
-- most the arrival at w; and it is at most m(w), since u v ≤ m(v) ≤ m(w) − d by the path that begins with this rule. Each event is at most at the greatest
-- arrival, so the times are an execution by bounds. And u s is 0: at most m(s) = 0, since no other path leads from s to s; at least 0, since a path
-- of least delays from the root to s reaches s at −u 0 after the root.
-- Assumes nothing.
use mathlib.Core.Path.{◌≡◌, refl, ap, sym, subst}
use mathlib.Core.Logic.{⊎_elim}
use Prim.Native.Nat.{ℕ, zero, suc, ◌<◌}
use native.Mathlib.Decide.{ℕ_discrete}
use native.Mathlib.Nat.{not-suc-le-zero, le_refl}
use native.Mathlib.Omega.{arith}
use lib.IntN.{ℤ, pos, neg_ℤ, ◌+ℤ◌, ◌-ℤ◌}
use lib.Signed.{◌≤ℤ◌}
use Rattle.integers.proofs.Integer.{linear, sum, difference, negation}
use Rattle.graphs.specs.Graph.{Graph, rules, source, target, least, most, Greatest}
use Rattle.graphs.specs.Path.{Path, least_sum}
use Rattle.graphs.specs.Path.Path.{stay, step}
use Rattle.graphs.specs.Limits.{SoundGraph}
use Rattle.graphs.proofs.Rank.{rank_of}
use Rattle.executions.specs.Execution.{Execution}
use Rattle.executions.specs.Steps.{M, Capped, UOf, U}
use Rattle.executions.specs.Steps.Capped.{with_m, without_m}
use Rattle.executions.proofs.Rules.{KeepsLeast, Reaches, keeps_least, target_is_other, path_bound}

-- t(v) − t(s) is at most m(v)
below_m : {g : Graph} {time : ℕ → ℤ} → KeepsLeast g time → {s v : ℕ} {x : ℤ} → M g s v x → (time v -ℤ time s) ≤ℤ x
below_m {g} {time} k {s} {v} {x} m =
    let p : Path g v s = m.reached.0 in
    omega (linear, path_bound k p, m.reached.1, sum (time v) (least_sum p), negation (least_sum p), difference (time v) (time s))

below_capped : {g : Graph} {time : ℕ → ℤ} → KeepsLeast g time → {s v : ℕ} {a y : ℤ} → Capped g s v a y → (time v -ℤ time s) ≤ℤ a → (time v -ℤ time s) ≤ℤ y
below_capped {g} {time} k {s} {v} {a} {y} (with_m x m l) h =
    let under : (time v -ℤ time s) ≤ℤ x = below_m k m in
    ⊎_elim (λ (e : y ≡ x). omega linear) (λ (e : y ≡ a). omega linear) l.one
below_capped k (without_m n e) h = omega linear

capped_right : {g : Graph} {s v : ℕ} {a y : ℤ} → Capped g s v a y → y ≤ℤ a
capped_right (with_m x m l) = l.right
capped_right (without_m none e) = omega linear

module _ {g : Graph} (sound : SoundGraph g) {s : ℕ} {u : ℕ → ℤ} (steps : U g s u) where
  module _ {delay time : ℕ → ℤ} (x : Execution g delay time) where
    -- t(v) is at most the greatest arrival after t(s), if that holds at the source of the rule by which v happens
    below_arrival : (v : ℕ) (o : UOf g s u v) → ((i : ℕ) → i < rules g → target g i ≡ v → (time (source g i) -ℤ time s) ≤ℤ u (source g i)) → Greatest g v (λ i. time (source g i) +ℤ delay i) (time v) → (time v -ℤ time s) ≤ℤ o.arrival
    below_arrival v o before h =
        let i : ℕ = h.reached.0 in
        let l : i < rules g = h.reached.1 in
        omega (
          linear,
          h.reached.3,
          before i l h.reached.2,
          o.arrival_greatest.bound i l h.reached.2,
          x.to_most i l,
          sum (time (source g i)) (delay i),
          sum (u (source g i)) (most g i),
          difference (time v) (time s),
          difference (time (source g i)) (time s),
        )

    below_at : (v : ℕ) → v < g.events → ((i : ℕ) → i < rules g → target g i ≡ v → (time (source g i) -ℤ time s) ≤ℤ u (source g i)) → Dec (v ≡ 0) → (time v -ℤ time s) ≤ℤ u v
    below_at v h before (yes e) = subst (λ (w : ℕ). (time w -ℤ time s) ≤ℤ u w) (sym e) (below_m (keeps_least sound x) steps.root)
    below_at v h before (no n) =
        below_capped (keeps_least sound x) (steps.others v h n).capped (below_arrival v (steps.others v h n) before (x.others v h n))

    module _ (rank : ℕ → ℕ) (first : (i : ℕ) → i < rules g → rank (source g i) < rank (target g i)) where
      below_within : (k v : ℕ) → rank v < k → v < g.events → (time v -ℤ time s) ≤ℤ u v
      below_within zero v r h = absurd (not-suc-le-zero r)
      below_within (suc k) v r h =
          below_at v h (λ i l e. below_within k (source g i) (omega (arith, first i l, ap rank e)) (sound.ends i l).source_known) (ℕ_discrete v 0)

    -- no choice of delays exceeds u
    pub below_u : (v : ℕ) → v < g.events → (time v -ℤ time s) ≤ℤ u v
    below_u v h =
        let r = rank_of g sound.ends sound.acyclic in
        below_within r.0 r.1 (suc (r.0 v)) v (le_refl (suc (r.0 v))) h

  -- ---- u is reached

  -- the part of m(v) that a path from v to s shows: u v is at most minus its least delays
  u_below_path : {v : ℕ} → v < g.events → (p : Path g v s) → u v ≤ℤ neg_ℤ (least_sum p)
  u_below_path {v} h p = go (ℕ_discrete v 0)
    where
      capped : {a y : ℤ} → Capped g s v a y → y ≤ℤ neg_ℤ (least_sum p)
      capped (with_m x m l) = omega (linear, l.left, m.bound p)
      capped (without_m none e) = absurd (none p)

      go : Dec (v ≡ 0) → u v ≤ℤ neg_ℤ (least_sum p)
      go (yes e) = at_root v e p
        where
          at_root : (w : ℕ) → w ≡ 0 → (q : Path g w s) → u w ≤ℤ neg_ℤ (least_sum q)
          at_root w e = subst (λ (w : ℕ). (q : Path g w s) → u w ≤ℤ neg_ℤ (least_sum q)) (sym e) steps.root.bound
      go (no n) = capped (steps.others v h n).capped

  pub u_keeps_least : KeepsLeast g u
  u_keeps_least = record { keeps = at }
    where
      at : (i : ℕ) → i < rules g → (u (source g i) +ℤ least g i) ≤ℤ u (target g i)
      at i h = go o.capped
        where
          o : UOf g s u (target g i)
          o = steps.others (target g i) (sound.ends i h).target_known (target_is_other sound i h)

          arrives : (u (source g i) +ℤ least g i) ≤ℤ o.arrival
          arrives =
              omega (
                linear,
                o.arrival_greatest.bound i h refl,
                sound.ordered i h,
                sum (u (source g i)) (least g i),
                sum (u (source g i)) (most g i),
              )

          go : {y : ℤ} → Capped g s (target g i) o.arrival y → (u (source g i) +ℤ least g i) ≤ℤ y
          go {y} (with_m x m l) =
              let p : Path g (target g i) s = m.reached.0 in
              let first_part : u (source g i) ≤ℤ neg_ℤ (least g i +ℤ least_sum p) = u_below_path (sound.ends i h).source_known (step i h refl refl p) in
              let under : (u (source g i) +ℤ least g i) ≤ℤ x =
              omega (
                linear,
                first_part,
                m.reached.1,
                negation (least_sum p),
                negation (least g i +ℤ least_sum p),
                sum (least g i) (least_sum p),
                sum (u (source g i)) (least g i),
              )
              in
              ⊎_elim (λ (e : y ≡ x). omega linear) (λ (e : y ≡ o.arrival). omega (linear, arrives)) l.one
          go (without_m none e) = omega (linear, arrives)

  -- each event is at most at some source's u and the rule's most delay
  pub u_reaches : (v : ℕ) → v < g.events → (v ≡ 0 → ⊥) → Reaches g u v
  u_reaches v h n =
      let o : UOf g s u v = steps.others v h n in
      let r = o.arrival_greatest.reached in
      record { rule = r.0; is_rule = r.1; into = r.2; late = omega (linear, r.3, capped_right o.capped, sum (u (source g r.0)) (most g r.0)) }

  pub u_at_s : s < g.events → u s ≡ pos 0
  u_at_s h =
      let p : Path g 0 s = steps.root.reached.0 in
      omega (
        linear,
        u_below_path h stay,
        path_bound u_keeps_least p,
        steps.root.reached.1,
        negation (least_sum p),
        sum (u 0) (least_sum p),
      )
