-- Two graphs with the same events and rules and delays that differ by at most e: demand 3, first sentence.
--     near_exchanged    delays that are near one way are near the other way
--     maxima_near       their greatest separations differ by at most e × (depth of source + depth of target)
-- The idea. Take an execution of one graph. Let each rule take, in the other graph, the delay nearest to the one it took: it differs by at most e. Times follow from
-- these delays (`times_follow`), and they differ from the old ones at an event v by at most e for each rule on a longest path from the root to v
-- (`not_later`, along an order where sources come first). So the separation moves by at most e × depth at either end. `clamp` is that nearest delay.
-- Paths are counted in one graph c that has the same rules as both, so that one law serves both directions. Assumes nothing.
use mathlib.Core.Path.{◌≡◌, refl, ap, sym, subst, ◌∙◌}
use mathlib.Core.Bool.{Bool, true, false, cond}
use Prim.Native.Nat.{ℕ, zero, suc, ◌+◌, ◌*◌, ◌<◌, ◌≤◌}
use native.Mathlib.Decide.{ℕ_discrete}
use native.Mathlib.Nat.{not-suc-le-zero, le_refl}
use native.Mathlib.Omega.{arith}
use lib.IntN.{ℤ, pos, ◌+ℤ◌, ◌-ℤ◌}
use lib.Signed.{◌≤ℤ◌, le_z}
use Rattle.integers.proofs.Integer.{linear, sum, difference, min_ℤ, max_ℤ}
use Rattle.graphs.specs.Graph.{Graph, rules, source, target, least, most}
use Rattle.graphs.specs.Path.{Path, Depth, steps}
use Rattle.graphs.specs.Limits.{SoundGraph}
use Rattle.graphs.proofs.Paths.{along, steps_along}
use Rattle.graphs.proofs.Rank.{rank_of}
use Rattle.executions.specs.Execution.{Execution}
use Rattle.executions.specs.Separation.{Separation, SameRules, Near, DelaysNear}
use Rattle.executions.proofs.Rules.{target_is_other}
use Rattle.executions.proofs.Times.{Follows, times_follow}
use Rattle.executions.proofs.Same.{same_refl, rules_same, follows, follows_same}

-- ---- the nearest delay of another interval

clamp : ℤ → ℤ → ℤ → ℤ
clamp d D x = max_ℤ d (min_ℤ D x)

record Clamped (e : ℕ) (d D x y : ℤ) : Type 0 where
  from_least : d ≤ℤ y
  to_most : y ≤ℤ D
  not_later : x ≤ℤ (y +ℤ pos e)
  not_earlier : y ≤ℤ (x +ℤ pos e)

clamped : (e : ℕ) (d D x : ℤ) → d ≤ℤ D → x ≤ℤ (D +ℤ pos e) → d ≤ℤ (x +ℤ pos e) → Clamped e d D x (clamp d D x)
unfolding clamp
clamped e d D x ordered high low = outer (le_z D x) refl (le_z d (min_ℤ D x)) refl
  where
    inner : (y : ℤ) → d ≤ℤ D → y ≤ℤ D → y ≤ℤ x → x ≤ℤ (y +ℤ pos e) → (p : Bool) → le_z d y ≡ p → Clamped e d D x (cond p y d)
    inner y o h l n true k =
        record { from_least = omega linear; to_most = h; not_later = n; not_earlier = omega (linear, sum x (pos e)) }
    inner y o h l n false k =
        record {
          from_least = omega linear;
          to_most = o;
          not_later = omega (linear, sum y (pos e), sum d (pos e));
          not_earlier = low;
        }

    outer : (p : Bool) → le_z D x ≡ p → (q : Bool) → le_z d (cond p D x) ≡ q → Clamped e d D x (cond q (cond p D x) d)
    outer true k q m = inner D ordered (omega linear) (omega linear) high q m
    outer false k q m = inner x ordered (omega linear) (omega linear) (omega (linear, sum x (pos e))) q m

-- ---- times that follow from nearby delays

module _ {c : Graph} (ec : SoundGraph c) (e : ℕ) {delay time delay' time' : ℕ → ℤ} (f : Follows c delay time) (f' : Follows c delay' time') (near : (i : ℕ) → i < rules c → delay i ≤ℤ (delay' i +ℤ pos e)) (rank : ℕ → ℕ) (first : (i : ℕ) → i < rules c → rank (source c i) < rank (target c i)) where
  -- what is claimed of one event, for every bound k on the rules of a path to it
  NotLater : ℕ → Type 0
  NotLater v = (k : ℕ) → ((p : Path c 0 v) → steps p ≤ k) → time v ≤ℤ (time' v +ℤ pos (e * k))

  by_rule : (i : ℕ) → i < rules c → time (source c i) +ℤ delay i ≡ time (target c i) → NotLater (source c i) → NotLater (target c i)
  unfolding NotLater
  by_rule i l at before zero bound =
      let p : Path c 0 (source c i) = ec.reachable (source c i) (ec.ends i l).source_known in
      absurd (let no : ⊥ = omega (arith, bound (along p i l refl refl), steps_along p i l refl refl) in no)
  by_rule i l at before (suc k) bound =
      let earlier : time (source c i) ≤ℤ (time' (source c i) +ℤ pos (e * k)) =
      before k (λ p. let one : suc (steps p) ≤ suc k = omega (arith, bound (along p i l refl refl), steps_along p i l refl refl) in omega arith)
      in
      let after : (time' (source c i) +ℤ delay' i) ≤ℤ time' (target c i) =
      (f'.others (target c i) (ec.ends i l).target_known (target_is_other ec i l)).bound i l refl
      in
      omega (
        linear,
        earlier,
        after,
        near i l,
        at,
        sum (time (source c i)) (delay i),
        sum (time' (source c i)) (delay' i),
        sum (delay' i) (pos e),
        sum (time' (source c i)) (pos (e * k)),
        sum (time' (target c i)) (pos (e * suc k)),
      )

  at_root : (v : ℕ) → v ≡ 0 → NotLater v
  unfolding NotLater
  at_root v z k bound =
      omega (linear, ap time z, ap time' z, f.root, f'.root, sum (time' v) (pos (e * k)))

  not_later_at : (v : ℕ) → v < c.events → ((i : ℕ) → i < rules c → target c i ≡ v → NotLater (source c i)) → Dec (v ≡ 0) → NotLater v
  not_later_at v h before (yes z) = at_root v z
  not_later_at v h before (no n) =
      let r = (f.others v h n).reached in
      subst NotLater r.2 (by_rule r.0 r.1 (r.3 ∙ ap time (sym r.2)) (before r.0 r.1 r.2))

  not_later_within : (j v : ℕ) → rank v < j → v < c.events → NotLater v
  not_later_within zero v r h = absurd (not-suc-le-zero r)
  not_later_within (suc j) v r h =
      not_later_at v h (λ i l z. not_later_within j (source c i) (omega (arith, first i l, ap rank z)) (ec.ends i l).source_known) (ℕ_discrete v 0)

  not_later : (v : ℕ) → v < c.events → (k : ℕ) → ((p : Path c 0 v) → steps p ≤ k) → time v ≤ℤ (time' v +ℤ pos (e * k))
  unfolding NotLater
  not_later v h = not_later_within (suc (rank v)) v (le_refl (suc (rank v))) h

-- ---- an execution of g, moved to h

module _ {c g h : Graph} (ec : SoundGraph c) (eh : SoundGraph h) (cg : SameRules c g) (ch : SameRules c h) (e : ℕ) (near : DelaysNear e g h) where
  -- rule i of h takes the delay nearest to the one that it took in g
  moved : (ℕ → ℤ) → ℕ → ℤ
  moved delay i = clamp (least h i) (most h i) (delay i)

  moved_clamped : {delay time : ℕ → ℤ} → Execution g delay time → (i : ℕ) → i < rules h → Clamped e (least h i) (most h i) (delay i) (moved delay i)
  unfolding moved
  moved_clamped {delay} x i l =
      let k : i < rules g = omega (arith, rules_same cg, rules_same ch) in
      clamped e (least h i) (most h i) (delay i) (eh.ordered i l)
      (omega (linear, x.to_most i k, (near.mosts_near i k).not_above))
      (omega (linear, x.from_least i k, (near.leasts_near i k).not_below, sum (least g i) (pos e), sum (delay i) (pos e)))

  -- the separation in g is at most e × the two depths above what h reaches
  pub moved_near : {s t a d : ℕ} {y : ℤ} {delay time : ℕ → ℤ} → s < c.events → t < c.events → Depth c s a → Depth c t d → Execution g delay time → ((delay' time' : ℕ → ℤ) → Execution h delay' time' → (time' t -ℤ time' s) ≤ℤ y) → (time t -ℤ time s) ≤ℤ (y +ℤ pos (e * (a + d)))
  moved_near {s} {t} {a} {d} {y} {delay} {time} hs ht da dd x bound =
      let z = times_follow eh (moved delay) in
      let time' : ℕ → ℤ = z.0 in
      let r = rank_of c ec.ends ec.acyclic in
      let x' : Execution h (moved delay) time' =
      record {
        from_least = λ i l. (moved_clamped x i l).from_least;
        to_most = λ i l. (moved_clamped x i l).to_most;
        root = z.1.root;
        others = z.1.others;
      }
      in
      let late : time t ≤ℤ (time' t +ℤ pos (e * d)) =
      not_later ec e (follows_same cg (follows x)) (follows_same ch z.1)
      (λ i l. (moved_clamped x i (omega (arith, rules_same ch))).not_later) r.0 r.1 t ht d dd.bound
      in
      let early : time' s ≤ℤ (time s +ℤ pos (e * a)) =
      not_later ec e (follows_same ch z.1) (follows_same cg (follows x))
      (λ i l. (moved_clamped x i (omega (arith, rules_same ch))).not_earlier) r.0 r.1 s hs a da.bound
      in
      omega (
        linear,
        late,
        early,
        bound (moved delay) time' x',
        sum (time' t) (pos (e * d)),
        sum (time s) (pos (e * a)),
        difference (time t) (time s),
        difference (time' t) (time' s),
        sum y (pos (e * (a + d))),
      )

-- ---- demand 3, first sentence

pub near_exchanged : {e : ℕ} {g h : Graph} → SameRules g h → DelaysNear e g h → DelaysNear e h g
near_exchanged {e} {g} {h} same n =
    record {
      leasts_near = λ i l. turned (n.leasts_near i (omega (arith, rules_same same)));
      mosts_near = λ i l. turned (n.mosts_near i (omega (arith, rules_same same)));
    }
  where
    turned : {x y : ℤ} → Near e x y → Near e y x
    turned k = record { not_above = k.not_below; not_below = k.not_above }

-- "Two accepted graphs with the same events and rules, no least and no most delay differing by more than e: for one source and target their exact maxima
-- differ by at most e × (depth of source + depth of target)." The depths are those of either graph, since paths are the same
pub maxima_near : {g h : Graph} → SoundGraph g → SoundGraph h → SameRules g h → (e : ℕ) → DelaysNear e g h → {s t a d : ℕ} {x y : ℤ} → s < g.events → t < g.events → Depth g s a → Depth g t d → Separation g s t x → Separation h s t y → Near (e * (a + d)) x y
maxima_near {g = g} {h = h} sound eh same e near {s} {t} {a} {d} {x} {y} hs ht da dd sx sy =
    let rx = sx.reached in
    let ry = sy.reached in
    let m = e * (a + d) in
    record {
      not_above =
          omega (linear, rx.3, moved_near sound eh (same_refl g) same e near hs ht da dd rx.2 sy.bound);
      not_below =
          omega (linear, ry.3, moved_near sound sound same (same_refl g) e (near_exchanged same near) hs ht da dd ry.2 sx.bound);
    }
