-- Delays that differ by at most e move a greatest separation over hard times by at most e × (n − 1).
--     arc_near         an arc of one graph is an arc of the other, whose weight is at most e more
--     tight_near       so along k arcs that one graph's latest gaps meet exactly, hard times of the other are at most e × k later
--     hard_near        the maxima, where both graphs have hard times
--     hard_least_near  and the least ones
-- Along the arcs that lead from s to t (`tight_within`) the maximum of one graph is a sum of at most n − 1 weights, and hard times of the other pass each by
-- at most e. Assumes nothing.
use mathlib.Core.Path.{◌≡◌, ap, subst}
use Prim.Native.Nat.{ℕ, suc, ◌*◌, ◌<◌, ◌≤◌}
use native.Mathlib.Nat.{mul-le-mul_left, mul-suc}
use native.Mathlib.Omega.{arith}
use lib.IntN.{ℤ, pos, neg_ℤ, ◌+ℤ◌, ◌-ℤ◌}
use lib.Signed.{◌≤ℤ◌}
use Rattle.integers.proofs.Integer.{linear, sum, difference, negation}
use Rattle.graphs.specs.Graph.{Graph, rules, source, target, least, most}
use Rattle.graphs.specs.Limits.{EventGraph}
use Rattle.graphs.proofs.Limits.{sound_of}
use Rattle.executions.specs.Separation.{SameRules, Near, DelaysNear}
use Rattle.executions.proofs.Same.{rules_same, source_same, target_same, same_exchanged}
use Rattle.executions.proofs.Nearness.{near_exchanged}
use Rattle.hardtimes.specs.HardTimes.{HardTimes, HardSeparation, LeastHardSeparation, hard_limit}
use Rattle.hardtimes.specs.Parts.Gaps.{Arc, forth, back}
use Rattle.hardtimes.proofs.Gaps.{gap_separation}
use Rattle.hardtimes.proofs.Lowering.{gaps_exist}
use Rattle.hardtimes.proofs.Tight.{Tight, here, on, tight_within}
use Rattle.hardtimes.proofs.Unique.{exchanged_hard}

module _ {g h : Graph} (same : SameRules g h) (e : ℕ) (near : DelaysNear e g h) {time : ℕ → ℤ} (hard : HardTimes h time) where
  arc_near : {a b : ℕ} {w : ℤ} → Arc g a b w → time b ≤ℤ (time a +ℤ (w +ℤ pos e))
  arc_near (forth i l) =
      let k : i < rules h = omega (arith, rules_same same) in
      omega (
        linear,
        hard.to_most i k,
        (near.mosts_near i l).not_below,
        ap time (source_same same i),
        ap time (target_same same i),
        difference (time (target h i)) (time (source h i)),
        sum (time (source g i)) (most g i +ℤ pos e),
      )
  arc_near (back i l) =
      let k : i < rules h = omega (arith, rules_same same) in
      omega (
        linear,
        hard.from_least i k,
        (near.leasts_near i l).not_above,
        ap time (source_same same i),
        ap time (target_same same i),
        negation (least g i),
        difference (time (target h i)) (time (source h i)),
        sum (least h i) (pos e),
        sum (neg_ℤ (least g i)) (pos e),
        sum (time (target g i)) (neg_ℤ (least g i) +ℤ pos e),
      )

  tight_near : {s : ℕ} {x : ℕ → ℤ} → x s ≡ pos 0 → {k v : ℕ} → Tight g s x k v → (time v -ℤ time s) ≤ℤ (x v +ℤ pos (e * k))
  tight_near {s} {x} zero here = omega (linear, zero, difference (time s) (time s), sum (x s) (pos (e * 0)))
  tight_near {s} {x} zero (on {k} {a} {b} {w} way arc exact) =
      let before : (time a -ℤ time s) ≤ℤ (x a +ℤ pos (e * k)) = tight_near zero way in
      omega (
        linear,
        before,
        arc_near arc,
        exact,
        mul-suc e k,
        sum (x a) (pos (e * k)),
        sum (x a) w,
        sum (x b) (pos (e * suc k)),
        sum w (pos e),
        sum (time a) (w +ℤ pos e),
        difference (time a) (time s),
        difference (time b) (time s),
      )

module _ {b : ℕ} {g h : Graph} (eg : EventGraph b g) (same : SameRules g h) (e : ℕ) (near : DelaysNear e g h) {s t : ℕ} (hs : s < g.events) (ht : t < g.events) where
  -- hard times of h have no gap far above the greatest of g
  not_far : {x : ℤ} → HardSeparation g s t x → {time : ℕ → ℤ} → HardTimes h time → (time t -ℤ time s) ≤ℤ (x +ℤ pos (hard_limit e g.events))
  not_far {x} a {time} hard =
      let (own, its-hard, reached) = a.reached in
      let (gap, gaps) = gaps_exist eg hs its-hard in
      let (k, few, way) = tight_within (sound_of eg) hs gaps t ht in
      let (latest, latest-hard, at) = (gap_separation (sound_of eg) gaps t ht).reached in
      let limit : e * k ≤ hard_limit e g.events = mul-le-mul_left e (omega arith) in
      omega (
        linear,
        limit,
        tight_near same e near hard gaps.at_s way,
        a.bound latest latest-hard,
        at,
        sum (gap t) (pos (e * k)),
        sum x (pos (hard_limit e g.events)),
      )

-- "where both graphs have a schedule, the maxima differ by at most e × (n − 1)"
pub hard_near :
    {b : ℕ} {g h : Graph} → EventGraph b g → EventGraph b h → SameRules g h → (e : ℕ) → DelaysNear e g h
    → {s t : ℕ} {x y : ℤ} → s < g.events → t < g.events → HardSeparation g s t x → HardSeparation h s t y → Near (hard_limit e g.events) x y
hard_near {b} {g} {h} eg eh same e near {s} {t} {x} {y} hs ht a c =
    let (time, hard, reached) = a.reached in
    let (time', hard', reached') = c.reached in
    let back : (time t -ℤ time s) ≤ℤ (y +ℤ pos (hard_limit e h.events)) =
    not_far eh (same_exchanged same) e (near_exchanged same near) (omega (arith, same.events_same)) (omega (arith, same.events_same)) c hard
    in
    record {
      not_above =
          omega (
            linear,
            reached,
            subst (λ (n : ℕ). (time t -ℤ time s) ≤ℤ (y +ℤ pos (hard_limit e n))) same.events_same back,
          );
      not_below = omega (linear, reached', not_far eg same e near hs ht a hard');
    }

pub hard_least_near :
    {b : ℕ} {g h : Graph} → EventGraph b g → EventGraph b h → SameRules g h → (e : ℕ) → DelaysNear e g h
    → {s t : ℕ} {x y : ℤ} → s < g.events → t < g.events → LeastHardSeparation g s t x → LeastHardSeparation h s t y → Near (hard_limit e g.events) x y
hard_least_near {g = g} eg eh same e near {x = x} {y = y} hs ht a c =
    let n : Near (hard_limit e g.events) (neg_ℤ x) (neg_ℤ y) = hard_near eg eh same e near ht hs (exchanged_hard a) (exchanged_hard c) in
    record {
      not_above = omega (linear, n.not_below, negation x, negation y, sum (neg_ℤ x) (pos (hard_limit e g.events)), sum y (pos (hard_limit e g.events)));
      not_below = omega (linear, n.not_above, negation x, negation y, sum (neg_ℤ y) (pos (hard_limit e g.events)), sum x (pos (hard_limit e g.events)));
    }
