-- Where there are hard times, there are the latest gaps against s: the greatest separations are all reached, by one schedule.
--     put x w a         x with a for its value at w
--     put_each          what is said of a at w and of x elsewhere is said of it
--     total n f         the sum of f over the numbers below n
--     total_less        it falls where one value falls and none rises
--     gaps_exist        the latest gaps, where one event graph's hard times are known
-- The idea. Start above all hard times: 01's sizes are such bounds, and 0 at s. While an arc is not met, lower the number at its end until it is: no hard
-- times are passed, since they meet the arc. Each time the sum of what is left above the hard times that are known falls, so at some point every arc is met.
-- Assumes nothing.
use mathlib.Core.Path.{◌≡◌, refl, subst}
use mathlib.Core.Logic.{◌⊎◌, inl, inr}
use Prim.Native.Nat.{ℕ, zero, suc, ◌+◌, ◌*◌, ◌<◌, ◌≤◌}
use native.Mathlib.Decide.{ℕ_discrete}
use native.Mathlib.Nat.{not-suc-le-zero, le_refl}
use native.Mathlib.Omega.{arith}
use lib.IntN.{ℤ, pos, negsuc, ◌+ℤ◌, ◌-ℤ◌}
use lib.Signed.{◌≤ℤ◌, ◌<ℤ◌}
use Rattle.integers.proofs.Integer.{P, N, linear, sum, difference}
use Rattle.graphs.specs.Graph.{Graph}
use Rattle.graphs.specs.Limits.{EventGraph}
use Rattle.graphs.proofs.Limits.{sound_of}
use Rattle.hardtimes.specs.HardTimes.{HardTimes}
use Rattle.hardtimes.specs.Parts.Gaps.{Arc, LatestGaps}
use Rattle.hardtimes.proofs.Arcs.{arcs_of, arc_known, search_arcs, ≤ℤ-dec}
use Rattle.hardtimes.proofs.Rules.{hard_within}
use Rattle.hardtimes.proofs.Gaps.{latest_gaps}

-- ---- one value changed

pick : {A : Type 0} → Dec A → ℤ → ℤ → ℤ
pick (yes e) a b = a
pick (no n) a b = b

pub put : (ℕ → ℤ) → ℕ → ℤ → ℕ → ℤ
put x w a v = pick (ℕ_discrete v w) a (x v)

pub put_each : (Q : ℤ → Type 0) (x : ℕ → ℤ) (w : ℕ) (a : ℤ) (v : ℕ) → (v ≡ w → Q a) → ((v ≡ w → ⊥) → Q (x v)) → Q (put x w a v)
unfolding put pick
put_each Q x w a v here other = by (ℕ_discrete v w)
  where
    by : (d : Dec (v ≡ w)) → Q (pick d a (x v))
    by (yes e) = here e
    by (no n) = other n

-- ---- a sum over the events

total : ℕ → (ℕ → ℕ) → ℕ
total zero f = 0
total (suc n) f = f n + total n f

total_not_more : (n : ℕ) (f h : ℕ → ℕ) → ((v : ℕ) → v < n → f v ≤ h v) → total n f ≤ total n h
unfolding total
total_not_more zero f h le = omega arith
total_not_more (suc n) f h le = omega (arith, le n (omega arith), total_not_more n f h (λ v l. le v (omega arith)))

total_less : (n : ℕ) (f h : ℕ → ℕ) → ((v : ℕ) → v < n → f v ≤ h v) → (w : ℕ) → w < n → f w < h w → total n f < total n h
unfolding total
total_less zero f h le w l less = absurd (not-suc-le-zero l)
total_less (suc n) f h le w l less = by (ℕ_discrete w n) (λ k. total_less n f h (λ v m. le v (omega arith)) w k less)
  where
    by : Dec (w ≡ n) → (w < n → total n f < total n h) → f n + total n f < h n + total n h
    by (yes e) rest =
        let here : f n < h n = subst (λ (u : ℕ). f u < h u) e less in
        omega (arith, here, total_not_more n f h (λ v m. le v (omega arith)))
    by (no other) rest = omega (arith, le n (omega arith), rest (omega arith))

-- ---- lowering

module _ {b : ℕ} {g : Graph} (eg : EventGraph b g) {s : ℕ} (is_event : s < g.events) where
  -- no hard times are above x, and x is not above 0 at s
  record AboveAll (x : ℕ → ℤ) : Type 0 where
    bound : (v : ℕ) → v < g.events → (time : ℕ → ℤ) → HardTimes g time → (time v -ℤ time s) ≤ℤ x v
    not_late : x s ≤ℤ pos 0

  start : ℕ → ℤ
  start = put (λ v. pos (2046 * b)) s (pos 0)

  start_above : AboveAll start
  unfolding start
  start_above =
      record {
        bound = λ v h time hard.
            put_each (λ (y : ℤ). (time v -ℤ time s) ≤ℤ y) (λ u. pos (2046 * b)) s (pos 0) v
            (λ e. subst (λ (u : ℕ). (time u -ℤ time s) ≤ℤ pos 0) (let same : s ≡ v = omega arith in same) (omega (linear, difference (time s) (time s))))
            (λ n. (hard_within eg is_event h hard).below);
        not_late = put_each (λ (y : ℤ). y ≤ℤ pos 0) (λ u. pos (2046 * b)) s (pos 0) s (λ e. omega linear) (λ n. absurd (n refl));
      }

  module _ {time : ℕ → ℤ} (hard : HardTimes g time) where
    -- what is left above the hard times that are known
    left : (ℕ → ℤ) → ℕ → ℕ
    left x v = P (x v -ℤ (time v -ℤ time s))

    -- an arc that is not met, and the number at its end lowered
    module _ {x : ℕ → ℤ} (above : AboveAll x) {u w : ℕ} {d : ℤ} (arc : Arc g u w d) (broken : x w ≤ℤ (x u +ℤ d) → ⊥) where
      lowered : ℕ → ℤ
      lowered = put x w (x u +ℤ d)

      less : (x u +ℤ d) <ℤ x w
      less = by (≤ℤ-dec (x w) (x u +ℤ d))
        where
          by : Dec (x w ≤ℤ (x u +ℤ d)) → (x u +ℤ d) <ℤ x w
          by (yes h) = absurd (broken h)
          by (no h) = not_le (x u +ℤ d) (x w) h
            where
              not_le : (y z : ℤ) → (z ≤ℤ y → ⊥) → y <ℤ z
              not_le y z never = let no_more : P z + N y ≤ P y + N z → ⊥ = λ l. never (omega linear) in omega linear

      lowered_above : AboveAll lowered
      unfolding lowered
      lowered_above =
          record {
            bound = λ v h other hard-too.
                put_each (λ (y : ℤ). (other v -ℤ other s) ≤ℤ y) x w (x u +ℤ d) v
                (λ e.
                subst (λ (k : ℕ). (other k -ℤ other s) ≤ℤ (x u +ℤ d)) (let same : w ≡ v = omega arith in same)
                (omega (
                  linear,
                  (arcs_of hard-too).meets arc,
                  above.bound u (arc_known eg.sized.ends arc).0 other hard-too,
                  sum (other u) d,
                  sum (x u) d,
                  difference (other w) (other s),
                  difference (other u) (other s),
                )))
                (λ n. above.bound v h other hard-too);
            not_late =
                put_each (λ (y : ℤ). y ≤ℤ pos 0) x w (x u +ℤ d) s
                (λ e. let at : x s ≡ x w = λ i. x (e i) in omega (linear, less, above.not_late))
                (λ n. above.not_late);
          }

      falls : total g.events (left lowered) < total g.events (left x)
      unfolding lowered left
      falls =
          total_less g.events (left lowered) (left x)
          (λ v h.
          put_each (λ (y : ℤ). P (y -ℤ (time v -ℤ time s)) ≤ P (x v -ℤ (time v -ℤ time s))) x w (x u +ℤ d) v
          (λ e.
          let at : x v ≡ x w = λ i. x (e i) in
          lowers (x u +ℤ d) (x v) (time v -ℤ time s) (omega (linear, less)))
          (λ n. omega arith))
          w (arc_known eg.sized.ends arc).1
          (put_each (λ (y : ℤ). P (y -ℤ (time w -ℤ time s)) < P (x w -ℤ (time w -ℤ time s))) x w (x u +ℤ d) w
          (λ e.
          sinks (x u +ℤ d) (x w) (time w -ℤ time s) less
          (omega (
            linear,
            (arcs_of hard).meets arc,
            above.bound u (arc_known eg.sized.ends arc).0 time hard,
            sum (time u) d,
            sum (x u) d,
            difference (time w) (time s),
            difference (time u) (time s),
          )))
          (λ n. absurd (n refl)))
        where
          parts : (y : ℤ) → (P y ≡ 0) ⊎ (N y ≡ 0)
          parts = elim [ pos n ↦ inr refl | negsuc n ↦ inl refl ]

          lowers : (y z t : ℤ) → y ≤ℤ z → P (y -ℤ t) ≤ P (z -ℤ t)
          lowers y z t l = by (parts (y -ℤ t)) (parts (z -ℤ t))
            where
              by : (P (y -ℤ t) ≡ 0) ⊎ (N (y -ℤ t) ≡ 0) → (P (z -ℤ t) ≡ 0) ⊎ (N (z -ℤ t) ≡ 0) → P (y -ℤ t) ≤ P (z -ℤ t)
              by (inl a) k = omega arith
              by (inr a) (inl c) = omega (linear, difference y t, difference z t)
              by (inr a) (inr c) = omega (linear, difference y t, difference z t)

          sinks : (y z t : ℤ) → y <ℤ z → t ≤ℤ y → P (y -ℤ t) < P (z -ℤ t)
          sinks y z t l m = by (parts (y -ℤ t)) (parts (z -ℤ t))
            where
              by : (P (y -ℤ t) ≡ 0) ⊎ (N (y -ℤ t) ≡ 0) → (P (z -ℤ t) ≡ 0) ⊎ (N (z -ℤ t) ≡ 0) → P (y -ℤ t) < P (z -ℤ t)
              by (inl a) (inl c) = omega (linear, difference y t, difference z t)
              by (inl a) (inr c) = omega (linear, difference y t, difference z t)
              by (inr a) (inl c) = omega (linear, difference y t, difference z t)
              by (inr a) (inr c) = omega (linear, difference y t, difference z t)

    lower : (k : ℕ) (x : ℕ → ℤ) → AboveAll x → total g.events (left x) < k → (y : ℕ → ℤ) × LatestGaps g s y
    lower zero x above few = absurd (not-suc-le-zero few)
    lower (suc k) x above few =
        by (search_arcs g (λ u w d. x w ≤ℤ (x u +ℤ d)) (λ u w d. ≤ℤ-dec (x w) (x u +ℤ d)))
        (λ y higher sunk. lower k y higher (omega arith))
      where
        by : ((u w : ℕ) (d : ℤ) → Arc g u w d → x w ≤ℤ (x u +ℤ d)) ⊎ ((u : ℕ) × (w : ℕ) × (d : ℤ) × Arc g u w d × (x w ≤ℤ (x u +ℤ d) → ⊥))
            → ((y : ℕ → ℤ) → AboveAll y → total g.events (left y) < total g.events (left x) → (z : ℕ → ℤ) × LatestGaps g s z)
            → (y : ℕ → ℤ) × LatestGaps g s y
        by (inl all) rest = (x, latest_gaps (sound_of eg) is_event (record { meets = λ arc. all _ _ _ arc }) above.bound above.not_late)
        by (inr (u, w, d, arc, broken)) rest = rest (lowered above arc broken) (lowered_above above arc broken) (falls above arc broken)

    pub gaps_exist : (x : ℕ → ℤ) × LatestGaps g s x
    gaps_exist = lower (suc (total g.events (left start))) start start_above (le_refl (suc (total g.events (left start))))
