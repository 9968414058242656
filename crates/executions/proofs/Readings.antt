-- The two readings of an execution admit the same times. Document 01: "The two readings admit the same times."
--     lesser_min           the lesser of two numbers
--     greatest_delay       the lesser of the target's time less the source's and the most delay is the greatest delay that 01's schedule asks
--     executes             times that keep every least delay and are reached, with such delays, are an execution
--     bounded→execution, execution→bounded     from one reading to the other
--     readings_agree       both at once
-- The idea. Given times by bounds, let each rule take the greatest delay in its interval that doesn't carry its source past its target's time.
-- No event is then late; and the rule that bounds an event from above takes exactly the difference of the two times. Assumes nothing.
use mathlib.Core.Path.{◌≡◌, refl, ap, subst}
use mathlib.Core.Logic.{◌⊎◌, inl, inr, ⊎_elim, ◌↔◌}
use mathlib.Core.Bool.{Bool, true, false, cond}
use Prim.Native.Nat.{ℕ, ◌<◌}
use lib.IntN.{ℤ, pos, ◌+ℤ◌, ◌-ℤ◌}
use lib.Signed.{◌≤ℤ◌, le_z}
use Rattle.integers.proofs.Integer.{linear, sum, difference, min_ℤ}
use Rattle.graphs.specs.Graph.{Graph, rules, source, target, least, most, Greatest}
use Rattle.graphs.specs.Limits.{SoundGraph}
use Rattle.graphs.proofs.Greatest.{greatest_exists}
use Rattle.executions.specs.Execution.{Execution, Between, Bounded}
use Rattle.executions.specs.Steps.{Lesser}
use Rattle.executions.specs.Schedule.{GreatestDelay}
use Rattle.executions.proofs.Rules.{KeepsLeast, Reaches, target_is_other}

pub lesser_min : (a b : ℤ) → Lesser a b (min_ℤ a b)
lesser_min a b = go (le_z a b) refl
  where
    go : (x : Bool) → le_z a b ≡ x → Lesser a b (cond x a b)
    go true e = record { left = omega linear; right = omega linear; one = inl refl }
    go false e = record { left = omega linear; right = omega linear; one = inr refl }

pub greatest_delay : {g : Graph} {time : ℕ → ℤ} {i : ℕ} {x : ℤ} → (time (source g i) +ℤ least g i) ≤ℤ time (target g i) → least g i ≤ℤ most g i → Lesser (time (target g i) -ℤ time (source g i)) (most g i) x → GreatestDelay g time i x
greatest_delay {g} {time} {i} {x} keeps ordered l =
    record {
      from_least = ⊎_elim (λ (e : x ≡ time (target g i) -ℤ time (source g i)). omega (linear, difference (time (target g i)) (time (source g i)), sum (time (source g i)) (least g i))) (λ (e : x ≡ most g i). omega linear) l.one;
      to_most = l.right;
      in_time = omega (linear, l.left, difference (time (target g i)) (time (source g i)), sum (time (source g i)) x);
      greatest = λ y low high late. above y low high late l.one;
    }
  where
    above : (y : ℤ) → least g i ≤ℤ y → y ≤ℤ most g i → (time (source g i) +ℤ y) ≤ℤ time (target g i) → (x ≡ time (target g i) -ℤ time (source g i)) ⊎ (x ≡ most g i) → y ≤ℤ x
    above y low high late (inl e) = omega (linear, difference (time (target g i)) (time (source g i)), sum (time (source g i)) y)
    above y low high late (inr e) = omega linear

module _ {g : Graph} (sound : SoundGraph g) where
  pub executes : {delay time : ℕ → ℤ} → time 0 ≡ pos 0 → KeepsLeast g time → ((v : ℕ) → v < g.events → (v ≡ 0 → ⊥) → Reaches g time v) → ((i : ℕ) → i < rules g → GreatestDelay g time i (delay i)) → Execution g delay time
  executes {delay} {time} root keeps reaches delays =
      record {
        from_least = λ i h. (delays i h).from_least;
        to_most = λ i h. (delays i h).to_most;
        root = root;
        others = λ v h n. record { reached = by v (reaches v h n); bound = λ i l e. subst (λ (w : ℕ). (time (source g i) +ℤ delay i) ≤ℤ time w) e (delays i l).in_time };
      }
    where
      -- the rule that reaches v takes the difference of the two times
      by : (v : ℕ) → Reaches g time v → (i : ℕ) × (i < rules g) × (target g i ≡ v) × (time (source g i) +ℤ delay i ≡ time v)
      by v r =
          let i : ℕ = r.rule in
          let y : ℤ = time (target g i) -ℤ time (source g i) in
          let l : i < rules g = r.is_rule in
          let D = difference (time (target g i)) (time (source g i)) in
          let whole : y ≤ℤ delay i =
          (delays i l).greatest y
          (omega (linear, keeps.keeps i l, D, sum (time (source g i)) (least g i)))
          (omega (linear, r.late, ap time r.into, D, sum (time (source g i)) (most g i)))
          (omega (linear, D, sum (time (source g i)) y))
          in
          (i, l, r.into, omega (linear, whole, (delays i l).in_time, D, ap time r.into, sum (time (source g i)) (delay i)))

  -- ---- from bounds to delays and back

  bounds_keep : {time : ℕ → ℤ} → Bounded g time → KeepsLeast g time
  bounds_keep {time} x =
      record {
        keeps = λ i h.
            let o : Between g time (target g i) = x.others (target g i) (sound.ends i h).target_known (target_is_other sound i h) in
            omega (linear, o.earliest_greatest.bound i h refl, o.after);
      }

  bounds_reach : {time : ℕ → ℤ} (v : ℕ) → Between g time v → Reaches g time v
  bounds_reach {time} v o =
      let r = o.latest_greatest.reached in
      record { rule = r.0; is_rule = r.1; into = r.2; late = omega (linear, r.3, o.before) }

  pub bounded→execution : {time : ℕ → ℤ} → Bounded g time → (delay : ℕ → ℤ) × Execution g delay time
  bounded→execution {time} x = (
    λ i. min_ℤ (time (target g i) -ℤ time (source g i)) (most g i),
    executes x.root (bounds_keep x) (λ v h n. bounds_reach v (x.others v h n))
        (λ i h.
        greatest_delay ((bounds_keep x).keeps i h) (sound.ordered i h)
        (lesser_min (time (target g i) -ℤ time (source g i)) (most g i))),
  )

  pub execution→bounded : {delay time : ℕ → ℤ} → Execution g delay time → Bounded g time
  execution→bounded {delay} {time} x = record { root = x.root; others = λ v h n. at v (x.others v h n) }
    where
      at : (v : ℕ) → Greatest g v (λ i. time (source g i) +ℤ delay i) (time v) → Between g time v
      at v m =
          let i : ℕ = m.reached.0 in
          let l : i < rules g = m.reached.1 in
          let low = greatest_exists g v (λ j. time (source g j) +ℤ least g j) i l m.reached.2 in
          let high = greatest_exists g v (λ j. time (source g j) +ℤ most g j) i l m.reached.2 in
          let k : ℕ = low.1.reached.0 in
          let o : k < rules g = low.1.reached.1 in
          record {
            earliest = low.0;
            earliest_greatest = low.1;
            latest = high.0;
            latest_greatest = high.1;
            after =
                omega (
                  linear,
                  low.1.reached.3,
                  m.bound k o low.1.reached.2,
                  x.from_least k o,
                  sum (time (source g k)) (least g k),
                  sum (time (source g k)) (delay k),
                );
            before =
                omega (
                  linear,
                  m.reached.3,
                  high.1.bound i l m.reached.2,
                  x.to_most i l,
                  sum (time (source g i)) (most g i),
                  sum (time (source g i)) (delay i),
                );
          }

  -- "The two readings admit the same times"
  pub readings_agree : (time : ℕ → ℤ) → Bounded g time ↔ ((delay : ℕ → ℤ) × Execution g delay time)
  readings_agree time = (λ x. bounded→execution x, λ x. execution→bounded x.1)
