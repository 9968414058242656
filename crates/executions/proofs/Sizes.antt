-- "Sizes that follow": how large a separation can be.
--     times_within      in an execution an event lies at most b for each rank from the root, either side
--     gap_within        so the difference of two times lies from −2,046 × b to 2,046 × b
--     size              and so does a separation
--     exact_size        so an exact answer lies between −2,046,000,000 and 2,046,000,000
-- The idea. An event's time is a source's time and one delay, and ranks grow along rules; the highest is below 1,024. So a time lies within 1,023 × b, and a
-- difference of two within twice that. Assumes nothing.
use mathlib.Core.Path.{◌≡◌, ap, sym, subst, ◌∙◌}
use Prim.Native.Nat.{ℕ, zero, suc, ◌*◌, ◌<◌, ◌≤◌}
use native.Mathlib.Decide.{ℕ_discrete}
use native.Mathlib.Nat.{not-suc-le-zero, le_refl, mul-le-mul_left}
use native.Mathlib.Omega.{arith}
use lib.IntN.{ℤ, pos, ◌-ℤ◌}
use Rattle.integers.specs.Within.{Within}
use Rattle.integers.proofs.Integer.{linear, negation}
use Rattle.integers.proofs.Word.{within_wider, within_sum, within_difference}
use Rattle.graphs.specs.Graph.{Graph, rules, source, target}
use Rattle.graphs.specs.Path.{HasCycle}
use Rattle.graphs.specs.Limits.{Sized, EventGraph}
use Rattle.graphs.proofs.Rank.{rank_of}
use Rattle.executions.specs.Execution.{Execution}
use Rattle.executions.specs.Separation.{Separation}

zero_within : (b : ℕ) → Within b (pos 0)
zero_within b = record { above = omega (linear, negation (pos b)); below = omega linear }

-- that every event is reachable is not asked
module _ {b : ℕ} {g : Graph} (sized : Sized b g) (acyclic : HasCycle g → ⊥) {delay time : ℕ → ℤ} (x : Execution g delay time) where
  delay_within : (i : ℕ) → i < rules g → Within b (delay i)
  delay_within i l =
      record {
        above = omega (linear, (sized.delays i l).least_within.above, x.from_least i l);
        below = omega (linear, (sized.delays i l).most_within.below, x.to_most i l);
      }

  module _ (rank : ℕ → ℕ) (first : (i : ℕ) → i < rules g → rank (source g i) < rank (target g i)) where
    time_within_at : (v : ℕ) → v < g.events → ((i : ℕ) → i < rules g → target g i ≡ v → Within (b * rank (source g i)) (time (source g i))) → Dec (v ≡ 0) → Within (b * rank v) (time v)
    time_within_at v h before (yes z) = subst (Within (b * rank v)) (sym (ap time z ∙ x.root)) (zero_within (b * rank v))
    time_within_at v h before (no n) =
        let r = (x.others v h n).reached in
        let grown : b * suc (rank (source g r.0)) ≤ b * rank v = mul-le-mul_left b (omega (arith, first r.0 r.1, ap rank r.2)) in
        subst (Within (b * rank v)) r.3
        (within_wider (omega arith) (within_sum (before r.0 r.1 r.2) (delay_within r.0 r.1)))

    time_within_from : (k v : ℕ) → rank v < k → v < g.events → Within (b * rank v) (time v)
    time_within_from zero v r h = absurd (not-suc-le-zero r)
    time_within_from (suc k) v r h =
        time_within_at v h (λ i l e. time_within_from k (source g i) (omega (arith, first i l, ap rank e)) (sized.ends i l).source_known) (ℕ_discrete v 0)

  pub times_within : (v : ℕ) → v < g.events → Within (1023 * b) (time v)
  times_within v h =
      let r = rank_of g sized.ends acyclic in
      let grown : b * r.0 v ≤ b * 1023 = mul-le-mul_left b (omega (arith, r.2 v h, sized.counts.few_events)) in
      within_wider (omega arith) (time_within_from r.0 r.1 (suc (r.0 v)) v (le_refl (suc (r.0 v))) h)

  pub gap_within : (s t : ℕ) → s < g.events → t < g.events → Within (2046 * b) (time t -ℤ time s)
  gap_within s t hs ht = within_wider (omega arith) (within_difference (times_within t ht) (times_within s hs))

pub size : {b : ℕ} {g : Graph} → EventGraph b g → {s t : ℕ} {x : ℤ} → s < g.events → t < g.events → Separation g s t x → Within (2046 * b) x
size {b} eg {s} {t} hs ht a =
    let r = a.reached in
    subst (Within (2046 * b)) r.3 (gap_within eg.sized eg.acyclic r.2 s t hs ht)

-- "An exact answer lies between −2,046,000,000 and 2,046,000,000"
pub exact_size : {g : Graph} → EventGraph 1000000 g → {s t : ℕ} {x : ℤ} → s < g.events → t < g.events → Separation g s t x → Within 2046000000 x
exact_size eg hs ht a = size eg hs ht a
