-- The verdict on the counts of a reading: n events, r rules.
--     count_21, count_22, count_23, count_0    the refusals, and that none applies, each from the facts that shut out the earlier ones
--     CountsRight, counts_right                what is known where number 0 is given
-- Assumes nothing.
use mathlib.Core.Path.{◌≡◌}
use Prim.Native.Nat.{ℕ, ◌<◌, ◌≤◌}
use native.Mathlib.Omega.{arith}
use Rattle.verdicts.specs.Verdict.{given, passed, Accepted, FirstOf}
use Rattle.verdicts.proofs.Verdicts.{at_zero, misses_at_zero, holds_not, none_accepted, accepted_none}
use Rattle.text.specs.Parts.Scanning.{reading_checks}

pub record CountsRight (n r places : ℕ) : Type 0 where
  pub few_events : n ≤ 64
  pub few_rules : r ≤ 1024
  pub long : r ≤ places

module _ {n r places : ℕ} where
  pub count_21 : 64 < n → FirstOf (reading_checks n r places) 21 0
  count_21 h = given (at_zero h)

  pub count_22 : n ≤ 64 → 1024 < r → FirstOf (reading_checks n r places) 22 0
  count_22 few h = passed (misses_at_zero (λ l. omega arith)) (given (at_zero h))

  pub count_23 : n ≤ 64 → r ≤ 1024 → places < r → FirstOf (reading_checks n r places) 23 0
  count_23 few few_rules h = passed (misses_at_zero (λ l. omega arith)) (passed (misses_at_zero (λ l. omega arith)) (given (at_zero h)))

  pub count_0 : n ≤ 64 → r ≤ 1024 → r ≤ places → FirstOf (reading_checks n r places) 0 0
  count_0 few few_rules long =
      none_accepted (reading_checks n r places) (misses_at_zero (λ l. omega arith), (misses_at_zero (λ l. omega arith), (misses_at_zero (λ l. omega arith), tt)))

  pub counts_right : {j p : ℕ} → j ≡ 0 → FirstOf (reading_checks n r places) j p → CountsRight n r places
  counts_right {j} {p} e v =
      let (no_21, (no_22, (no-23, _))) = (accepted_none (reading_checks n r places) Accepted (omega arith, (omega arith, (omega arith, tt))) j p e v).0 in
      let few : 64 < n → ⊥ = holds_not no_21 in
      let few_rules : 1024 < r → ⊥ = holds_not no_22 in
      let short : places < r → ⊥ = holds_not no-23 in
      record { few_events = omega arith; few_rules = omega arith; long = omega arith }
