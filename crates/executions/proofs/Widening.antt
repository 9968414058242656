-- Two graphs with the same events and rules, where each rule's interval of one holds that of the other.
--     Wider g h                  every interval of h holds that of g
--     widened                    an execution of g is an execution of h: a delay taken in g may be taken in h
--     widening_never_lowers      so the greatest separation of h is not below that of g
--     separation_kept            where each is wider than the other, they have one separation
--     equal_wider                so it is where no delay differs
-- Assumes nothing.
use mathlib.Core.Path.{◌≡◌}
use Prim.Native.Nat.{ℕ, ◌<◌}
use native.Mathlib.Omega.{arith}
use lib.IntN.{ℤ}
use lib.Signed.{◌≤ℤ◌}
use Rattle.integers.proofs.Integer.{linear}
use Rattle.graphs.specs.Graph.{Graph, rules, least, most}
use Rattle.executions.specs.Execution.{Execution}
use Rattle.executions.specs.Separation.{Separation, SameRules}
use Rattle.executions.proofs.Times.{Follows}
use Rattle.executions.proofs.Same.{rules_same, follows, follows_same}
use Rattle.executions.proofs.Same.{same_exchanged}

pub record Wider (g h : Graph) : Type 0 where
  pub same : SameRules g h
  pub leasts_lower : (i : ℕ) → i < rules g → least h i ≤ℤ least g i
  pub mosts_higher : (i : ℕ) → i < rules g → most g i ≤ℤ most h i

module _ {g h : Graph} (wider : Wider g h) where
  pub widened : {delay time : ℕ → ℤ} → Execution g delay time → Execution h delay time
  widened {delay} {time} x =
      let f : Follows h delay time = follows_same (same_exchanged wider.same) (follows x) in
      record {
        from_least = λ i l. let k : i < rules g = omega (arith, l, rules_same wider.same) in omega (linear, wider.leasts_lower i k, x.from_least i k);
        to_most = λ i l. let k : i < rules g = omega (arith, l, rules_same wider.same) in omega (linear, wider.mosts_higher i k, x.to_most i k);
        root = f.root;
        others = f.others;
      }

  pub widening_never_lowers : {s t : ℕ} {x y : ℤ} → Separation g s t x → Separation h s t y → x ≤ℤ y
  widening_never_lowers {x = x} {y = y} a b =
      let r = a.reached in
      omega (linear, r.3, b.bound r.0 r.1 (widened r.2))

pub equal_wider : {g h : Graph} → SameRules g h → ((i : ℕ) → i < rules g → least g i ≡ least h i) → ((i : ℕ) → i < rules g → most g i ≡ most h i) → Wider g h
equal_wider {g} {h} same leasts mosts =
    record {
      same = same;
      leasts_lower = λ i l. omega (linear, leasts i l);
      mosts_higher = λ i l. omega (linear, mosts i l);
    }

pub separation_kept : {g h : Graph} → Wider g h → Wider h g → {s t : ℕ} {x : ℤ} → Separation g s t x → Separation h s t x
separation_kept wider narrower a =
    let r = a.reached in
    record {
      reached = (r.0, r.1, widened wider r.2, r.3);
      bound = λ delay time x. a.bound delay time (widened narrower x);
    }
