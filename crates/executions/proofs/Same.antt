-- Two graphs with the same events and rules: what is said by paths alone is the same of both.
--     same_refl, rules_same, source_same, target_same     SameRules rule by rule
--     follows, follows_same           times that follow from delays by the rules of one follow by the rules of the other
--     same_exchanged, same_joined     SameRules read the other way; two graphs with the rules of a third have the same rules
--     path_same                       a path of one is a path of the other, with as many rules
--     on_cycle_same, cycle_same       an event on a cycle of one lies on one of the other; so a cycle of one is a cycle of the other
--     depth_same                      an event has the same depth in both
-- Assumes nothing.
use mathlib.Core.Path.{◌≡◌, refl, ap, sym, subst, ◌∙◌}
use mathlib.Core.List.{List}
use Prim.Native.Nat.{ℕ, suc, ◌<◌}
use native.Mathlib.Omega.{arith}
use lib.IntN.{ℤ, ◌+ℤ◌}
use lib.Signed.{◌≤ℤ◌}
use lib.ListN.{length, get_or}
use Rattle.graphs.specs.Graph.{Graph, rules, source, target, Greatest}
use Rattle.graphs.specs.Path.{Path, OnCycle, HasCycle, Depth, steps}
use Rattle.graphs.specs.Path.Path.{stay, step}
use Rattle.executions.specs.Execution.{Execution}
use Rattle.executions.specs.Separation.{SameRules}
use Rattle.executions.proofs.Times.{Follows}

pub same_refl : (g : Graph) → SameRules g g
same_refl g = record { events_same = refl; sources_same = refl; targets_same = refl }

module _ {c g : Graph} (same : SameRules c g) where
  pub rules_same : rules g ≡ rules c
  rules_same = ap length same.sources_same

  pub source_same : (i : ℕ) → source g i ≡ source c i
  source_same i = ap (λ (l : List ℕ). get_or l i 0) same.sources_same

  pub target_same : (i : ℕ) → target g i ≡ target c i
  target_same i = ap (λ (l : List ℕ). get_or l i 0) same.targets_same

  pub follows_same : {delay time : ℕ → ℤ} → Follows g delay time → Follows c delay time
  follows_same {delay} {time} f =
      record {
        root = f.root;
        others = λ v h n. at v (f.others v (subst (λ (k : ℕ). v < k) (sym same.events_same) h) n);
      }
    where
      at : (v : ℕ) → Greatest g v (λ i. time (source g i) +ℤ delay i) (time v) → Greatest c v (λ i. time (source c i) +ℤ delay i) (time v)
      at v m =
          record {
            reached = (
              m.reached.0,
              omega (arith, m.reached.1, rules_same),
              sym (target_same m.reached.0) ∙ m.reached.2,
              ap (λ (w : ℕ). time w +ℤ delay m.reached.0) (sym (source_same m.reached.0)) ∙ m.reached.3,
            );
            bound = λ i l e.
                subst (λ (w : ℕ). (time w +ℤ delay i) ≤ℤ time v) (source_same i)
                (m.bound i (omega (arith, l, rules_same)) (target_same i ∙ e));
          }

pub follows : {g : Graph} {delay time : ℕ → ℤ} → Execution g delay time → Follows g delay time
follows x = record { root = x.root; others = x.others }

-- ---- paths

pub same_exchanged : {g h : Graph} → SameRules g h → SameRules h g
same_exchanged same =
    record {
      events_same = sym same.events_same;
      sources_same = sym same.sources_same;
      targets_same = sym same.targets_same;
    }

pub same_joined : {g h k : Graph} → SameRules g h → SameRules g k → SameRules h k
same_joined one other =
    record {
      events_same = other.events_same ∙ sym one.events_same;
      sources_same = other.sources_same ∙ sym one.sources_same;
      targets_same = other.targets_same ∙ sym one.targets_same;
    }

pub path_same : {c g : Graph} → SameRules c g → {u v : ℕ} (p : Path g u v) → (q : Path c u v) × (steps q ≡ steps p)
path_same same stay = (stay, refl)
path_same same (step i l e f p) =
    let r = path_same same p in
    (step i (omega (arith, l, rules_same same)) (sym (source_same same i) ∙ e) (sym (target_same same i) ∙ f) r.0, ap suc r.1)

pub depth_same : {c g : Graph} → SameRules c g → {v k : ℕ} → Depth g v k → Depth c v k
depth_same same d =
    let r = path_same same d.reached.0 in
    record {
      reached = (r.0, r.1 ∙ d.reached.1);
      bound = λ p. let back = path_same (same_exchanged same) p in omega (arith, d.bound back.0, back.1);
    }

pub on_cycle_same : {c g : Graph} {v : ℕ} → SameRules c g → OnCycle g v → OnCycle c v
on_cycle_same same (p, l) =
    let r = path_same same p in
    (r.0, omega (arith, l, r.1))

pub cycle_same : {c g : Graph} → SameRules c g → HasCycle g → HasCycle c
cycle_same same (v, k) = (v, on_cycle_same same k)
