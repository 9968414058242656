-- The test of a figure under hard deadlines: times that reach the number, and a way along rules that no hard times exceed.
--     Turn                 a rule gone along, or back against it
--     way_passes g u t way x    the way leads from u to t, and its weights, D along a rule and −d against it, sum to x at most
--     way_bound            then t is at most x after u in all hard times
--     hard_passes g time    the times meet every rule, with the root at 0
--     hard_passed          where both pass, the figure holds
-- Assumes nothing.
use mathlib.Core.Path.{◌≡◌, ap}
use mathlib.Core.Bool.{Bool, ◌&&◌}
use mathlib.Core.List.{List, [], ◌∷◌}
use Prim.Native.Nat.{ℕ}
use lib.IntN.{ℤ, pos, ◌+ℤ◌, ◌-ℤ◌}
use lib.Signed.{◌≤ℤ◌, le_z}
use lib.ListN.{get_or}
use lib.Dec.{T, ltb, eqb, ltb→lt, eqb→eq}
use Rattle.integers.proofs.Integer.{linear, sum, difference}
use Rattle.graphs.specs.Graph.{Graph, rules, source, target, least, most}
use Rattle.hardtimes.specs.HardTimes.{HardTimes}
use Rattle.figures.specs.Figures.{HardSeparationIs}
use Rattle.figures.proofs.Tests.{both_pass, all_below, all_pass, eq_z, eq_z_passes}
use Rattle.figures.proofs.Certificate.{Certificate}
use Rattle.figures.proofs.Passed.{graph_passes, event_graph}

pub data Turn : Type 0 where
  on : ℕ → Turn
  back : ℕ → Turn

abbrev pub way_passes : Graph → ℕ → ℕ → List Turn → ℤ → Bool
way_passes g u t [] x = eqb u t && le_z (pos 0) x
way_passes g u t (on i ∷ way) x = (ltb i (rules g) && eqb (source g i) u) && way_passes g (target g i) t way (x -ℤ most g i)
way_passes g u t (back i ∷ way) x = (ltb i (rules g) && eqb (target g i) u) && way_passes g (source g i) t way (x +ℤ least g i)

module _ {g : Graph} {time : ℕ → ℤ} (hard : HardTimes g time) where
  way_bound : (u t : ℕ) (way : List Turn) (x : ℤ) → T (way_passes g u t way x) → (time t -ℤ time u) ≤ℤ x
  way_bound u t [] x p =
      let (same, low) = both_pass (eqb u t) _ p in
      let e : time u ≡ time t = ap time (eqb→eq u t same) in
      let l : pos 0 ≤ℤ x = record { le = low } in
      omega (linear, e, l, difference (time t) (time u))
  way_bound u t (on i ∷ way) x p =
      let (here, rest) = both_pass (ltb i (rules g) && eqb (source g i) u) _ p in
      let (is_rule, same) = both_pass (ltb i (rules g)) _ here in
      let e : time (source g i) ≡ time u = ap time (eqb→eq (source g i) u same) in
      omega (
        linear,
        e,
        hard.to_most i (ltb→lt i (rules g) is_rule),
        way_bound (target g i) t way (x -ℤ most g i) rest,
        difference (time t) (time u),
        difference (time t) (time (target g i)),
        difference (time (target g i)) (time (source g i)),
        difference x (most g i),
      )
  way_bound u t (back i ∷ way) x p =
      let (here, rest) = both_pass (ltb i (rules g) && eqb (target g i) u) _ p in
      let (is_rule, same) = both_pass (ltb i (rules g)) _ here in
      let e : time (target g i) ≡ time u = ap time (eqb→eq (target g i) u same) in
      omega (
        linear,
        e,
        hard.from_least i (ltb→lt i (rules g) is_rule),
        way_bound (source g i) t way (x +ℤ least g i) rest,
        difference (time t) (time u),
        difference (time t) (time (source g i)),
        difference (time (target g i)) (time (source g i)),
        sum x (least g i),
      )

-- rule i binds: its two times differ by d to D
abbrev rule_passes : Graph → (ℕ → ℤ) → ℕ → Bool
rule_passes g time i = le_z (least g i) (time (target g i) -ℤ time (source g i)) && le_z (time (target g i) -ℤ time (source g i)) (most g i)

abbrev pub hard_passes : Graph → (ℕ → ℤ) → Bool
hard_passes g time = eq_z (time 0) (pos 0) && all_below (rules g) (rule_passes g time)

hard_times : (g : Graph) (time : ℕ → ℤ) → T (hard_passes g time) → HardTimes g time
hard_times g time p =
    let (root, each) = both_pass (eq_z (time 0) (pos 0)) _ p in
    record {
      root = eq_z_passes (time 0) (pos 0) root;
      from_least = λ i l. record { le = (both_pass (le_z (least g i) _) _ (all_pass (rules g) (rule_passes g time) each i l)).0 };
      to_most = λ i l. record { le = (both_pass (le_z (least g i) _) _ (all_pass (rules g) (rule_passes g time) each i l)).1 };
    }

abbrev pub hard_separation_passes : Certificate → List ℤ → List Turn → Graph → ℕ → ℕ → ℤ → Bool
hard_separation_passes c times way g s t x =
    graph_passes c g &&
    ((ltb s g.events && ltb t g.events) &&
    (hard_passes g (λ v. get_or times v (pos 0)) && (eq_z (get_or times t (pos 0) -ℤ get_or times s (pos 0)) x && way_passes g s t way x)))

pub hard_passed : (c : Certificate) (times : List ℤ) (way : List Turn) (g : Graph) (s t : ℕ) (x : ℤ) → T (hard_separation_passes c times way g s t x) → HardSeparationIs g s t x
hard_passed c times way g s t x p =
    let time : ℕ → ℤ = λ v. get_or times v (pos 0) in
    let (tg, rest) = both_pass (graph_passes c g) _ p in
    let (known, values) = both_pass (ltb s g.events && ltb t g.events) _ rest in
    let (s-known, t-known) = both_pass (ltb s g.events) _ known in
    let (meets, numbers) = both_pass (hard_passes g time) _ values in
    let (reaches, bounds) = both_pass (eq_z (time t -ℤ time s) x) _ numbers in
    record {
      event_graph = event_graph c g tg;
      source_event = ltb→lt s g.events s-known;
      target_event = ltb→lt t g.events t-known;
      separation =
          record {
            reached = (time, hard_times g time meets, eq_z_passes (time t -ℤ time s) x reaches);
            bound = λ other hard. way_bound hard s t way x bounds;
          };
    }
