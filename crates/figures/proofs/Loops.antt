-- Events on a cycle of a graph that is written out, by tests that compute.
--     goes_to g u v         the test whether a rule leads from u to v
--     closes g u ws v      the test whether rules lead from u along the events ws to v
--     keeps_to g v S i      the test that rule i, if it leads from v or from an event of S, leads to an event of S
--     missed g v S         the test that every rule does so, and that v is none of S
--     cycle_passes g v …    the tests together
--     cycle_passed         the figure holds where they pass
-- What is reached from v by a rule or more is in every S that keeps to v; so where one of them has not v, v lies on no cycle. Assumes nothing.
use mathlib.Core.Path.{sym, subst}
use mathlib.Core.Bool.{Bool, true, false, not, ◌&&◌, ◌||◌}
use mathlib.Core.List.{List, [], ◌∷◌}
use mathlib.Core.Logic.{◌⊎◌, inl, inr}
use Prim.Native.Nat.{ℕ, ◌<◌}
use native.Mathlib.Omega.{arith}
use lib.Dec.{T, eqb, eqb→eq, eqb_refl, T_not}
use lib.ListN.{get_or}
use Rattle.verdicts.specs.Verdict.{Lowest}
use Rattle.graphs.specs.Graph.{Graph, rules, source, target}
use Rattle.graphs.specs.Path.{Path, stay, step, steps, OnCycle}
use Rattle.figures.proofs.Tests.{both_pass, one_passes, all_below, any_below, all_pass, some_passes}

-- ---- a cycle

abbrev goes_to : Graph → ℕ → ℕ → Bool
goes_to g u v = any_below (rules g) (λ i. eqb (source g i) u && eqb (target g i) v)

-- from u along the list, and then to v
abbrev closes : Graph → ℕ → List ℕ → ℕ → Bool
closes g u [] v = goes_to g u v
closes g u (w ∷ ws) v = goes_to g u w && closes g w ws v

one_rule : (g : Graph) (u v : ℕ) → T (goes_to g u v) → {w : ℕ} → Path g v w → (p : Path g u w) × (0 < steps p)
one_rule g u v t p =
    let (i, l, both) = some_passes (rules g) (λ i. eqb (source g i) u && eqb (target g i) v) t in
    let (from, to) = both_pass (eqb (source g i) u) (eqb (target g i) v) both in
    (step i l (eqb→eq (source g i) u from) (eqb→eq (target g i) v to) p, omega arith)

closed : (g : Graph) (u : ℕ) (ws : List ℕ) (v : ℕ) → T (closes g u ws v) → (p : Path g u v) × (0 < steps p)
closed g u [] v t = one_rule g u v t stay
closed g u (w ∷ ws) v t =
    let (first, rest) = both_pass (goes_to g u w) (closes g w ws v) t in
    one_rule g u w first (closed g w ws v rest).0

-- ---- no cycle

abbrev keeps_to : Graph → ℕ → List Bool → ℕ → Bool
keeps_to g v S i = not (eqb (source g i) v || get_or S (source g i) false) || get_or S (target g i) false

abbrev missed : Graph → ℕ → List Bool → Bool
missed g v S = all_below (rules g) (keeps_to g v S) && not (get_or S v false)

either : (a b : Bool) → T a ⊎ T b → T (a || b)
either true b h = tt
either false b (inl h) = absurd h
either false b (inr h) = h

module _ (g : Graph) (v : ℕ) (S : List Bool) (t : T (all_below (rules g) (keeps_to g v S))) where
  one_more : (i : ℕ) → i < rules g → T (eqb (source g i) v) ⊎ T (get_or S (source g i) false) → T (get_or S (target g i) false)
  one_more i l h = by (one_passes (not (eqb (source g i) v || get_or S (source g i) false)) (get_or S (target g i) false) (all_pass (rules g) (keeps_to g v S) t i l))
    where
      by : T (not (eqb (source g i) v || get_or S (source g i) false)) ⊎ T (get_or S (target g i) false) → T (get_or S (target g i) false)
      by (inl out) = absurd (T_not (eqb (source g i) v || get_or S (source g i) false) out (either (eqb (source g i) v) (get_or S (source g i) false) h))
      by (inr here) = here

  on : {u w : ℕ} (p : Path g u w) → T (get_or S u false) → T (get_or S w false)
  on stay h = h
  on (step i l e f p) h =
      on p (subst (λ (x : ℕ). T (get_or S x false)) f (one_more i l (inr (subst (λ (x : ℕ). T (get_or S x false)) (sym e) h))))

  ends_in : {u w : ℕ} (p : Path g u w) → T (eqb u v) ⊎ T (get_or S u false) → 0 < steps p → T (get_or S w false)
  ends_in stay h l = absurd (let no : ⊥ = omega arith in no)
  ends_in (step i l e f p) h some = on p (subst (λ (x : ℕ). T (get_or S x false)) f (one_more i l (subst (λ (x : ℕ). T (eqb x v) ⊎ T (get_or S x false)) (sym e) h)))

off_cycle : (g : Graph) (v : ℕ) (S : List Bool) → T (missed g v S) → OnCycle g v → ⊥
off_cycle g v S t (p, some) =
    let (keeps, out) = both_pass (all_below (rules g) (keeps_to g v S)) (not (get_or S v false)) t in
    T_not (get_or S v false) out (ends_in g v S keeps p (inl (eqb_refl v)) some)

-- ---- the lowest event on a cycle

-- v is on the cycle along ws, and each event below it is missed, by its list
abbrev pub cycle_passes : Graph → ℕ → List ℕ → List (List Bool) → Bool
cycle_passes g v ws lists = closes g v ws v && all_below v (λ q. missed g q (get_or lists q []))

pub cycle_passed : (g : Graph) (v : ℕ) (ws : List ℕ) (lists : List (List Bool)) → T (cycle_passes g v ws lists) → Lowest (OnCycle g) v
cycle_passed g v ws lists t =
    let (round, below) = both_pass (closes g v ws v) (all_below v (λ q. missed g q (get_or lists q []))) t in
    record {
      holds = closed g v ws v round;
      lowest = λ q l. off_cycle g q (get_or lists q []) (all_pass v (λ q. missed g q (get_or lists q [])) below q l);
    }
