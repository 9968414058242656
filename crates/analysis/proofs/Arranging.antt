-- What the parts of the analysis hand on, put together.
--     sized_up           a graph whose delays lie within 1,000,000 may be analysed
--     sized_right        a graph whose counts are kept and whose rules are right, and back: right_sized
--     lowest_not_reached    what the search for an unreached event finds
--     some_on, lowest_on    where there is a cycle, some event lies on one, and what the search finds is the lowest
--     path_5, path_6, path_0    refusals 5 and 6, and that neither applies
--     cycle_refused      where `arrange` refuses, refusal 5 applies
--     path_refused       refusal 5 or 6 is what the passes answer
--     path_computed      and so is what they computed
-- Assumes nothing.
use Rattle.std.proofs.Common.{Ok, Err, Option, Some, None}
use Rattle.std.specs.Option.{IsSome}
use mathlib.Core.Path.{refl}
use mathlib.Core.List.{List, []}
use Prim.Native.Nat.{ℕ, ◌<◌, ◌≤◌}
use lib.IntN.{ℤ}
use Rattle.integers.proofs.Word.{within_wider}
use Rattle.graphs.specs.Graph.{Graph, graph_of, rules}
use Rattle.graphs.specs.Path.{OnCycle, HasCycle, Reachable}
use Rattle.graphs.specs.Refusal.{Unreached, path_checks}
use Rattle.verdicts.specs.Verdict.{given, passed, FirstOf, Lowest, FoundAt, LowestIn}
use Rattle.verdicts.proofs.Verdicts.{none_accepted}
use Rattle.verdicts.proofs.Searches.{found_lowest}
use Rattle.graphs.proofs.Refusals.{cycle_misses, path_none}
use Rattle.graphs.specs.Limits.{CountsKept, Sized}
use Rattle.refusals.specs.Numbers.{number_of, place_of}
use Rattle.refusals.specs.declared.Refusal.{Refusal}
use Rattle.refusals.specs.declared.Refusal.TheVariants.{Cycle}
use Rattle.analysis.specs.declared.Depths.{Depths}
use Rattle.analysis.specs.Parts.InChains.{CycleRefused}
use Rattle.analysis.specs.Parts.Rules.{RuleRight, EndsBelow}
use Rattle.graphs.proofs.Cycle.{leaves_below}
use Rattle.analysis.specs.Parts.Cycles.{LiesOn, LiesOff}
use Rattle.analysis.specs.Parts.Arranged.{Computed, PathsAnalysed}

pub sized_up : {a b : ℕ} {g : Graph} → a ≤ b → Sized a g → Sized b g
sized_up {g = g} l s =
    record {
      counts = s.counts;
      ends = s.ends;
      delays = λ i h.
          record {
            least_within = within_wider l (s.delays i h).least_within;
            most_within = within_wider l (s.delays i h).most_within;
            ordered = (s.delays i h).ordered;
          };
    }

pub sized_right : {b : ℕ} {g : Graph} → CountsKept g → ((i : ℕ) → i < rules g → RuleRight b g i) → Sized b g
sized_right counts right =
    record {
      counts = counts;
      ends = λ i l. record { source_known = (right i l).source_known; target_known = (right i l).target_known };
      delays = λ i l. record { least_within = (right i l).delays.least_within; most_within = (right i l).delays.most_within; ordered = (right i l).delays.ordered };
    }

pub right_sized : {b : ℕ} {g : Graph} → Sized b g → (i : ℕ) → i < rules g → RuleRight b g i
right_sized sized i l =
    let d = sized.delays i l in
    record {
      source_known = (sized.ends i l).source_known;
      target_known = (sized.ends i l).target_known;
      delays = record { least_within = d.least_within; most_within = d.most_within; ordered = d.ordered };
    }

-- ---- refusals 5 and 6

-- where there is a cycle, the search finds the lowest event on one: an event on a cycle is one of the n
pub some_on : {n : ℕ} {ss ts : List ℕ} → EndsBelow n ss → ((ds Ds : List ℤ) → HasCycle (graph_of n ss ts ds Ds)) → (x : Option ℕ) → LowestIn n (LiesOff ss ts) (LiesOn ss ts) x → IsSome x
some_on below cyclic (Some v) found = refl
some_on {n} below cyclic None off = let (v, (p, some)) = cyclic [] [] in absurd (off v (leaves_below below.below p some) n [] [] (p, some))

pub lowest_on : {n v : ℕ} {ss ts : List ℕ} → FoundAt n (LiesOff ss ts) (LiesOn ss ts) v → (ds Ds : List ℤ) → Lowest (OnCycle (graph_of n ss ts ds Ds)) v
lowest_on {n} {ss = ss} {ts = ts} found ds Ds = found_lowest (OnCycle (graph_of n ss ts ds Ds)) (λ i _ off. off n ds Ds) (λ i _ on. on n ds Ds) found

module _ {g : Graph} where
  pub lowest_not_reached : {v : ℕ} → FoundAt g.events (Reachable g) (λ v. Reachable g v → ⊥) v → Lowest (Unreached g) v
  lowest_not_reached = found_lowest (Unreached g) (λ v l p u. u.no_path p) (λ v l none. record { is_event = l; no_path = none })

  pub path_5 : {p : ℕ} → Lowest (OnCycle g) p → FirstOf (path_checks g) 5 p
  path_5 h = given h

  pub path_6 : (HasCycle g → ⊥) → {p : ℕ} → Lowest (Unreached g) p → FirstOf (path_checks g) 6 p
  path_6 acyclic h = passed (cycle_misses acyclic) (given h)

  pub path_0 : (HasCycle g → ⊥) → ((v : ℕ) → v < g.events → Reachable g v) → FirstOf (path_checks g) 0 0
  path_0 acyclic reachable = none_accepted (path_checks g) (path_none acyclic reachable)

pub cycle_refused : {g : Graph} (r : Refusal) → CycleRefused g r → FirstOf (path_checks g) (number_of r) (place_of r)
cycle_refused (Cycle v) lowest = path_5 lowest
cycle_refused _ none = absurd none

module _ {g : Graph} {s t : ℕ} where
  pub path_refused : {us : List ℤ} {r : Refusal} → FirstOf (path_checks g) (number_of r) (place_of r) → PathsAnalysed g s t us us (Err r)
  path_refused v = record { verdict = v; outcome = refl }

  pub path_computed : {us₀ us : List ℤ} {d : Depths} → Computed g s t us₀ us d → PathsAnalysed g s t us₀ us (Ok d)
  path_computed c = record { verdict = path_0 c.acyclic c.reachable; outcome = c }
