-- The search for an event on a cycle.
--     unmarked, listing_none     at first nothing is marked
--     lowest_in_range            what `find` gives, as the lowest event on a cycle
--     Searching … at …           the events listed below `at` have been gone through
--     searching_start, searching_step, searching_known, searching_end
-- The idea. Every marked event leads to v by a path on which a rule stands, since it was marked as the source of a rule into v or into an event marked
-- before. When the last event of the list has been gone through, no rule leads from an unmarked event into v or into a marked one. So every event that
-- leads to v by such a path is marked, its last rule first: v itself exactly if it lies on a cycle. Assumes nothing.
use mathlib.Core.Path.{◌≡◌, refl, sym, subst, ◌∙◌}
use mathlib.Core.Bool.{Bool, true, false, true≢false}
use mathlib.Core.Logic.{⊎_elim}
use mathlib.Core.List.{List, []}
use Prim.Native.Nat.{ℕ, zero, suc, ◌+◌, ◌<◌, ◌≤◌, zero-le}
use native.Mathlib.Decide.{dec_lt}
use native.Mathlib.Omega.{arith}
use lib.IntN.{ℤ}
use lib.ListN.{length, get_or, replicate}
use Rattle.std.proofs.Common.{Option, Some, None}
use Rattle.std.specs.Prelude.{MatchOption}
use Rattle.verdicts.specs.Verdict.{LowestIn}
use Rattle.graphs.specs.Graph.{graph_of}
use Rattle.graphs.specs.Path.{Path, stay, step, steps}
use Rattle.graphs.proofs.Paths.{empty_ends}
use Rattle.graphs.proofs.Cycle.{leaves_below}
use Rattle.sequences.proofs.Counting.{counted_all}
use Rattle.analysis.specs.Parts.Rules.{EndsBelow}
use Rattle.analysis.specs.Parts.Cycles.{Listing, Marked, CycleAt}

-- what `find` over the numbers below n gives
pub lowest_in_range :
    (n : ℕ) (Good Bad : ℕ → Type 0) (o : Option ℕ) →
    MatchOption o ((k : ℕ) → 0 ≤ k → k < n → Good k) (λ i. (0 ≤ i) × (i < n) × Bad i × ((k : ℕ) → 0 ≤ k → k < i → Good k)) →
    LowestIn n Good Bad o
lowest_in_range n Good Bad (Some i) found = let (from, below, bad, before) = found in record { below = below; before = λ k l. before k zero-le l; bad = bad }
lowest_in_range n Good Bad None none = λ k l. none k zero-le l

-- ---- at first

pub unmarked : (n i : ℕ) → get_or (replicate n false) i false ≡ false
unmarked zero i = refl
unmarked (suc n) zero = refl
unmarked (suc n) (suc i) = unmarked n i

not_marked : {A : Type 0} (n i : ℕ) → get_or (replicate n false) i false ≡ true → A
not_marked n i s = absurd (true≢false (sym s ∙ unmarked n i))

pub listing_none : (n : ℕ) (list : List ℕ) → Listing (replicate n false) list 0
listing_none n list =
    record {
      left = length (replicate n false);
      left_counted = counted_all (unmarked n) (length (replicate n false));
      left_end = omega arith;
      listed = λ u s. not_marked n u s;
      list_seen = λ k l. absurd (let no : ⊥ = omega arith in no);
      list_below = λ k l. absurd (let no : ⊥ = omega arith in no);
    }

-- ---- the search

-- from u to v by a path on which a rule stands
abbrev Leads : List ℕ → List ℕ → ℕ → ℕ → Type 0
Leads ss ts u v = (n : ℕ) (ds Ds : List ℤ) → (p : Path (graph_of n ss ts ds Ds) u v) × (0 < steps p)

-- the sources of all rules into the event are marked
abbrev Closed : List ℕ → List ℕ → List Bool → ℕ → Type 0
Closed ss ts seen event = (i : ℕ) → i < length ts → get_or ts i 0 ≡ event → get_or seen (get_or ss i 0) false ≡ true

pub record Searching (ss ts : List ℕ) (v at : ℕ) (seen : List Bool) (list : List ℕ) (end : ℕ) : Type 0 where
  pub within : at ≤ end
  pub listing : Listing seen list end
  pub leads : (u : ℕ) → get_or seen u false ≡ true → Leads ss ts u v
  pub first : Closed ss ts seen v
  pub served : (k : ℕ) → k < at → Closed ss ts seen (get_or list k 0)

module _ (ss ts : List ℕ) (match : length ts ≡ length ss) (v : ℕ) where
  pub searching_start : (n : ℕ) (list₀ : List ℕ) (seen : List Bool) (list : List ℕ) (end : ℕ) → Marked ss ts v (replicate n false) list₀ 0 seen list end → Searching ss ts v 0 seen list end
  searching_start n list₀ seen list end m =
      record {
        within = omega arith;
        listing = m.listing;
        leads = λ u s k ds Ds. ⊎_elim (λ old. not_marked n u old) (λ (i, l, to, from). (step i (omega arith) from to stay, omega arith)) (m.new u s);
        first = m.closed;
        served = λ k l. absurd (let no : ⊥ = omega arith in no);
      }

  module _ (at : ℕ) (seen : List Bool) (list : List ℕ) (end : ℕ) (x : Searching ss ts v at seen list end) where
    pub searching_step : at < end → (seen' : List Bool) (list' : List ℕ) (end' : ℕ) → Marked ss ts (get_or list at 0) seen list end seen' list' end' → Searching ss ts v (at + 1) seen' list' end'
    searching_step l seen' list' end' m =
        record {
          within = omega (arith, m.grown);
          listing = m.listing;
          leads = λ u s k ds Ds. ⊎_elim (λ old. x.leads u old k ds Ds) (λ (i, b, to, from). onward u k ds Ds i b to from) (m.new u s);
          first = λ i b to. m.still (get_or ss i 0) (x.first i b to);
          served = λ k h. gone k (dec_lt k at) h;
        }
      where
        onward : (u k : ℕ) (ds Ds : List ℤ) (i : ℕ) → i < length ts → get_or ts i 0 ≡ get_or list at 0 → get_or ss i 0 ≡ u → (p : Path (graph_of k ss ts ds Ds) u v) × (0 < steps p)
        onward u k ds Ds i b to from =
            let (p, some) = x.leads (get_or list at 0) (x.listing.list_seen at l) k ds Ds in
            (step i (omega arith) from to p, omega arith)

        -- an event that was gone through before has its sources marked still; the one at hand has them marked now
        gone : (k : ℕ) → Dec (k < at) → k < at + 1 → Closed ss ts seen' (get_or list' k 0)
        gone k (yes b) h i c to = m.still (get_or ss i 0) (x.served k b i c (to ∙ m.same_front k (omega arith)))
        gone k (no b) h i c to =
            let last : k ≡ at = omega arith in
            m.closed i c (subst (λ (y : ℕ). get_or ts i 0 ≡ get_or list' y 0) last to ∙ m.same_front at l)

    -- a marked event is the source of a rule
    pub searching_known : at < end → {bound : ℕ} → EndsBelow bound ss → get_or list at 0 < bound
    searching_known l below =
        let (p, some) = x.leads (get_or list at 0) (x.listing.list_seen at l) 0 [] [] in
        leaves_below below.below p some

    -- ---- at the end

    module _ (done : end ≤ at) where
      listed_closed : (u : ℕ) → get_or seen u false ≡ true → Closed ss ts seen u
      listed_closed u s =
          let (k, l, e) = x.listing.listed u s in
          subst (Closed ss ts seen) e (x.served k (omega arith))

      all_seen : {k : ℕ} {ds Ds : List ℤ} {u w : ℕ} (p : Path (graph_of k ss ts ds Ds) u w) → w ≡ v → 0 < steps p → get_or seen u false ≡ true
      all_seen stay e l = absurd (let no : ⊥ = omega arith in no)
      all_seen {k} {ds} {Ds} {u} {w} (step {v = y} i h from to p) e l = by (dec_lt 0 (steps p)) (λ some. all_seen p e some)
        where
          by : Dec (0 < steps p) → (0 < steps p → get_or seen y false ≡ true) → get_or seen u false ≡ true
          by (yes some) seen-there = subst (λ (z : ℕ). get_or seen z false ≡ true) from (listed_closed y (seen-there some) i (omega arith) to)
          by (no none) seen-there =
              let last : y ≡ w = empty_ends p (omega arith) in
              subst (λ (z : ℕ). get_or seen z false ≡ true) from (x.first i (omega arith) (to ∙ last ∙ e))

      pub searching_end : CycleAt ss ts v (get_or seen v false)
      searching_end = record { on = x.leads v; off = λ unseen k ds Ds (p, some). true≢false (sym (all_seen p refl some) ∙ unseen) }
