-- The graph unfolded in full is the unfolding, and there is no other.
--     listed_length, listed_at     the list f 0, …, f (n − 1) has n entries, and entry i is f i
--     row_found                    rule k × T + j stands in row k, at place j
--     full_unfolds                 the graph unfolded in full unfolds, where the marks are 0 or 1
--     unfolding_unique             two graphs that unfold one process graph are equal: the crate processes proves it, proofs/Unique.antt
-- Assumes nothing.
use mathlib.Core.Path.{◌≡◌, refl, sym, ap, subst, ◌∙◌}
use mathlib.Core.Logic.{◌⊎◌, inl, inr}
use Prim.Native.Nat.{ℕ, zero, suc, ◌+◌, ◌*◌, ◌/◌, ◌%◌, ◌<◌}
use native.Mathlib.Nat.{not-suc-le-zero, le_of_suc-le-suc, mod-lt, div-add-mod'}
use native.Mathlib.Omega.{arith}
use lib.IntN.{ℤ, pos}
use lib.ListN.{length, get_or}
use Rattle.graphs.specs.Graph as rule
use Rattle.graphs.specs.Graph.{Graph}
use Rattle.processes.specs.Parts.Checks.{MarkKept}
use Rattle.processes.specs.Process.{templates, source, target, least, most, mark, occurrence, Node, root, at, number, ProcessGraph, start_least, start_most, Instance, together, onward, start}
use Rattle.processes.proofs.Numbers.{places_apart, place_below}
use Rattle.processes.proofs.Unique.{graphs_agree}
use Rattle.levels.specs.Full.{listed, source_at, delay_at, source_of, target_of, least_of, most_of, full_unfolding}
use Rattle.processes.specs.Unfolding.{RuleAt, Unfolds}

-- ---- lists

pub listed_length : {A : Type 0} (n : ℕ) (f : ℕ → A) → length (listed n f) ≡ n
listed_length zero f = refl
listed_length (suc n) f = ap suc (listed_length n (λ i. f (suc i)))

pub listed_at : {A : Type 0} (n i : ℕ) (f : ℕ → A) (d : A) → i < n → get_or (listed n f) i d ≡ f i
listed_at zero i f d l = absurd (not-suc-le-zero l)
listed_at (suc n) zero f d l = refl
listed_at (suc n) (suc i) f d l = listed_at n i (λ i. f (suc i)) d (le_of_suc-le-suc l)

pub row_found : (T k j : ℕ) → j < T → ((k * T + j) / T ≡ k) × ((k * T + j) % T ≡ j)
row_found T k j l =
    let i : ℕ = k * T + j in
    places_apart T (i / T) k (i % T) j (mod-lt i (omega arith)) l (div-add-mod' i T)

-- ---- the graph

-- a node and delays that a template with mark m gives at k, by cases
record Entry (g : ProcessGraph) (k j s t : ℕ) (d D : ℤ) : Type 0 where
  from : Node
  to : Node
  from_number : s ≡ number from
  to_number : t ≡ number to
  instance : Instance g k j from to d D

not_zero : (m : ℕ) → (suc m ≡ 0) ⊎ (suc m ≡ 1) → suc m ≡ 1
not_zero m (inl e) = absurd (let none : ⊥ = omega arith in none)
not_zero m (inr e) = e

module _ (g : ProcessGraph) (j : ℕ) where
  entry_at : (m k : ℕ) → mark g j ≡ m → (m ≡ 0) ⊎ (m ≡ 1)
      → Entry g k j
      (source_at g.events m k (source g j).0)
      (occurrence g k (target g j)).0
      (delay_at m k (start_least g j) (least g j))
      (delay_at m k (start_most g j) (most g j))
  entry_at zero k e which =
      record {
        from = at (occurrence g k (source g j));
        to = at (occurrence g k (target g j));
        from_number = refl;
        to_number = refl;
        instance = together e;
      }
  entry_at (suc m) zero e which =
      record {
        from = root;
        to = at (occurrence g 0 (target g j));
        from_number = refl;
        to_number = refl;
        instance = start (e ∙ not_zero m which) refl;
      }
  entry_at (suc m) (suc k) e which =
      record {
        from = at (occurrence g k (source g j));
        to = at (occurrence g (suc k) (target g j));
        from_number = refl;
        to_number = refl;
        instance = onward k (e ∙ not_zero m which) refl;
      }

module _ (g : ProcessGraph) (K : ℕ) (marks : (j : ℕ) → j < templates g → MarkKept g.marks j) where
  -- the entries of rule i, in its row and at its place there
  rule_found : (i : ℕ) → i < templates g * K → i % templates g < templates g
      → RuleAt g (i / templates g) (i % templates g) (full_unfolding g K) i
  rule_found i l below =
      let T : ℕ = templates g in
      let e : Entry g (i / T) (i % T) (source_of g i) (target_of g i) (least_of g i) (most_of g i) =
      entry_at g (i % T) (mark g (i % T)) (i / T) refl (marks (i % T) below) in
      let least_at : rule.least (full_unfolding g K) i ≡ least_of g i = listed_at (T * K) i (least_of g) (pos 0) l in
      let most_at : rule.most (full_unfolding g K) i ≡ most_of g i = listed_at (T * K) i (most_of g) (pos 0) l in
      record {
        from = e.from;
        to = e.to;
        from_number = listed_at (T * K) i (source_of g) 0 l ∙ e.from_number;
        to_number = listed_at (T * K) i (target_of g) 0 l ∙ e.to_number;
        instance =
            subst (λ (d : ℤ). Instance g (i / T) (i % T) e.from e.to d (rule.most (full_unfolding g K) i)) (sym least_at)
            (subst (Instance g (i / T) (i % T) e.from e.to (least_of g i)) (sym most_at) e.instance);
      }

  pub full_unfolds : Unfolds g K (full_unfolding g K)
  full_unfolds =
      let T : ℕ = templates g in
      record {
        event_count = refl;
        sources_count = listed_length (T * K) (source_of g);
        targets_count = listed_length (T * K) (target_of g);
        leasts_count = listed_length (T * K) (least_of g);
        mosts_count = listed_length (T * K) (most_of g);
        each = λ k j below l.
            let (row, place) = row_found T k j l in
            let i : ℕ = k * T + j in
            subst (λ (x : ℕ). RuleAt g x j (full_unfolding g K) i) row
            (subst (λ (x : ℕ). RuleAt g (i / T) x (full_unfolding g K) i) place (rule_found i (place_below T K k j below l) (mod-lt i (omega arith))));
      }

-- ---- there is no other

pub unfolding_unique : {g : ProcessGraph} {K : ℕ} {graph graph' : Graph} → Unfolds g K graph → Unfolds g K graph' → graph ≡ graph'
unfolding_unique = graphs_agree
