-- The loop that writes the rules, one place a turn.
--     rule_at                         a place that holds the four numbers of a template's rule holds its instance
--     same_rule                       a place that is left alone holds what it held
--     RulesWriting g K … i            the places before i are written, those from templates × K on are untouched
--     writing_none                    before the first turn
--     writing_more                    a turn writes place i = k × templates + j
--     writing_done                    after the last turn all rules are written
--     lists_written                   what `unfold` promises of the lists
-- Assumes nothing.
use mathlib.Core.Path.{◌≡◌, refl, sym, ◌∙◌, subst, subst₂}
use mathlib.Core.Logic.{inl, inr}
use mathlib.Core.List.{List}
use Prim.Native.Nat.{ℕ, suc, ◌+◌, ◌*◌, ◌-◌, ◌<◌, ◌≤◌}
use native.Mathlib.Decide.{dec_lt, ℕ_discrete}
use native.Mathlib.Omega.{arith}
use lib.IntN.{ℤ, pos}
use lib.ListN.{length, get_or, take, drop, set, length-set}
use lib.Seq.{get_or-set_same, get_or-set_other, drop-set-lt, get_or-take, length-take-le}
use Rattle.graphs.specs.Graph as rule
use Rattle.graphs.specs.Graph.{Graph, graph_of}
use Rattle.processes.specs.declared.Unfolded.{Unfolded}
use Rattle.processes.specs.Process.{ProcessGraph, templates, source, target, least, most, mark, start_least, start_most, occurrence, root, at, Instance, together, onward, start}
use Rattle.processes.specs.Unfolding.{RuleAt, Unfolds, UnfoldingWritten}
use Rattle.processes.specs.Parts.Checks.{MarkKept}
use Rattle.processes.specs.Parts.Writing.{InstanceSource, InstanceDelay, InstanceRule, InstancesWritten}
use Rattle.processes.proofs.Numbers.{places_apart, place_below}

module _ {g : ProcessGraph} {k j : ℕ} where
  -- by the three cases of 01
  pub rule_at : (G : Graph) (i : ℕ) →
      InstanceSource g.events k (mark g j) (source g j).0 (rule.source G i) →
      rule.target G i ≡ (occurrence g k (target g j)).0 →
      InstanceDelay k (mark g j) (least g j) (start_least g j) (rule.least G i) →
      InstanceDelay k (mark g j) (most g j) (start_most g j) (rule.most G i) →
      MarkKept g.marks j →
      RuleAt g k j G i
  rule_at G i s t d D (inl e) =
      record {
        from = at (occurrence g k (source g j));
        to = at (occurrence g k (target g j));
        from_number = s.together e;
        to_number = t;
        instance = subst₂ (Instance g k j (at (occurrence g k (source g j))) (at (occurrence g k (target g j)))) (sym (d.together e)) (sym (D.together e)) (together e);
      }
  rule_at G i s t d D (inr e) = go (ℕ_discrete k 0)
    where
      go : Dec (k ≡ 0) → RuleAt g k j G i
      go (yes z) =
          record {
            from = root;
            to = at (occurrence g k (target g j));
            from_number = s.start e z;
            to_number = t;
            instance = subst₂ (Instance g k j root (at (occurrence g k (target g j)))) (sym (d.start e z)) (sym (D.start e z)) (start e z);
          }
      go (no z) =
          let b : k ≡ suc (k - 1) = omega arith in
          record {
            from = at (occurrence g (k - 1) (source g j));
            to = at (occurrence g k (target g j));
            from_number = s.onward (k - 1) e b;
            to_number = t;
            instance = subst₂ (Instance g k j (at (occurrence g (k - 1) (source g j))) (at (occurrence g k (target g j)))) (sym (d.onward (k - 1) e b)) (sym (D.onward (k - 1) e b)) (onward (k - 1) e b);
          }

  pub same_rule : (G G' : Graph) (i : ℕ) →
      rule.source G' i ≡ rule.source G i →
      rule.target G' i ≡ rule.target G i →
      rule.least G' i ≡ rule.least G i →
      rule.most G' i ≡ rule.most G i →
      RuleAt g k j G i →
      RuleAt g k j G' i
  same_rule G G' i s t d D r =
      record {
        from = r.from;
        to = r.to;
        from_number = s ∙ r.from_number;
        to_number = t ∙ r.to_number;
        instance = subst₂ (Instance g k j r.from r.to) (sym d) (sym D) r.instance;
      }

pub record RulesWriting (g : ProcessGraph) (K : ℕ) (ss₀ ts₀ : List ℕ) (ds₀ Ds₀ : List ℤ) (ss ts : List ℕ) (ds Ds : List ℤ) (i : ℕ) : Type 0 where
  pub each : (k j : ℕ) → j < templates g → k * templates g + j < i → RuleAt g k j (graph_of (1 + g.events * K) ss ts ds Ds) (k * templates g + j)
  pub sources_beyond : drop (templates g * K) ss ≡ drop (templates g * K) ss₀
  pub targets_beyond : drop (templates g * K) ts ≡ drop (templates g * K) ts₀
  pub leasts_beyond : drop (templates g * K) ds ≡ drop (templates g * K) ds₀
  pub mosts_beyond : drop (templates g * K) Ds ≡ drop (templates g * K) Ds₀
  pub sources_length : length ss ≡ length ss₀
  pub targets_length : length ts ≡ length ts₀
  pub leasts_length : length ds ≡ length ds₀
  pub mosts_length : length Ds ≡ length Ds₀

module _ {A : Type 0} (l : List A) (i : ℕ) (x : A) where
  put_other : (d : A) (m : ℕ) → m < i → get_or (set l i x) m d ≡ get_or l m d
  put_other d m h = get_or-set_other l i m x d (λ same. let z : ⊥ = omega arith in z)

  put_beyond : (n : ℕ) (old : List A) → i < n → drop n l ≡ drop n old → drop n (set l i x) ≡ drop n old
  put_beyond n old h same = drop-set-lt n l i x h ∙ same

  put_length : (old : List A) → length l ≡ length old → length (set l i x) ≡ length old
  put_length old same = length-set l i x ∙ same

-- a place is one copy's and one template's
moved : {g : ProcessGraph} {G : Graph} {k j i : ℕ} (k' j' : ℕ) → k' ≡ k → j' ≡ j → k' * templates g + j' ≡ i → RuleAt g k j G i → RuleAt g k' j' G (k' * templates g + j')
moved {g} {G} {k} {j} {i} k' j' ek ej ei r =
    subst (λ (x : ℕ). RuleAt g k' j' G x) (sym ei)
    (subst (λ (x : ℕ). RuleAt g x j' G i) (sym ek) (subst (λ (x : ℕ). RuleAt g k x G i) (sym ej) r))

module _ {g : ProcessGraph} {K : ℕ} {ss₀ ts₀ : List ℕ} {ds₀ Ds₀ : List ℤ} where
  pub writing_none : RulesWriting g K ss₀ ts₀ ds₀ Ds₀ ss₀ ts₀ ds₀ Ds₀ 0
  writing_none =
      record {
        each = λ k j l h. absurd (let z : ⊥ = omega arith in z);
        sources_beyond = refl;
        targets_beyond = refl;
        leasts_beyond = refl;
        mosts_beyond = refl;
        sources_length = refl;
        targets_length = refl;
        leasts_length = refl;
        mosts_length = refl;
      }

  module _ (room : (templates g * K ≤ length ss₀) × (templates g * K ≤ length ts₀) × (templates g * K ≤ length ds₀) × (templates g * K ≤ length Ds₀)) {ss ts : List ℕ} {ds Ds : List ℤ} {i k j s t : ℕ} {d D : ℤ} where
    -- the place that the turn writes
    written_here : RulesWriting g K ss₀ ts₀ ds₀ Ds₀ ss ts ds Ds i → i < templates g * K →
        InstanceRule g k j s t d D →
        MarkKept g.marks j →
        RuleAt g k j (graph_of (1 + g.events * K) (set ss i s) (set ts i t) (set ds i d) (set Ds i D)) i
    written_here w l r m =
        rule_at
        (graph_of (1 + g.events * K) (set ss i s) (set ts i t) (set ds i d) (set Ds i D))
        i
        (subst (InstanceSource g.events k (mark g j) (source g j).0) (sym (get_or-set_same ss i s 0 (omega (arith, w.sources_length)))) r.source_at)
        (get_or-set_same ts i t 0 (omega (arith, w.targets_length)) ∙ r.target_at)
        (subst (InstanceDelay k (mark g j) (least g j) (start_least g j)) (sym (get_or-set_same ds i d (pos 0) (omega (arith, w.leasts_length)))) r.least_at)
        (subst (InstanceDelay k (mark g j) (most g j) (start_most g j)) (sym (get_or-set_same Ds i D (pos 0) (omega (arith, w.mosts_length)))) r.most_at)
        m

    pub writing_more : RulesWriting g K ss₀ ts₀ ds₀ Ds₀ ss ts ds Ds i →
        i ≡ k * templates g + j →
        k < K →
        j < templates g →
        InstanceRule g k j s t d D →
        MarkKept g.marks j →
        RulesWriting g K ss₀ ts₀ ds₀ Ds₀ (set ss i s) (set ts i t) (set ds i d) (set Ds i D) (k * templates g + (j + 1))
    writing_more w e lk lj r m =
        record {
          each = each;
          sources_beyond = put_beyond ss i s _ ss₀ l w.sources_beyond;
          targets_beyond = put_beyond ts i t _ ts₀ l w.targets_beyond;
          leasts_beyond = put_beyond ds i d _ ds₀ l w.leasts_beyond;
          mosts_beyond = put_beyond Ds i D _ Ds₀ l w.mosts_beyond;
          sources_length = put_length ss i s ss₀ w.sources_length;
          targets_length = put_length ts i t ts₀ w.targets_length;
          leasts_length = put_length ds i d ds₀ w.leasts_length;
          mosts_length = put_length Ds i D Ds₀ w.mosts_length;
        }
      where
        l : i < templates g * K
        l = omega (arith, place_below (templates g) K k j lk lj)

        after : Graph
        after = graph_of (1 + g.events * K) (set ss i s) (set ts i t) (set ds i d) (set Ds i D)

        each : (k' j' : ℕ) → j' < templates g → k' * templates g + j' < k * templates g + (j + 1) → RuleAt g k' j' after (k' * templates g + j')
        each k' j' l' b = go (dec_lt (k' * templates g + j') i)
          where
            go : Dec (k' * templates g + j' < i) → RuleAt g k' j' after (k' * templates g + j')
            go (yes y) =
                same_rule
                (graph_of (1 + g.events * K) ss ts ds Ds)
                after
                (k' * templates g + j')
                (put_other ss i s 0 _ y)
                (put_other ts i t 0 _ y)
                (put_other ds i d (pos 0) _ y)
                (put_other Ds i D (pos 0) _ y)
                (w.each k' j' l' y)
            go (no n) =
                let here : k' * templates g + j' ≡ i = omega arith in
                let (ek, ej) = places_apart (templates g) k' k j' j l' lj (here ∙ e) in
                moved k' j' ek ej here (written_here w l r m)

  pub writing_done : {ss ts : List ℕ} {ds Ds : List ℤ} {i : ℕ} → RulesWriting g K ss₀ ts₀ ds₀ Ds₀ ss ts ds Ds i → templates g * K ≤ i → InstancesWritten g K ss₀ ts₀ ds₀ Ds₀ ss ts ds Ds
  writing_done w l =
      record {
        each = λ k j lk lj. w.each k j lj (omega (arith, place_below (templates g) K k j lk lj));
        sources_beyond = w.sources_beyond;
        targets_beyond = w.targets_beyond;
        leasts_beyond = w.leasts_beyond;
        mosts_beyond = w.mosts_beyond;
        lengths_kept = (w.sources_length, w.targets_length, w.leasts_length, w.mosts_length);
      }

  -- ---- what unfold promises of the lists

  module _ (room : (templates g * K ≤ length ss₀) × (templates g * K ≤ length ts₀) × (templates g * K ≤ length ds₀) × (templates g * K ≤ length Ds₀)) {ss ts : List ℕ} {ds Ds : List ℤ} where
    unfolded : InstancesWritten g K ss₀ ts₀ ds₀ Ds₀ ss ts ds Ds →
        Unfolds g K (graph_of (1 + g.events * K) (take (templates g * K) ss) (take (templates g * K) ts) (take (templates g * K) ds) (take (templates g * K) Ds))
    unfolded w =
        record {
          event_count = refl;
          sources_count = length-take-le _ ss (omega (arith, w.lengths_kept.0));
          targets_count = length-take-le _ ts (omega (arith, w.lengths_kept.1));
          leasts_count = length-take-le _ ds (omega (arith, w.lengths_kept.2));
          mosts_count = length-take-le _ Ds (omega (arith, w.lengths_kept.3));
          each =
              λ k j lk lj.
              let b : k * templates g + j < templates g * K = place_below (templates g) K k j lk lj in
              same_rule
              (graph_of (1 + g.events * K) ss ts ds Ds)
              (graph_of (1 + g.events * K) (take (templates g * K) ss) (take (templates g * K) ts) (take (templates g * K) ds) (take (templates g * K) Ds))
              (k * templates g + j)
              (get_or-take _ ss _ 0 b)
              (get_or-take _ ts _ 0 b)
              (get_or-take _ ds _ (pos 0) b)
              (get_or-take _ Ds _ (pos 0) b)
              (w.each k j lk lj);
        }

    pub lists_written : {a : Unfolded} → a.refusal ≡ 0 → InstancesWritten g K ss₀ ts₀ ds₀ Ds₀ ss ts ds Ds → UnfoldingWritten g K a ss₀ ts₀ ds₀ Ds₀ ss ts ds Ds
    lists_written z w =
        record {
          unfolds = λ _. unfolded w;
          sources_beyond = λ _. w.sources_beyond;
          targets_beyond = λ _. w.targets_beyond;
          leasts_beyond = λ _. w.leasts_beyond;
          mosts_beyond = λ _. w.mosts_beyond;
          sources_kept = λ n. absurd (n z);
          targets_kept = λ n. absurd (n z);
          leasts_kept = λ n. absurd (n z);
          mosts_kept = λ n. absurd (n z);
          lengths_kept = w.lengths_kept;
        }
