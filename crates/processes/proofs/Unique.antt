-- The promise of the unfolding fixes its result: two results allowed for one input are equal, lists included.
--     unfolding_verdict_unique         a process graph has one verdict
--     answered_unique                  two answers to one question are equal
--     answered_exactly                 a refusal is given exactly when its rule says: whatever number and place the verdict allows, the answer has them
--     SameEntries i                    rule i of two event graphs is the same
--     graphs_agree                     two event graphs that are the unfolding of one process graph are equal
--     SameRuleLists, written_unique    what two runs leave in the four lists
--     unfold_unique                    all of it: two results of `unfold` are equal, by their numbers
--     told_by_numbers, unfold_result_unique    the numbers tell the result, so two results of one question are equal
-- Assumes nothing.
use Rattle.std.proofs.Common.{Result, Ok, Err}
use mathlib.Core.Path.{◌≡◌, sym, ap, subst, ◌∙◌}
use mathlib.Core.List.{List}
use Prim.Native.Nat.{ℕ, ◌*◌, ◌<◌}
use native.Mathlib.Decide.{ℕ_discrete}
use native.Mathlib.Omega.{arith}
use lib.IntN.{ℤ, pos}
use lib.Seq.{ext_get_or}
use Rattle.sequences.proofs.Same.{same_parts}
use Rattle.graphs.specs.Graph as rule
use Rattle.graphs.specs.Graph.{Graph}
use Rattle.verdicts.proofs.Verdicts.{one_verdict}
use Rattle.refusals.specs.declared.Refusal.{Refusal}
use Rattle.refusals.proofs.Unique.{same_refusal, some_number}
use Rattle.processes.specs.declared.Unfolding.{Unfolding}
use Rattle.processes.specs.declared.Unfolded.{Unfolded}
use Rattle.processes.specs.Numbers.{unfolded_numbers}
use Rattle.processes.specs.Process.{ProcessGraph, templates, number}
use Rattle.processes.specs.Unfolding.{process_checks, UnfoldingVerdict, Unfolds, UnfoldingAnswered, UnfoldingWritten}
use Rattle.processes.proofs.Numbers.{place_found}
use Rattle.processes.proofs.Exactly.{instance_unique, rule_at_place}
use Rattle.processes.proofs.Refusals.{process_places}

-- ---- the answer

pub unfolding_verdict_unique : {g : ProcessGraph} {K : ℕ} {Short : Type 0} {i p j q : ℕ} → UnfoldingVerdict g K Short i p → UnfoldingVerdict g K Short j q → (i ≡ j) × (p ≡ q)
unfolding_verdict_unique {g} {K} {Short} {i} {p} {j} {q} v w = one_verdict (process_checks g K Short) (process_places g K Short) i p j q v w

pub answered_exactly : {g : ProcessGraph} {K : ℕ} {Short : Type 0} {a : Unfolded} → UnfoldingAnswered g K Short a → {j p : ℕ} → UnfoldingVerdict g K Short j p → (a.refusal ≡ j) × (a.place ≡ p)
answered_exactly x v = unfolding_verdict_unique x.verdict v

-- an answer is its four numbers
same_unfolded : {a b : Unfolded} → a.refusal ≡ b.refusal → a.place ≡ b.place → a.events ≡ b.events → a.rules ≡ b.rules → a ≡ b
same_unfolded e f h k = λ i. record { refusal = e i; place = f i; events = h i; rules = k i }

pub answered_unique : {g : ProcessGraph} {K : ℕ} {Short : Type 0} {a b : Unfolded} → UnfoldingAnswered g K Short a → UnfoldingAnswered g K Short b → a ≡ b
answered_unique {a = a} {b} x y = go (ℕ_discrete a.refusal 0)
  where
    same : (a.refusal ≡ b.refusal) × (a.place ≡ b.place)
    same = unfolding_verdict_unique x.verdict y.verdict

    go : Dec (a.refusal ≡ 0) → a ≡ b
    go (yes e) =
        let f : b.refusal ≡ 0 = sym same.0 ∙ e in
        same_unfolded same.0 same.1 (x.event_count e ∙ sym (y.event_count f)) (x.rule_count e ∙ sym (y.rule_count f))
    go (no n) =
        let m : b.refusal ≡ 0 → ⊥ = λ f. n (same.0 ∙ f) in
        same_unfolded same.0 same.1 (x.no_events n ∙ sym (y.no_events m)) (x.no_rules n ∙ sym (y.no_rules m))

-- ---- the lists

-- rule i of both graphs is the instance of one template at one k, and there is one such instance
module _ {g : ProcessGraph} {K : ℕ} {graph graph' : Graph} (x : Unfolds g K graph) (y : Unfolds g K graph') where
  record SameEntries (i : ℕ) : Type 0 where
    pub source_same : rule.source graph i ≡ rule.source graph' i
    pub target_same : rule.target graph i ≡ rule.target graph' i
    pub least_same : rule.least graph i ≡ rule.least graph' i
    pub most_same : rule.most graph i ≡ rule.most graph' i

  entries_agree : (i : ℕ) → i < templates g * K → SameEntries i
  entries_agree i l =
      let p = place_found (templates g) K i l in
      let r = rule_at_place x i p in
      let r' = rule_at_place y i p in
      let same = instance_unique r.instance r'.instance in
      record {
        source_same = r.from_number ∙ ap number same.from ∙ sym r'.from_number;
        target_same = r.to_number ∙ ap number same.to ∙ sym r'.to_number;
        least_same = same.least_delay;
        most_same = same.most_delay;
      }

  pub graphs_agree : graph ≡ graph'
  graphs_agree =
      let sources : graph.sources ≡ graph'.sources = ext_get_or 0 graph.sources graph'.sources (x.sources_count ∙ sym y.sources_count) (λ i l. (entries_agree i (omega (arith, x.sources_count))).source_same) in
      let targets : graph.targets ≡ graph'.targets = ext_get_or 0 graph.targets graph'.targets (x.targets_count ∙ sym y.targets_count) (λ i l. (entries_agree i (omega (arith, x.targets_count))).target_same) in
      let leasts : graph.leasts ≡ graph'.leasts = ext_get_or (pos 0) graph.leasts graph'.leasts (x.leasts_count ∙ sym y.leasts_count) (λ i l. (entries_agree i (omega (arith, x.leasts_count))).least_same) in
      let mosts : graph.mosts ≡ graph'.mosts = ext_get_or (pos 0) graph.mosts graph'.mosts (x.mosts_count ∙ sym y.mosts_count) (λ i l. (entries_agree i (omega (arith, x.mosts_count))).most_same) in
      let events : graph.events ≡ graph'.events = x.event_count ∙ sym y.event_count in
      λ i. record { events = events i; sources = sources i; targets = targets i; leasts = leasts i; mosts = mosts i }

pub record SameRuleLists (ss ss' ts ts' : List ℕ) (ds ds' Ds Ds' : List ℤ) : Type 0 where
  pub sources : ss ≡ ss'
  pub targets : ts ≡ ts'
  pub leasts : ds ≡ ds'
  pub mosts : Ds ≡ Ds'

pub written_unique : {g : ProcessGraph} {K : ℕ} {a : Unfolded} {ss₀ ts₀ : List ℕ} {ds₀ Ds₀ : List ℤ} {ss ss' ts ts' : List ℕ} {ds ds' Ds Ds' : List ℤ}
    → UnfoldingWritten g K a ss₀ ts₀ ds₀ Ds₀ ss ts ds Ds → UnfoldingWritten g K a ss₀ ts₀ ds₀ Ds₀ ss' ts' ds' Ds'
    → SameRuleLists ss ss' ts ts' ds ds' Ds Ds'
written_unique {g} {K} {a} {ss = ss} {ss'} {ts} {ts'} {ds} {ds'} {Ds} {Ds'} w w' = go (ℕ_discrete a.refusal 0)
  where
    go : Dec (a.refusal ≡ 0) → SameRuleLists ss ss' ts ts' ds ds' Ds Ds'
    go (yes e) =
        let graphs = graphs_agree (w.unfolds e) (w'.unfolds e) in
        record {
          sources = same_parts (templates g * K) ss ss' (ap (λ (h : Graph). h.sources) graphs) (w.sources_beyond e ∙ sym (w'.sources_beyond e));
          targets = same_parts (templates g * K) ts ts' (ap (λ (h : Graph). h.targets) graphs) (w.targets_beyond e ∙ sym (w'.targets_beyond e));
          leasts = same_parts (templates g * K) ds ds' (ap (λ (h : Graph). h.leasts) graphs) (w.leasts_beyond e ∙ sym (w'.leasts_beyond e));
          mosts = same_parts (templates g * K) Ds Ds' (ap (λ (h : Graph). h.mosts) graphs) (w.mosts_beyond e ∙ sym (w'.mosts_beyond e));
        }
    go (no n) =
        record {
          sources = w.sources_kept n ∙ sym (w'.sources_kept n);
          targets = w.targets_kept n ∙ sym (w'.targets_kept n);
          leasts = w.leasts_kept n ∙ sym (w'.leasts_kept n);
          mosts = w.mosts_kept n ∙ sym (w'.mosts_kept n);
        }

pub unfold_unique : {g : ProcessGraph} {K : ℕ} {Short : Type 0} {a b : Unfolded} {ss₀ ts₀ : List ℕ} {ds₀ Ds₀ : List ℤ} {ss ss' ts ts' : List ℕ} {ds ds' Ds Ds' : List ℤ}
    → UnfoldingAnswered g K Short a → UnfoldingWritten g K a ss₀ ts₀ ds₀ Ds₀ ss ts ds Ds
    → UnfoldingAnswered g K Short b → UnfoldingWritten g K b ss₀ ts₀ ds₀ Ds₀ ss' ts' ds' Ds'
    → (a ≡ b) × (SameRuleLists ss ss' ts ts' ds ds' Ds Ds')
unfold_unique {g} {K} {ss₀ = ss₀} {ts₀} {ds₀} {Ds₀} {ss' = ss'} {ts' = ts'} {ds' = ds'} {Ds' = Ds'} pa wa pb wb =
    let same = answered_unique pa pb in
    let w = subst (λ (x : Unfolded). UnfoldingWritten g K x ss₀ ts₀ ds₀ Ds₀ ss' ts' ds' Ds') (sym same) wb in
    (same, written_unique wa w)

-- ---- results

-- the numbers of a result tell the result
pub told_by_numbers : (x y : Result Unfolding Refusal) → unfolded_numbers x ≡ unfolded_numbers y → x ≡ y
told_by_numbers (Ok x) (Ok y) e = ap Ok (λ i. record { events = (e i).events; rules = (e i).rules })
told_by_numbers (Ok x) (Err r) e = absurd (some_number r (λ i. (sym e i).refusal))
told_by_numbers (Err r) (Ok y) e = absurd (some_number r (λ i. (e i).refusal))
told_by_numbers (Err r) (Err q) e = ap Err (same_refusal r q (λ i. (e i).refusal) (λ i. (e i).place))

pub unfold_result_unique : {g : ProcessGraph} {K : ℕ} {Short : Type 0} (x y : Result Unfolding Refusal) {ss₀ ts₀ : List ℕ} {ds₀ Ds₀ : List ℤ} {ss ss' ts ts' : List ℕ} {ds ds' Ds Ds' : List ℤ}
    → UnfoldingAnswered g K Short (unfolded_numbers x) → UnfoldingWritten g K (unfolded_numbers x) ss₀ ts₀ ds₀ Ds₀ ss ts ds Ds
    → UnfoldingAnswered g K Short (unfolded_numbers y) → UnfoldingWritten g K (unfolded_numbers y) ss₀ ts₀ ds₀ Ds₀ ss' ts' ds' Ds'
    → (x ≡ y) × (SameRuleLists ss ss' ts ts' ds ds' Ds Ds')
unfold_result_unique x y px wx py wy =
    let (same, lists) = unfold_unique px wx py wy in
    (told_by_numbers x y same, lists)
