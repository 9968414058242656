-- The unfolded graph holds the rules of 01's list, which are those of the report's R, cut off at K: nothing is missing, nothing is more, and each is there
-- once for its template and k.
--     SameRule …                                 two rules have equal ends and delays
--     instance_unique                            a template has one instance at one k
--     rules_in_R                                 each rule of 01's list is one of R
--     R-in-rules                                 each rule of R is one of 01's list, where the marks are 0 or 1
--     same_rules                                 both at once
--     instance_enters, rule_enters               an instance at k, and so a rule in row k, leads to occurrence k of its template's target
--     place_of                                   a rule of the unfolding stands in a row
--     rule_at_place                              rule i of the unfolding is the instance of a template at a k below K
--     marks_kept                                 where something unfolds, the marks are 0 or 1
--     InGraph graph u v d D, Listed L graph i    the graph has a rule from u to v with delay [d, D]; its rule i is one of L
--     nothing_missing                            each rule of 01's list is a rule of the graph;       R-nothing-missing     each rule of R is
--     nothing_more                               each rule of the graph is one of 01's list;          R-nothing-more        and one of R
--     EachOnce T K i                             i is the place of one template at one k, and of no other
--     each_once                                  so is the place of every rule
-- 01 lists a rule by the occurrence of its target, the report by that of its source. Assumes nothing.
use mathlib.Core.Path.{◌≡◌, refl, sym, ap, subst, ◌∙◌}
use mathlib.Core.Logic.{◌⊎◌, inl, inr, ◌↔◌}
use Prim.Native.Nat.{ℕ, ◌+◌, ◌*◌, ◌<◌}
use native.Mathlib.Omega.{arith}
use lib.IntN.{ℤ}
use Rattle.graphs.specs.Graph as rule
use Rattle.graphs.specs.Graph.{Graph, rules}
use Rattle.processes.specs.Process.{ProcessGraph, templates, source, target, least, most, mark, start_least, start_most, occurrence, Node, root, at, number, Instance, together, onward, start, Rules, R, instantiated, startup}
use Rattle.processes.specs.Unfolding.{RuleAt, Unfolds}
use Rattle.processes.proofs.Numbers.{places_apart, place_below, Place, place_found}

pub record SameRule (u u' v v' : Node) (d d' D D' : ℤ) : Type 0 where
  pub from : u ≡ u'
  pub to : v ≡ v'
  pub least_delay : d ≡ d'
  pub most_delay : D ≡ D'

instance_marked : {g : ProcessGraph} {k j : ℕ} {u v : Node} {d D : ℤ} → Instance g k j u v d D → (mark g j ≡ 0) ⊎ (mark g j ≡ 1)
instance_marked (together m) = inl m
instance_marked (onward b m e) = inr m
instance_marked (start m e) = inr m

pub instance_unique : {g : ProcessGraph} {k j : ℕ} {u u' v v' : Node} {d d' D D' : ℤ} → Instance g k j u v d D → Instance g k j u' v' d' D' → SameRule u u' v v' d d' D D'
instance_unique (together m) (together m') = record { from = refl; to = refl; least_delay = refl; most_delay = refl }
instance_unique (together m) (onward b m' e) = absurd (let no : ⊥ = omega arith in no)
instance_unique (together m) (start m' e) = absurd (let no : ⊥ = omega arith in no)
instance_unique (onward b m e) (together m') = absurd (let no : ⊥ = omega arith in no)
instance_unique {g} {k} {j} (onward b m e) (onward b' m' e') =
    let same : b ≡ b' = omega arith in
    record { from = ap (λ (x : ℕ). at (occurrence g x (source g j))) same; to = refl; least_delay = refl; most_delay = refl }
instance_unique (onward b m e) (start m' e') = absurd (let no : ⊥ = omega arith in no)
instance_unique (start m e) (together m') = absurd (let no : ⊥ = omega arith in no)
instance_unique (start m e) (onward b m' e') = absurd (let no : ⊥ = omega arith in no)
instance_unique (start m e) (start m' e') = record { from = refl; to = refl; least_delay = refl; most_delay = refl }

-- every instance at k leads to occurrence k of its template's target
pub instance_enters : {g : ProcessGraph} {k j : ℕ} {u v : Node} {d D : ℤ} → Instance g k j u v d D → v ≡ at (occurrence g k (target g j))
instance_enters (together m) = refl
instance_enters (onward b m e) = refl
instance_enters (start m e) = refl

-- ---- 01's list and the report's R

module _ {g : ProcessGraph} {K : ℕ} where
  -- with mark 0 the target's k is the source's, with mark 1 it is the one after; a start rule leads to occurrence 0
  instance_in_R : {k j : ℕ} {u v : Node} {d D : ℤ} → k < K → j < templates g → Instance g k j u v d D → R g K u v d D
  instance_in_R {k} {j} below l (together m) =
      let same : k + mark g j ≡ k = omega arith in
      subst (λ (x : ℕ). R g K (at (occurrence g k (source g j))) (at (occurrence g x (target g j))) (least g j) (most g j)) same (instantiated j k l (omega arith))
  instance_in_R {k} {j} below l (onward b m e) =
      let next : b + mark g j ≡ k = omega arith in
      subst (λ (x : ℕ). R g K (at (occurrence g b (source g j))) (at (occurrence g x (target g j))) (least g j) (most g j)) next (instantiated j b l (omega arith))
  instance_in_R {k} {j} below l (start m e) =
      subst (λ (x : ℕ). R g K root (at (occurrence g x (target g j))) (start_least g j) (start_most g j)) (sym e) (startup j l m (omega arith))

  pub rules_in_R : {u v : Node} {d D : ℤ} → Rules g K u v d D → R g K u v d D
  rules_in_R r = instance_in_R r.k_below r.is_template r.instance

  pub R-in-rules : ((j : ℕ) → j < templates g → (mark g j ≡ 0) ⊎ (mark g j ≡ 1)) → {u v : Node} {d D : ℤ} → R g K u v d D → Rules g K u v d D
  R-in-rules marks (instantiated j k l below) = record { k = k + mark g j; k_below = below; template = j; is_template = l; instance = by (marks j l) }
    where
      from : ℕ → Type 0
      from x = Instance g (k + mark g j) j (at (occurrence g x (source g j))) (at (occurrence g (k + mark g j) (target g j))) (least g j) (most g j)

      by : (mark g j ≡ 0) ⊎ (mark g j ≡ 1) → from k
      by (inl m) = subst from (let same : k + mark g j ≡ k = omega arith in same) (together m)
      by (inr m) = onward k m (omega arith)
  R-in-rules marks (startup j l m some_copy) = record { k = 0; k_below = some_copy; template = j; is_template = l; instance = start m refl }

  pub same_rules : ((j : ℕ) → j < templates g → (mark g j ≡ 0) ⊎ (mark g j ≡ 1)) → (u v : Node) (d D : ℤ) → Rules g K u v d D ↔ R g K u v d D
  same_rules marks u v d D = (rules_in_R, R-in-rules marks)

  some_copy_of : {u v : Node} {d D : ℤ} → R g K u v d D → 0 < K
  some_copy_of (instantiated j k l below) = omega arith
  some_copy_of (startup j l m some_copy) = some_copy

-- ---- the graph

-- one of the graph's rules leads from u to v with delay [d, D]
abbrev pub InGraph : Graph → Node → Node → ℤ → ℤ → Type 0
InGraph graph u v d D =
    (i : ℕ) × (i < rules graph) × (rule.source graph i ≡ number u) × (rule.target graph i ≡ number v) × (rule.least graph i ≡ d) × (rule.most graph i ≡ D)

-- rule i of the graph is one of L
abbrev pub Listed : (Node → Node → ℤ → ℤ → Type 0) → Graph → ℕ → Type 0
Listed L graph i =
    (u : Node) × (v : Node) × (L u v (rule.least graph i) (rule.most graph i)) × (rule.source graph i ≡ number u) × (rule.target graph i ≡ number v)

module _ {g : ProcessGraph} {K : ℕ} {graph : Graph} (unfolds : Unfolds g K graph) where
  pub place_of : (i : ℕ) → i < rules graph → Place (templates g) K i
  place_of i l = place_found (templates g) K i (omega (arith, unfolds.sources_count))

  pub rule_at_place : (i : ℕ) (p : Place (templates g) K i) → RuleAt g p.row p.within graph i
  rule_at_place i p = subst (RuleAt g p.row p.within graph) (sym p.there) (unfolds.each p.row p.within p.row_below p.within_below)

  pub rule_enters : (i : ℕ) (p : Place (templates g) K i) → rule.target graph i ≡ (occurrence g p.row (target g p.within)).0
  rule_enters i p =
      let r = rule_at_place i p in
      r.to_number ∙ ap number (instance_enters r.instance)

  pub nothing_missing : {u v : Node} {d D : ℤ} → Rules g K u v d D → InGraph graph u v d D
  nothing_missing r =
      let at_place = unfolds.each r.k r.template r.k_below r.is_template in
      let same = instance_unique at_place.instance r.instance in
      let below : r.k * templates g + r.template < rules graph = omega (arith, place_below (templates g) K r.k r.template r.k_below r.is_template, unfolds.sources_count) in
      (r.k * templates g + r.template, below, at_place.from_number ∙ ap number same.from, at_place.to_number ∙ ap number same.to, same.least_delay, same.most_delay)

  pub nothing_more : (i : ℕ) → i < rules graph → Listed (Rules g K) graph i
  nothing_more i l =
      let p = place_of i l in
      let r = rule_at_place i p in
      (r.from, r.to, record { k = p.row; k_below = p.row_below; template = p.within; is_template = p.within_below; instance = r.instance }, r.from_number, r.to_number)

  pub marks_kept : 0 < K → (j : ℕ) → j < templates g → (mark g j ≡ 0) ⊎ (mark g j ≡ 1)
  marks_kept some_copy j l = instance_marked (unfolds.each 0 j some_copy l).instance

  pub R-nothing-missing : {u v : Node} {d D : ℤ} → R g K u v d D → InGraph graph u v d D
  R-nothing-missing r = nothing_missing (R-in-rules (marks_kept (some_copy_of r)) r)

  pub R-nothing-more : (i : ℕ) → i < rules graph → Listed (R g K) graph i
  R-nothing-more i l =
      let (u, v, r, from, to) = nothing_more i l in
      (u, v, rules_in_R r, from, to)

pub record EachOnce (T K i : ℕ) : Type 0 where
  pub place : Place T K i
  pub no_other : (k j : ℕ) → j < T → i ≡ k * T + j → (k ≡ place.row) × (j ≡ place.within)

pub each_once : {g : ProcessGraph} {K : ℕ} {graph : Graph} → Unfolds g K graph → (i : ℕ) → i < rules graph → EachOnce (templates g) K i
each_once {g} {K} unfolds i l =
    let p = place_of unfolds i l in
    record { place = p; no_other = λ k j h e. places_apart (templates g) k p.row j p.within h p.within_below (sym e ∙ p.there) }
