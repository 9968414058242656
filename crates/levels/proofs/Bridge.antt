-- The bridge: paths of the unfolding from one occurrence to another are ways of the process graph, with the same delays and caps.
--     Levels g cap c l       caps by event and crossings left, and caps by number: c d x is the cap of occurrence k of x, where k + d is l
--     Walked, Wayed          a path that has a way's sum and pair, and a way that has a path's
--     way_path               a way of d crossings is a path from occurrence k of u to occurrence k + d of v, with its sum and its pair
--     path_way               and back
--     start_pair, StartWay, root_path, root_way   a path from the root is a start rule and then a way, with its pair
--     way_m, m_way, way_cap, cap_way   so m and cap of an occurrence are those at its distance from the occurrence of s
--     way_closes             and a set closes the pairs of its paths exactly where it closes those of its ways
-- No path leads to a lesser occurrence: `no_path_back` of Folds.antt. A long run needs no bridge, since its sweep goes by the rules out of each occurrence; a
-- guard for ever (request 14) does. Assumes nothing.
use mathlib.Core.Path.{◌≡◌, refl, sym, ap, subst, ◌∙◌}
use mathlib.Core.Logic.{◌⊎◌, inl, inr, ◌↔◌}
use mathlib.Core.List.{List}
use Prim.Native.Nat.{ℕ, suc, ◌+◌, ◌*◌, ◌<◌, ◌≤◌}
use native.Mathlib.Omega.{arith}
use lib.IntN.{ℤ, pos, neg_ℤ, ◌+ℤ◌}
use lib.Signed.{◌≤ℤ◌}
use Rattle.graphs.specs.Graph as rule
use Rattle.graphs.specs.Graph.{Graph}
use Rattle.graphs.specs.Path.{Path, stay, step, least_sum}
use Rattle.executions.specs.Steps.{M}
use Rattle.sets.specs.Limit.{Limit, number, unlimited}
use Rattle.sets.specs.Pair.{Pair, pair, compose, unit}
use Rattle.sets.specs.Family.{Closes}
use Rattle.sets.proofs.Operations.{cover_more}
use Rattle.paths.specs.Cap as cap-of
use Rattle.paths.specs.Cap.{CapOf}
use Rattle.paths.specs.PathPair.{rule_pair, path_pair, PathPairs}
use Rattle.processes.specs.declared.Event.{Event}
use Rattle.processes.specs.Parts.Checks.{MarkKept}
use Rattle.processes.specs.Process.{templates, source, target, least, most, mark, occurrence, ProcessGraph, start_least, start_most}
use Rattle.processes.proofs.Occurrences.{event_same, numbers_apart, never_root, occurrence_below}
use Rattle.levels.specs.Parts.Turns.{ahead, start_ahead}
use Rattle.levels.specs.Parts.Ways.{Way, nothing, within, across, way_least, way_pair, WayM, WayCap, at_m, no_m, WayPairs}
use Rattle.levels.proofs.Sound.{Fit}
use Rattle.levels.proofs.Outgoing.{IsRule, OfTemplate, Given, occurrence_rules, root_rules}
use Rattle.processes.specs.Unfolding.{Unfolds}

-- caps by event and crossings left to level l
pub record Levels (g : ProcessGraph) (cap : ℕ → Limit) (c : ℕ → Event → Limit) (l : ℕ) : Type 0 where
  pub level : (k d : ℕ) (x : Event) → x.0 < g.events → k + d ≡ l → cap (occurrence g k x).0 ≡ c d x

-- the pair of template j, with d crossings left at its end
abbrev template_pair : ProcessGraph → (ℕ → Event → Limit) → ℕ → ℕ → Pair
template_pair g c d j = pair (number (most g j)) (c d (target g j))

-- a path that has a way's sum and pair
pub record Walked (graph : Graph) (cap : ℕ → Limit) (x y : ℕ) (low : ℤ) (q : Pair) : Type 0 where
  pub path : Path graph x y
  pub sum_same : least_sum path ≡ low
  pub pair_same : path_pair cap path ≡ q

-- a way that has a path's sum and pair
pub record Wayed (g : ProcessGraph) (c : ℕ → Event → Limit) (k l : ℕ) (u v : Event) (low : ℤ) (q : Pair) : Type 0 where
  pub crossings : ℕ
  pub there : k + crossings ≡ l
  pub way : Way g crossings u v
  pub sum_same : way_least way ≡ low
  pub pair_same : way_pair c way ≡ q

module _ {g : ProcessGraph} {K : ℕ} {graph : Graph} (fit : Fit g) (unfolds : Unfolds g K graph)
    {cap : ℕ → Limit} {c : ℕ → Event → Limit} {l : ℕ} (levels : Levels g cap c l) (below : l < K) where
  -- one template more in front of a path
  in_front : {y : ℕ} {low : ℤ} {q : Pair} (k d j : ℕ) → j < templates g → (k + mark g j) + d ≡ l
      → Walked graph cap (ahead g k j) y low q
      → Walked graph cap (occurrence g k (source g j)).0 y (least g j +ℤ low) (compose (template_pair g c d j) q)
  in_front {y} {low} {q} k d j is_template there rest =
      by ((occurrence_rules fit unfolds k (source g j) (fit.each.ends j is_template).source_known).back j is_template refl)
    where
      known : ahead g k j < 1 + g.events * K
      known = occurrence_below g K (k + mark g j) (target g j) (fit.each.ends j is_template).target_known (omega arith)

      by : Given graph (occurrence g k (source g j)).0 (ahead g k j) (least g j) (most g j) ⊎ (graph.events ≤ ahead g k j)
          → Walked graph cap (occurrence g k (source g j)).0 y (least g j +ℤ low) (compose (template_pair g c d j) q)
      by (inl (i, is_rule, leaves, is)) =
          let own : rule_pair graph cap i ≡ template_pair g c d j =
          ap (λ (x : ℕ). pair (number (rule.most graph i)) (cap x)) is.enters
          ∙ ap (λ (x : ℤ). pair (number x) (cap (ahead g k j))) is.most_is
          ∙ ap (λ (x : Limit). pair (number (most g j)) x)
          (levels.level (k + mark g j) d (target g j) (fit.each.ends j is_template).target_known there) in
          record {
            path = step i is_rule leaves is.enters rest.path;
            sum_same = ap (λ (x : ℤ). x +ℤ least_sum rest.path) is.least_is ∙ ap (λ (x : ℤ). least g j +ℤ x) rest.sum_same;
            pair_same = ap (λ (x : Pair). compose x (path_pair cap rest.path)) own ∙ ap (compose (template_pair g c d j)) rest.pair_same;
          }
      by (inr outside) = absurd (let no : ⊥ = omega (arith, known, outside, unfolds.event_count) in no)

  -- a path from an occurrence whose k has two names
  moved : (x : Event) {k k' y : ℕ} {low : ℤ} {q : Pair} → k ≡ k' → Walked graph cap (occurrence g k x).0 y low q
      → Walked graph cap (occurrence g k' x).0 y low q
  moved x {y = y} {low} {q} e = subst (λ (k : ℕ). Walked graph cap (occurrence g k x).0 y low q) e

  pub way_path : (k : ℕ) {d : ℕ} {u v : Event} (w : Way g d u v) → k + d ≡ l
      → Walked graph cap (occurrence g k u).0 (occurrence g l v).0 (way_least w) (way_pair c w)
  way_path k {d} {u} {v} nothing e =
      subst (λ (x : ℕ). Walked graph cap (occurrence g k v).0 (occurrence g x v).0 (pos 0) unit) (let same : k ≡ l = omega arith in same)
      (record { path = stay; sum_same = refl; pair_same = refl })
  way_path k {d} {u} {v} (within j is_template m from w) e =
      let same : k ≡ k + mark g j = omega arith in
      subst
      (λ (x : Event).
      Walked graph cap (occurrence g k x).0 (occurrence g l v).0 (least g j +ℤ way_least w)
      (compose (template_pair g c d j) (way_pair c w)))
      from
      (in_front k d j is_template (omega arith)
      (moved (target g j) same (way_path k w e)))
  way_path k {u = u} {v} (across {d} j is_template m from w) e =
      let same : suc k ≡ k + mark g j = omega arith in
      subst
      (λ (x : Event).
      Walked graph cap (occurrence g k x).0 (occurrence g l v).0 (least g j +ℤ way_least w)
      (compose (template_pair g c d j) (way_pair c w)))
      from
      (in_front k d j is_template (omega arith)
      (moved (target g j) same (way_path (suc k) w (omega arith))))

  -- ---- and back

  first_way : (k : ℕ) {j : ℕ} {u v : Event} {low : ℤ} {q : Pair} → j < templates g → source g j ≡ u → MarkKept g.marks j
      → Wayed g c (k + mark g j) l (target g j) v low q
      → (e : ℕ) × Wayed g c k l u v (least g j +ℤ low) (compose (template_pair g c e j) q) × ((k + mark g j) + e ≡ l)
  first_way k {j} is_template from (inl m) rest = (
    rest.crossings,
    record {
      crossings = rest.crossings;
      there = let h = rest.there in omega (arith, h, m);
      way = within j is_template m from rest.way;
      sum_same = ap (λ (x : ℤ). least g j +ℤ x) rest.sum_same;
      pair_same = ap (compose (template_pair g c rest.crossings j)) rest.pair_same;
    },
    rest.there,
  )
  first_way k {j} is_template from (inr m) rest = (
    rest.crossings,
    record {
      crossings = suc rest.crossings;
      there = let h = rest.there in omega (arith, h, m);
      way = across j is_template m from rest.way;
      sum_same = ap (λ (x : ℤ). least g j +ℤ x) rest.sum_same;
      pair_same = ap (compose (template_pair g c rest.crossings j)) rest.pair_same;
    },
    rest.there,
  )

  pub path_way : {x y : ℕ} (p : Path graph x y) (k : ℕ) (u v : Event) → u.0 < g.events → v.0 < g.events
      → x ≡ (occurrence g k u).0 → y ≡ (occurrence g l v).0 → Wayed g c k l u v (least_sum p) (path_pair cap p)
  path_way stay k u v hu hv ex ey =
      let (same, same_event) = numbers_apart g k l u v hu hv (sym ex ∙ ey) in
      subst (λ (x : Event). Wayed g c k l u x (pos 0) unit) (event_same u v same_event)
      (record { crossings = 0; there = omega arith; way = nothing; sum_same = refl; pair_same = refl })
  path_way (step {v = z} i is_rule leaves enters p) k u v hu hv ex ey =
      by ((occurrence_rules fit unfolds k u hu).out i is_rule (leaves ∙ ex)) (λ k' x hx here. path_way p k' x v hx hv here ey)
    where
      by : OfTemplate g graph i (λ j. source g j ≡ u) (ahead g k) (least g) (most g)
          → ((k' : ℕ) (x : Event) → x.0 < g.events → z ≡ (occurrence g k' x).0 → Wayed g c k' l x v (least_sum p) (path_pair cap p))
          → Wayed g c k l u v (rule.least graph i +ℤ least_sum p) (compose (rule_pair graph cap i) (path_pair cap p))
      by (j, is_template, from, is) on =
          let known = (fit.each.ends j is_template).target_known in
          let rest = on (k + mark g j) (target g j) known (sym enters ∙ is.enters) in
          let (e, found, there) = first_way k is_template from (fit.each.marks j is_template) rest in
          let own : template_pair g c e j ≡ rule_pair graph cap i =
          sym (
          ap (λ (x : ℕ). pair (number (rule.most graph i)) (cap x)) is.enters
          ∙ ap (λ (x : ℤ). pair (number x) (cap (ahead g k j))) is.most_is
          ∙ ap (λ (x : Limit). pair (number (most g j)) x) (levels.level (k + mark g j) e (target g j) known there)
          ) in
          record {
            crossings = found.crossings;
            there = found.there;
            way = found.way;
            sum_same = found.sum_same ∙ ap (λ (x : ℤ). x +ℤ least_sum p) (sym is.least_is);
            pair_same = found.pair_same ∙ ap (λ (x : Pair). compose x (path_pair cap p)) own;
          }

-- ---- what follows

-- the way of a path has as many crossings as there are levels between its ends
way_at : {g : ProcessGraph} (c : ℕ → Event → Limit) {l : ℕ} {u v : Event} {low : ℤ} {q : Pair} (k d : ℕ) → k + d ≡ l → Wayed g c k l u v low q
    → (w : Way g d u v) × (way_least w ≡ low) × (way_pair c w ≡ q)
way_at {g} c {l} {u} {v} {low} {q} k d e h =
    subst (λ (x : ℕ). (w : Way g x u v) × (way_least w ≡ low) × (way_pair c w ≡ q))
    (let there = h.there in let same : h.crossings ≡ d = omega (arith, there, e) in same)
    (h.way, h.sum_same, h.pair_same)

module _ {g : ProcessGraph} {K : ℕ} {graph : Graph} (fit : Fit g) (unfolds : Unfolds g K graph) (k d : ℕ) (below : k + d < K) where
  -- where only sums are asked, no cap is looked at
  no_caps : Levels g (λ v. unlimited) (λ d x. unlimited) (k + d)
  no_caps = record { level = λ k d x hx e. refl }

  module _ (s v : Event) (hs : s.0 < g.events) (hv : v.0 < g.events) where
    sum_path : (w : Way g d v s) → (p : Path graph (occurrence g k v).0 (occurrence g (k + d) s).0) × (least_sum p ≡ way_least w)
    sum_path w = let h = way_path fit unfolds no_caps below k w refl in (h.path, h.sum_same)

    sum_way : (p : Path graph (occurrence g k v).0 (occurrence g (k + d) s).0) → (w : Way g d v s) × (way_least w ≡ least_sum p)
    sum_way p =
        let (w, sum_same, _) = way_at (λ d x. unlimited) k d refl (path_way fit unfolds no_caps below p k v s hv hs refl refl) in
        (w, sum_same)

    pub way_m : (x : ℤ) → WayM g d s v x → M graph (occurrence g (k + d) s).0 (occurrence g k v).0 x
    way_m x h =
        record {
          reached =
              let (w, e) = h.reached in
              let (p, same) = sum_path w in
              (p, ap neg_ℤ same ∙ e);
          bound = λ p.
              let (w, same) = sum_way p in
              subst (λ (y : ℤ). x ≤ℤ neg_ℤ y) same (h.bound w);
        }

    pub m_way : (x : ℤ) → M graph (occurrence g (k + d) s).0 (occurrence g k v).0 x → WayM g d s v x
    m_way x h =
        record {
          reached =
              let (p, e) = h.reached in
              let (w, same) = sum_way p in
              (w, ap neg_ℤ same ∙ e);
          bound = λ w.
              let (p, same) = sum_path w in
              subst (λ (y : ℤ). x ≤ℤ neg_ℤ y) same (h.bound p);
        }

    pub way_cap : {a : Limit} → WayCap g d s v a → CapOf graph (occurrence g (k + d) s).0 (occurrence g k v).0 a
    way_cap (at_m x h) = cap-of.CapOf.at_m x (way_m x h)
    way_cap (no_m none) = cap-of.CapOf.no_m (λ p. none (sum_way p).0)

    pub cap_way : {a : Limit} → CapOf graph (occurrence g (k + d) s).0 (occurrence g k v).0 a → WayCap g d s v a
    cap_way (cap-of.CapOf.at_m x h) = at_m x (m_way x h)
    cap_way (cap-of.CapOf.no_m none) = no_m (λ w. none (sum_path w).0)

  module _ {cap : ℕ → Limit} {c : ℕ → Event → Limit} (levels : Levels g cap c (k + d))
      (t v : Event) (ht : t.0 < g.events) (hv : v.0 < g.events) where
    on : (a : ℤ) (b : Limit) → WayPairs g c t d v a b → PathPairs graph cap (occurrence g (k + d) t).0 (occurrence g k v).0 a b
    on a b (w, e) = let h = way_path fit unfolds levels below k w refl in (h.path, h.pair_same ∙ e)

    back : (a : ℤ) (b : Limit) → PathPairs graph cap (occurrence g (k + d) t).0 (occurrence g k v).0 a b → WayPairs g c t d v a b
    back a b (p, e) =
        let (w, _, same) = way_at c k d refl (path_way fit unfolds levels below p k v t hv ht refl refl) in
        (w, same ∙ e)

    pub way_closes : {T : List Pair}
        → Closes T (WayPairs g c t d v) ↔ Closes T (PathPairs graph cap (occurrence g (k + d) t).0 (occurrence g k v).0)
    way_closes = (
      λ h. record { ordered = h.ordered; covers = cover_more on back h.covers },
      λ h. record { ordered = h.ordered; covers = cover_more back on h.covers },
    )

-- ---- from the root

-- the pair of template j's start rule, and then of a way of l crossings
abbrev pub start_pair : ProcessGraph → (ℕ → Event → Limit) → ℕ → ℕ → Pair
start_pair g c l j = pair (number (start_most g j)) (c l (target g j))

-- a start rule and then a way of l crossings to v, with pair q
abbrev pub StartWay : ProcessGraph → (ℕ → Event → Limit) → ℕ → Event → Pair → Type 0
StartWay g c l v q =
    (j : ℕ) × (j < templates g) × (mark g j ≡ 1) × (w : Way g l (target g j) v) × (q ≡ compose (start_pair g c l j) (way_pair c w))

module _ {g : ProcessGraph} {K : ℕ} {graph : Graph} (fit : Fit g) (unfolds : Unfolds g K graph)
    {cap : ℕ → Limit} {c : ℕ → Event → Limit} {l : ℕ} (levels : Levels g cap c l) (below : l < K) where
  start_same : (i j : ℕ) → j < templates g → IsRule graph i (start_ahead g j) (start_least g j) (start_most g j) → rule_pair graph cap i ≡ start_pair g c l j
  start_same i j is_template is =
      ap (λ (x : ℕ). pair (number (rule.most graph i)) (cap x)) is.enters
      ∙ ap (λ (x : ℤ). pair (number x) (cap (start_ahead g j))) is.most_is
      ∙ ap (λ (x : Limit). pair (number (start_most g j)) x) (levels.level 0 l (target g j) (fit.each.ends j is_template).target_known (omega arith))

  pub root_path : {v : Event} (j : ℕ) → j < templates g → mark g j ≡ 1 → (w : Way g l (target g j) v)
      → (p : Path graph 0 (occurrence g l v).0) × (path_pair cap p ≡ compose (start_pair g c l j) (way_pair c w))
  root_path {v} j is_template m w = by ((root_rules fit unfolds (omega arith)).back j is_template m)
    where
      known : start_ahead g j < 1 + g.events * K
      known = occurrence_below g K 0 (target g j) (fit.each.ends j is_template).target_known (omega arith)

      by : Given graph 0 (start_ahead g j) (start_least g j) (start_most g j) ⊎ (graph.events ≤ start_ahead g j)
          → (p : Path graph 0 (occurrence g l v).0) × (path_pair cap p ≡ compose (start_pair g c l j) (way_pair c w))
      by (inl (i, is_rule, leaves, is)) =
          let h = way_path fit unfolds levels below 0 w (omega arith) in (
            step i is_rule leaves is.enters h.path,
            ap (λ (x : Pair). compose x (path_pair cap h.path)) (start_same i j is_template is) ∙ ap (compose (start_pair g c l j)) h.pair_same,
          )
      by (inr outside) = absurd (let no : ⊥ = omega (arith, known, outside, unfolds.event_count) in no)

  pub root_way : {x y : ℕ} (p : Path graph x y) (v : Event) → v.0 < g.events → x ≡ 0 → y ≡ (occurrence g l v).0
      → StartWay g c l v (path_pair cap p)
  root_way stay v hv ex ey = absurd (never_root g l v (sym ey ∙ ex))
  root_way (step i is_rule leaves enters p) v hv ex ey = by ((root_rules fit unfolds (omega arith)).out i is_rule (leaves ∙ ex))
    where
      by : OfTemplate g graph i (λ j. mark g j ≡ 1) (start_ahead g) (start_least g) (start_most g)
          → StartWay g c l v (compose (rule_pair graph cap i) (path_pair cap p))
      by (j, is_template, m, is) =
          let (w, _, same) =
          way_at c 0 l (omega arith)
          (path_way fit unfolds levels below p 0 (target g j) v (fit.each.ends j is_template).target_known hv (sym enters ∙ is.enters) ey) in (
            j,
            is_template,
            m,
            w,
            ap (λ (x : Pair). compose x (path_pair cap p)) (start_same i j is_template is) ∙ ap (compose (start_pair g c l j)) (sym same),
          )
