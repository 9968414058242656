-- One node's turn, from its templates: caps and fully pruned sets of the occurrences ahead give those of the node.
--     past_cap, past_set   a number that is no event has no m, and the empty set
--     level_cap, level_set above the occurrence of s there is no m; above that of t the sets are empty
--     own_cap              the cap of s is 0
--     node_cap             that of another node is the least (cap ahead − d) over its templates
--     node_set             the set of a node is what pruning leaves of its templates' candidates
--     occurrence_cap, occurrence_set, root_cap, root_set   the same of an occurrence, and of the root with its start intervals
-- The rules out of a node are those of its templates (Outgoing.antt). A template whose occurrence ahead would be K or more gives no rule; what stands ahead
-- of it has no m and an empty set, so it adds nothing. Assumes nothing.
use mathlib.Core.Path.{◌≡◌, sym, ap, subst, ◌∙◌}
use mathlib.Core.Logic.{◌⊎◌, inl, inr}
use mathlib.Core.List.Memᴰ
use mathlib.Core.List.{List, []}
use Prim.Native.Nat.{ℕ, ◌<◌, ◌≤◌}
use native.Mathlib.Omega.{arith}
use lib.IntN.{ℤ, pos, neg_ℤ}
use Rattle.graphs.specs.Graph as rule
use Rattle.graphs.specs.Graph.{Graph, rules}
use Rattle.graphs.specs.Path.{Path}
use Rattle.sets.specs.Limit.{Limit, number, unlimited, ◌≤ᴸ◌, ◌+ᴸ◌}
use Rattle.sets.specs.Pair.{Pair, pair, compose}
use Rattle.sets.specs.Set.{◌∈◌, Prunes}
use Rattle.sets.specs.Family.{Covers}
use Rattle.paths.specs.PathPair.{rule_pair, PathPairs}
use Rattle.paths.specs.Parts.Turn.{Turn, Candidate as RuleCandidate}
use Rattle.paths.specs.Parts.Solved.{Solved}
use Rattle.paths.proofs.Caps.{cap_at_s, cap_ahead_lem}
use Rattle.paths.proofs.Solved.{outside_path, cap_found, turn_found, no_path_cap, no_path_set}
use Rattle.processes.specs.declared.Event.{Event}
use Rattle.processes.specs.Process.{templates, source, least, most, mark, occurrence, ProcessGraph, start_least, start_most}
use Rattle.levels.specs.Parts.Turns.{ahead, start_ahead, Reached, LeastTemplate, Candidate, TemplateTurn}
use Rattle.levels.proofs.Sound.{Fit, unfolded_ends, unfolded_sound}
use Rattle.levels.proofs.Folds.{no_path_back}
use Rattle.levels.proofs.Outgoing.{OfTemplate, Given, ByTemplates, occurrence_rules, root_rules}
use Rattle.processes.specs.Unfolding.{Unfolds}

-- two nodes and two delays that are one give one cap ahead, and one pair
caps_same : (cap : ℕ → Limit) {x y : ℕ} {d e : ℤ} → x ≡ y → d ≡ e → cap x +ᴸ number (neg_ℤ d) ≡ cap y +ᴸ number (neg_ℤ e)
caps_same cap {y = y} {d = d} same delay = ap (λ (v : ℕ). cap v +ᴸ number (neg_ℤ d)) same ∙ ap (λ (z : ℤ). cap y +ᴸ number (neg_ℤ z)) delay

pairs_same : (cap : ℕ → Limit) {x y : ℕ} {d e : ℤ} → x ≡ y → d ≡ e → pair (number d) (cap x) ≡ pair (number e) (cap y)
pairs_same cap {y = y} {d = d} same delay = ap (λ (v : ℕ). pair (number d) (cap v)) same ∙ ap (λ (z : ℤ). pair (number z) (cap y)) delay

module _ {g : ProcessGraph} {K : ℕ} {graph : Graph} (fit : Fit g) (unfolds : Unfolds g K graph)
    {s t : ℕ} {cap : ℕ → Limit} {full : ℕ → List Pair} (solved : Solved graph s t cap full) where
  pub past_cap : s < graph.events → (v : ℕ) → graph.events ≤ v → cap v ≡ unlimited
  past_cap hs v outside = no_path_cap solved (outside_path (unfolded_ends fit unfolds) outside (λ e. omega (arith, hs, e, outside)))

  pub past_set : t < graph.events → (v : ℕ) → graph.events ≤ v → full v ≡ []
  past_set ht v outside = no_path_set solved (outside_path (unfolded_ends fit unfolds) outside (λ e. omega (arith, ht, e, outside)))

  pub level_cap : (ks : ℕ) (v : Event) → v.0 < g.events → s ≡ (occurrence g ks v).0 → (k : ℕ) (u : Event) → u.0 < g.events → ks < k
      → cap (occurrence g k u).0 ≡ unlimited
  level_cap ks v hv is k u hu later =
      no_path_cap solved (λ p. no_path_back unfolds fit.each.ends hu hv later (subst (λ (x : ℕ). Path graph (occurrence g k u).0 x) is p))

  pub level_set : (kt : ℕ) (v : Event) → v.0 < g.events → t ≡ (occurrence g kt v).0 → (k : ℕ) (u : Event) → u.0 < g.events → kt < k
      → full (occurrence g k u).0 ≡ []
  level_set kt v hv is k u hu later =
      no_path_set solved (λ p. no_path_back unfolds fit.each.ends hu hv later (subst (λ (x : ℕ). Path graph (occurrence g k u).0 x) is p))

  pub own_cap : {v : ℕ} → v ≡ s → number (pos 0) ≡ cap v
  own_cap same = cap_found solved (cap_at_s (unfolded_sound fit unfolds).acyclic same)

  -- ---- a node

  module _ {v : ℕ} {From : ℕ → Type 0} {to : ℕ → ℕ} {low high : ℕ → ℤ} (by-templates : ByTemplates g graph v From to low high) where
    pub node_cap : s < graph.events → (v ≡ s → ⊥) → (c : Limit) → LeastTemplate g From (λ j. cap (to j) +ᴸ number (neg_ℤ (low j))) c → c ≡ cap v
    node_cap hs other c h =
        cap_found solved
        (cap_ahead_lem cap other (λ i l out. solved.caps (rule.target graph i)) c
        (record { reached = reaching h.reached; bound = λ i l out. under i (by-templates.out i l out) }))
      where
        under : (i : ℕ) → OfTemplate g graph i From to low high
            → c ≤ᴸ (cap (rule.target graph i) +ᴸ number (neg_ℤ (rule.least graph i)))
        under i (j, l, from, is) = subst (λ (x : Limit). c ≤ᴸ x) (sym (caps_same cap is.enters is.least_is)) (h.bound j l from)

        ByRule : Type 0
        ByRule = Reached (λ i. rule.source graph i ≡ v) (λ i. cap (rule.target graph i) +ᴸ number (neg_ℤ (rule.least graph i))) (rules graph) c

        reaching : Reached From (λ j. cap (to j) +ᴸ number (neg_ℤ (low j))) (templates g) c → ByRule
        reaching (inl e) = inl e
        reaching (inr (j, l, from, e)) = on (by-templates.back j l from)
          where
            on : Given graph v (to j) (low j) (high j) ⊎ (graph.events ≤ to j) → ByRule
            on (inl (i, k, leaves, is)) = inr (i, k, leaves, caps_same cap is.enters is.least_is ∙ e)
            on (inr outside) = inl (sym e ∙ ap (λ (x : Limit). x +ᴸ number (neg_ℤ (low j))) (past_cap hs (to j) outside))

    pub node_set : t < graph.events → {C : List Pair} → TemplateTurn g From (v ≡ t) (λ j. pair (number (high j)) (cap (to j))) (λ j. full (to j)) C
        → Covers C (PathPairs graph cap t v) × ((T : List Pair) → Prunes C T → T ≡ full v)
    node_set ht {C} turn = turn_found solved rule_turn
      where
        on_rule : (i : ℕ) → OfTemplate g graph i From to low high → (q : Pair) → q ∈ full (rule.target graph i) → compose (rule_pair graph cap i) q ∈ C
        on_rule i (j, l, from, is) q m =
            subst (λ (x : Pair). compose x q ∈ C) (sym (pairs_same cap is.enters is.most_is))
            (turn.on j l from q (subst (λ (x : ℕ). q ∈ full x) is.enters m))

        reaching : (r : Pair)
            → Candidate From (v ≡ t) (λ j. pair (number (high j)) (cap (to j))) (λ j. full (to j)) (templates g) r
            → RuleCandidate graph cap t v (λ i. full (rule.target graph i)) (rules graph) r
        reaching r (inl h) = inl h
        reaching r (inr (j, q, l, from, m, e)) = on (by-templates.back j l from)
          where
            on : Given graph v (to j) (low j) (high j) ⊎ (graph.events ≤ to j) → RuleCandidate graph cap t v (λ i. full (rule.target graph i)) (rules graph) r
            on (inl (i, k, leaves, is)) =
                let same : pair (number (high j)) (cap (to j)) ≡ rule_pair graph cap i = sym (pairs_same cap is.enters is.most_is) in
                inr (i, q, k, leaves, subst (λ (x : ℕ). q ∈ full x) (sym is.enters) m, e ∙ ap (λ (x : Pair). compose x q) same)
            on (inr outside) = absurd (Memᴰ.not-nil (subst (λ (T : List Pair). q ∈ T) (past_set ht (to j) outside) m))

        rule_turn : Turn graph cap t v (λ i. full (rule.target graph i)) C
        rule_turn =
            record { here = turn.here; on = λ i l out q m. on_rule i (by-templates.out i l out) q m; only = λ r m. reaching r (turn.only r m) }

  -- ---- an occurrence, and the root

  module _ (k : ℕ) (u : Event) (hu : u.0 < g.events) where
    pub occurrence_cap : s < graph.events → ((occurrence g k u).0 ≡ s → ⊥) → (c : Limit)
        → LeastTemplate g (λ j. source g j ≡ u) (λ j. cap (ahead g k j) +ᴸ number (neg_ℤ (least g j))) c
        → c ≡ cap (occurrence g k u).0
    occurrence_cap = node_cap (occurrence_rules fit unfolds k u hu)

    pub occurrence_set : t < graph.events → {C : List Pair}
        → TemplateTurn g (λ j. source g j ≡ u) ((occurrence g k u).0 ≡ t)
        (λ j. pair (number (most g j)) (cap (ahead g k j))) (λ j. full (ahead g k j)) C
        → Covers C (PathPairs graph cap t (occurrence g k u).0) × ((T : List Pair) → Prunes C T → T ≡ full (occurrence g k u).0)
    occurrence_set ht turn = node_set (occurrence_rules fit unfolds k u hu) ht turn

  module _ (some : 0 < K) where
    pub root_cap : s < graph.events → (0 ≡ s → ⊥) → (c : Limit)
        → LeastTemplate g (λ j. mark g j ≡ 1) (λ j. cap (start_ahead g j) +ᴸ number (neg_ℤ (start_least g j))) c → c ≡ cap 0
    root_cap = node_cap (root_rules fit unfolds some)

    pub root_set : t < graph.events → {C : List Pair}
        → TemplateTurn g (λ j. mark g j ≡ 1) (0 ≡ t) (λ j. pair (number (start_most g j)) (cap (start_ahead g j))) (λ j. full (start_ahead g j)) C
        → Covers C (PathPairs graph cap t 0) × ((T : List Pair) → Prunes C T → T ≡ full 0)
    root_set ht turn = node_set (root_rules fit unfolds some) ht turn
