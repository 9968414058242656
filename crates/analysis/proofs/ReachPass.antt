-- Which events the root reaches.
--     led_reachable        with no cycle, and a rule into every event but the root, the root reaches every event
--     MarksFrom … k        the events from place k on are marked or not as they should be
--     marks_start, marks_turn, marks_end    the walk from the last place to the first
--     marked_lowest        what the search through the marks finds, said of the graph
-- Why led_reachable holds. From an event that isn't the root one goes back along a rule, to an event that comes later in the order; as there are only n places,
-- this ends, and it can end at the root alone. Assumes nothing.
use mathlib.Core.Path.{◌≡◌, refl, sym, ap, subst, ◌∙◌}
use mathlib.Core.List.{List, [], ◌∷◌, ◌++◌}
use Prim.Native.Nat.{ℕ, zero, suc, ◌+◌, ◌-◌, ◌<◌, ◌≤◌}
use native.Mathlib.Decide.{ℕ_discrete}
use native.Mathlib.Omega.{arith}
use lib.IntN.{ℤ}
use lib.ListN.{length, get_or, set, length-set}
use lib.Seq.{get_or-set_same, get_or-set_other}
use Rattle.std.proofs.Common.{Option, Some, None}
use Rattle.verdicts.specs.Verdict.{LowestIn}
use Rattle.graphs.specs.Graph.{Graph, graph_of}
use Rattle.graphs.specs.Path.{Path, stay, Reachable}
use Rattle.graphs.proofs.Paths.{along, LastRule, no_last, last, last_rule}
use Rattle.analysis.specs.Parts.Chains.{Last}
use Rattle.analysis.specs.Parts.Reach.{Arranged, Led, Marked, MarkOf, at_root, marked, unmarked, AllMarked}
use Rattle.analysis.proofs.Places.{back_more, back_all, Begins, begins_back}

module _ (n : ℕ) (ss ts heads nexts order : List ℕ) (a : Arranged n ss ts heads nexts order) where
  source_later : (i v : ℕ) → i < length ss → get_or ts i 0 ≡ v → a.rank v < a.rank (get_or ss i 0)
  source_later i v l e = omega (arith, a.ordered.targets_first i l, ap a.rank e)

  module _ (ds Ds : List ℤ) where
    abbrev g : Graph
    g = graph_of n ss ts ds Ds

    -- k rules back are enough
    reach : Led n heads → (k v : ℕ) → v < n → n ≤ a.rank v + k → Path g 0 v
    reach led zero v l h = absurd (let bad : ⊥ = omega (arith, a.ordered.rank_below v l) in bad)
    reach led (suc k) v l h = by (λ u m j. reach led k u m j) (ℕ_discrete v 0)
      where
        by : ((u : ℕ) → u < n → n ≤ a.rank u + k → Path g 0 u) → Dec (v ≡ 0) → Path g 0 v
        by back (yes e) = subst (λ (x : ℕ). Path g 0 x) (sym e) stay
        by back (no other) =
            let its : Last ts v (length ts) (get_or heads v 0) = a.chains.chained.heads_last v (omega (arith, a.chains.heads_room)) in
            let some : 0 < get_or heads v 0 = led v (omega arith) l in
            let into : get_or ts (get_or heads v 0 - 1) 0 ≡ v = its.hit (get_or heads v 0 - 1) (omega arith) in
            let is_rule : get_or heads v 0 - 1 < length ss = omega (arith, its.within, a.kept.targets_match) in
            along
            (back (get_or ss (get_or heads v 0 - 1) 0) (a.kept.sources_below.below (get_or heads v 0 - 1) is_rule) (omega (arith, source_later (get_or heads v 0 - 1) v is_rule into)))
            (get_or heads v 0 - 1) is_rule refl into

    pub led_reachable : Led n heads → (v : ℕ) → v < n → Reachable g v
    led_reachable led v l = reach led n v l (omega arith)

  -- ---- the marks

  pub record MarksFrom (marks : List ℕ) (k : ℕ) : Type 0 where
    pub place : k ≤ n
    pub room : n ≤ length marks
    pub each : (ds Ds : List ℤ) (v : ℕ) → v < n → k ≤ a.rank v → Marked (graph_of n ss ts ds Ds) marks v

  pub marks_start : (marks : List ℕ) → n ≤ length marks → MarksFrom marks n
  marks_start marks room =
      record { place = omega arith; room = room; each = λ ds Ds v l h. absurd (let none : ⊥ = omega (arith, a.ordered.rank_below v l) in none) }

  module _ (marks : List ℕ) (k : ℕ) (some : 0 < k) (m : MarksFrom marks k) where
    v_known : get_or order (k - 1) 0 < n
    v_known = a.ordered.order_below (k - 1) (omega (arith, m.place))

    pub marks_turn : (r : ℕ) → MarkOf ss ts marks (get_or order (k - 1) 0) r → MarksFrom (set marks (get_or order (k - 1) 0) r) (k - 1)
    marks_turn r is =
        record {
          place = omega (arith, m.place);
          room = subst (λ (x : ℕ). n ≤ x) (sym (length-set marks (get_or order (k - 1) 0) r)) m.room;
          each =
              λ ds Ds.
              back_more n ss ts order a.rank a.ordered (Marked (graph_of n ss ts ds Ds) marks) (Marked (graph_of n ss ts ds Ds) (set marks (get_or order (k - 1) 0) r)) (k - 1)
              (here ds Ds is) (omega (arith, m.place))
              (λ w l later other old. record { reaches = λ h. old.reaches (rw (get_or-set_other marks (get_or order (k - 1) 0) w r 0 other) at h); no_path = λ h. old.no_path (sym (get_or-set_other marks (get_or order (k - 1) 0) w r 0 other) ∙ h) })
              (λ w l later. m.each ds Ds w l (omega arith));
        }
      where
        v : ℕ
        v = get_or order (k - 1) 0

        at_v : get_or (set marks (get_or order (k - 1) 0) r) (get_or order (k - 1) 0) 0 ≡ r
        at_v = get_or-set_same marks (get_or order (k - 1) 0) r 0 (omega (arith, v_known, m.room))

        source_marked : (ds Ds : List ℤ) (i : ℕ) → i < length ss → get_or ts i 0 ≡ get_or order (k - 1) 0 → Marked (graph_of n ss ts ds Ds) marks (get_or ss i 0)
        source_marked ds Ds i l into =
            m.each ds Ds (get_or ss i 0) (a.kept.sources_below.below i l)
            (omega (arith, source_later i (get_or order (k - 1) 0) l into, a.ordered.rank_order (k - 1) (omega (arith, m.place))))

        here : (ds Ds : List ℤ) → MarkOf ss ts marks (get_or order (k - 1) 0) r → Marked (graph_of n ss ts ds Ds) (set marks (get_or order (k - 1) 0) r) (get_or order (k - 1) 0)
        here ds Ds (at_root e one) =
            record {
              reaches = λ _. subst (λ (x : ℕ). Path (graph_of n ss ts ds Ds) 0 x) (sym e) stay;
              no_path = λ h. absurd (let bad : ⊥ = omega (arith, at_v) in bad);
            }
        here ds Ds (marked one found) =
            let (i, l, into, is-marked) = found.some refl in
            let is_rule : i < length ss = omega (arith, a.kept.targets_match) in
            record {
              reaches = λ _. along ((source_marked ds Ds i is_rule into).reaches is-marked) i is_rule refl into;
              no_path = λ h. absurd (let bad : ⊥ = omega (arith, at_v) in bad);
            }
        here ds Ds (unmarked other is_zero never) =
            record {
              reaches = λ h. absurd (let bad : ⊥ = omega (arith, at_v) in bad);
              no_path = λ _ p. by p (last_rule p);
            }
          where
            by : (p : Path (graph_of n ss ts ds Ds) 0 (get_or order (k - 1) 0)) → LastRule (graph_of n ss ts ds Ds) 0 (get_or order (k - 1) 0) p → ⊥
            by p (no_last same few zero-sum) = other (sym same)
            by p (last i l into q one_more its-sum) = (source_marked ds Ds i l into).no_path (never.none refl i (omega (arith, a.kept.targets_match)) into) q

  -- the same of an event that stands last in what is left of the order
  pub marks_back : (marks xs : List ℕ) (e : ℕ) → Begins (xs ++ e ∷ []) order → MarksFrom marks (length (xs ++ e ∷ [])) → (r : ℕ) → MarkOf ss ts marks e r → MarksFrom (set marks e r) (length xs)
  marks_back marks xs e front m r is =
      let (one, some, here, rest) = begins_back xs order e front in
      subst (MarksFrom (set marks e r)) one
      (subst (λ (v : ℕ). MarksFrom (set marks v r) (length (xs ++ e ∷ []) - 1)) here (marks_turn marks (length (xs ++ e ∷ [])) some m r (subst (λ (v : ℕ). MarkOf ss ts marks v r) (sym here) is)))

  pub marks_end : (marks : List ℕ) (k : ℕ) → k ≤ 0 → MarksFrom marks k → AllMarked n ss ts marks
  marks_end marks k none m ds Ds = back_all n ss ts order a.rank a.ordered (Marked (graph_of n ss ts ds Ds) marks) (λ w l h. m.each ds Ds w l (omega arith))

-- what the search through the marks finds, said of the graph
pub marked_lowest :
    {n : ℕ} {ss ts marks : List ℕ} (ds Ds : List ℤ) → AllMarked n ss ts marks → (x : Option ℕ) → LowestIn n (λ v. 0 < get_or marks v 0) (λ v. get_or marks v 0 ≡ 0) x →
    LowestIn n (Reachable (graph_of n ss ts ds Ds)) (λ v. Reachable (graph_of n ss ts ds Ds) v → ⊥) x
marked_lowest ds Ds all (Some v) found = record { below = found.below; before = λ i l. (all ds Ds i (let b = found.below in omega arith)).reaches (found.before i l); bad = (all ds Ds v found.below).no_path found.bad }
marked_lowest ds Ds all None none = λ i l. (all ds Ds i l).reaches (none i l)
