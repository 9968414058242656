-- The rules out of a node of the unfolding, by their templates: what an event's turn goes through.
--     ByTemplates g graph v From to low high   the rules out of v are those of the templates j with From j, each leading to `to j` with delay [low j, high j];
--                                              such a template gives no rule where `to j` is no event
--     IsRule, OfTemplate, Given                what is said there of a rule, and of a template
--     past_number         an occurrence from K on has a number that is no event's
--     occurrence_rules    so it is with occurrence k of u and the templates out of u, each leading to occurrence k + mark of its target
--     root_rules          and with the root and the templates with mark 1, each leading to occurrence 0 of its target, by its start interval
-- Assumes nothing.
use mathlib.Core.Path.{◌≡◌, refl, sym, ap, subst, ◌∙◌}
use mathlib.Core.Logic.{◌⊎◌, inl, inr}
use Prim.Native.Nat.{ℕ, ◌+◌, ◌*◌, ◌<◌, ◌≤◌}
use native.Mathlib.Decide.{dec_lt}
use native.Mathlib.Nat.{mul_comm, mul-le-mul_right}
use native.Mathlib.Omega.{arith}
use lib.IntN.{ℤ}
use Rattle.graphs.specs.Graph as rule
use Rattle.graphs.specs.Graph.{Graph, rules}
use Rattle.processes.specs.declared.Event.{Event}
use Rattle.processes.specs.Parts.Checks.{MarkKept}
use Rattle.processes.specs.Process.{templates, source, target, least, most, mark, occurrence, Node, at, number, ProcessGraph, start_least, start_most, Instance, together, onward, start}
use Rattle.processes.proofs.Numbers.{Place}
use Rattle.processes.proofs.Occurrences.{event_same, numbers_apart, never_root}
use Rattle.levels.specs.Parts.Turns.{ahead, start_ahead}
use Rattle.processes.proofs.Exactly.{instance_unique, place_of, rule_at_place, rule_enters}
use Rattle.levels.proofs.Sound.{Fit, template_rule}
use Rattle.processes.specs.Unfolding.{RuleAt, Unfolds}

-- rule i leads to `to` with delay [low, high]
pub record IsRule (graph : Graph) (i to : ℕ) (low high : ℤ) : Type 0 where
  pub enters : rule.target graph i ≡ to
  pub least_is : rule.least graph i ≡ low
  pub most_is : rule.most graph i ≡ high

-- and some template with From j has it
abbrev pub OfTemplate : (g : ProcessGraph) (graph : Graph) (i : ℕ) (From : ℕ → Type 0) (to : ℕ → ℕ) (low high : ℕ → ℤ) → Type 0
OfTemplate g graph i From to low high = (j : ℕ) × (j < templates g) × From j × IsRule graph i (to j) (low j) (high j)

-- some rule out of v is that
abbrev pub Given : (graph : Graph) (v to : ℕ) (low high : ℤ) → Type 0
Given graph v to low high = (i : ℕ) × (i < rules graph) × (rule.source graph i ≡ v) × IsRule graph i to low high

pub record ByTemplates (g : ProcessGraph) (graph : Graph) (v : ℕ) (From : ℕ → Type 0) (to : ℕ → ℕ) (low high : ℕ → ℤ) : Type 0 where
  pub out : (i : ℕ) → i < rules graph → rule.source graph i ≡ v → OfTemplate g graph i From to low high
  pub back :
      (j : ℕ) → j < templates g → From j
      → Given graph v (to j) (low j) (high j) ⊎ (graph.events ≤ to j)

-- the instance of template j at a row, from occurrence k of its source
abbrev InstanceFrom : (g : ProcessGraph) (row j k : ℕ) → Type 0
InstanceFrom g row j k =
    Instance g row j
    (at (occurrence g k (source g j)))
    (at (occurrence g row (target g j)))
    (least g j)
    (most g j)

module _ {g : ProcessGraph} {K : ℕ} {graph : Graph} (fit : Fit g) (unfolds : Unfolds g K graph) where
  pub past_number : (k : ℕ) (u : Event) → K ≤ k → graph.events ≤ (occurrence g k u).0
  past_number k u past =
      omega (arith, unfolds.event_count, mul_comm g.events K, mul-le-mul_right g.events past)

  -- template j at a row, as an instance says
  rule_at : (row j : ℕ) → row < K → j < templates g → {a b : Node} {d D : ℤ} → Instance g row j a b d D
      → Given graph (number a) (number b) d D
  rule_at row j below l its =
      let r : RuleAt g row j graph (row * templates g + j) = unfolds.each row j below l in
      let same = instance_unique r.instance its in (
        row * templates g + j,
        template_rule fit unfolds row j below l,
        r.from_number ∙ ap number same.from,
        record { enters = r.to_number ∙ ap number same.to; least_is = same.least_delay; most_is = same.most_delay },
      )

  -- ---- an occurrence

  -- what an instance says whose source is occurrence k of u
  leaves_at : (k : ℕ) {row j : ℕ} (u : Event) {a b : Node} {d D : ℤ} → u.0 < g.events → j < templates g → Instance g row j a b d D
      → number a ≡ (occurrence g k u).0
      → (row ≡ k + mark g j) × (source g j ≡ u) × (d ≡ least g j) × (D ≡ most g j)
  leaves_at k {row} {j} u hu l (together m) e =
      let (same, same_event) = numbers_apart g row k (source g j) u (fit.each.ends j l).source_known hu e in
      (omega arith, event_same (source g j) u same_event, refl, refl)
  leaves_at k {row} {j} u hu l (onward b m f) e =
      let (same, same_event) = numbers_apart g b k (source g j) u (fit.each.ends j l).source_known hu e in
      (omega arith, event_same (source g j) u same_event, refl, refl)
  leaves_at k u hu l (start m f) e = absurd (never_root g k u (sym e))

  -- the instance of template j that leaves occurrence k of its source
  instance_out : (k j : ℕ) → MarkKept g.marks j
      → InstanceFrom g (k + mark g j) j k
  instance_out k j (inl m) = subst (InstanceFrom g (k + mark g j) j) (let same : k + mark g j ≡ k = omega arith in same) (together m)
  instance_out k j (inr m) = onward k m (omega arith)

  pub occurrence_rules : (k : ℕ) (u : Event) → u.0 < g.events
      → ByTemplates g graph (occurrence g k u).0 (λ j. source g j ≡ u) (ahead g k) (least g) (most g)
  occurrence_rules k u hu =
      record {
        out = λ i l e. leaving i e (place_of unfolds i l);
        back = λ j l from. given j l from (dec_lt (k + mark g j) K);
      }
    where
      leaving : (i : ℕ) → rule.source graph i ≡ (occurrence g k u).0 → Place (templates g) K i
          → OfTemplate g graph i (λ j. source g j ≡ u) (ahead g k) (least g) (most g)
      leaving i e p =
          let r : RuleAt g p.row p.within graph i = rule_at_place unfolds i p in
          let (row_is, from, least_is, most_is) = leaves_at k u hu p.within_below r.instance (sym r.from_number ∙ e) in (
            p.within,
            p.within_below,
            from,
            record {
              enters = rule_enters unfolds i p ∙ ap (λ (x : ℕ). (occurrence g x (target g p.within)).0) row_is;
              least_is = least_is;
              most_is = most_is;
            },
          )

      given : (j : ℕ) → j < templates g → source g j ≡ u → Dec (k + mark g j < K)
          → Given graph (occurrence g k u).0 (ahead g k j) (least g j) (most g j) ⊎ (graph.events ≤ ahead g k j)
      given j l from (yes below) =
          let (i, h, leaves, is) = rule_at (k + mark g j) j below l (instance_out k j (fit.each.marks j l)) in
          inl (i, h, leaves ∙ ap (λ (x : Event). (occurrence g k x).0) from, is)
      given j l from (no above) = inr (past_number (k + mark g j) (target g j) (omega arith))

  -- ---- the root

  starts_at : {row j : ℕ} {a b : Node} {d D : ℤ} → Instance g row j a b d D → number a ≡ 0
      → (row ≡ 0) × (mark g j ≡ 1) × (d ≡ start_least g j) × (D ≡ start_most g j)
  starts_at {row} {j} (together m) e = absurd (never_root g row (source g j) e)
  starts_at {row} {j} (onward b m f) e = absurd (never_root g b (source g j) e)
  starts_at (start m f) e = (f, m, refl, refl)

  pub root_rules : 0 < K
      → ByTemplates g graph 0 (λ j. mark g j ≡ 1) (start_ahead g) (start_least g) (start_most g)
  root_rules some =
      record { out = λ i l e. leaving i e (place_of unfolds i l); back = λ j l m. inl (rule_at 0 j some l (start m refl)) }
    where
      leaving : (i : ℕ) → rule.source graph i ≡ 0 → Place (templates g) K i
          → OfTemplate g graph i (λ j. mark g j ≡ 1) (start_ahead g) (start_least g) (start_most g)
      leaving i e p =
          let r : RuleAt g p.row p.within graph i = rule_at_place unfolds i p in
          let (row_is, marked, least_is, most_is) = starts_at r.instance (sym r.from_number ∙ e) in (
            p.within,
            p.within_below,
            marked,
            record {
              enters = rule_enters unfolds i p ∙ ap (λ (x : ℕ). (occurrence g x (target g p.within)).0) row_is;
              least_is = least_is;
              most_is = most_is;
            },
          )
