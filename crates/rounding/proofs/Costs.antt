-- What rounding outward may cost: demand 3, second sentence.
--     rounded_wider          every interval of the rounded graph holds that of the graph
--     rounded_near           no delay moves by more than q − 1
--     rounded_sound          the rounded graph of a sound graph is sound, whatever the step
--     rounded_sized          the rounded graph keeps the counts, its events exist, and its delays lie within 1,000,999
--     rounded_event_graph    the rounded graph keeps the rules of an event graph, with delays up to 1,000,999
--     never_below            a coarse answer is never below the exact one
--     costs_at_most          and at most (q − 1) × (depth of source + depth of target) above it
--     coarse_size            a coarse answer stays within 2,048,043,954 either side of zero
--     coarse_unique          a graph, a step and two events have one coarse answer
--     step_one               with q = 1 the coarse answer is the exact one
-- The idea. A bound goes outward, so every execution of the graph is one of the rounded graph (`widened`), whose greatest separation is thus no smaller. A bound
-- moves to a multiple of q less than q away, so by q − 1 at most, and graphs whose delays differ by at most e have greatest separations that differ by at most
-- e × the two depths (`maxima_near`). A number goes down to one multiple and up to one, so two rounded graphs have the same executions. Assumes nothing.
use mathlib.Core.Path.{◌≡◌, ap, sym, subst}
use Prim.Native.Nat.{ℕ, ◌-◌, ◌<◌, ◌≤◌}
use native.Mathlib.Omega.{arith}
use lib.IntN.{ℤ}
use lib.Signed.{◌≤ℤ◌}
use lib.ListN.{length}
use Rattle.integers.specs.Within.{Within}
use Rattle.integers.proofs.Integer.{linear}
use Rattle.graphs.specs.Graph.{Graph, rules, least, most}
use Rattle.graphs.specs.Path.{Depth, HasCycle, Reachable}
use Rattle.graphs.specs.Limits.{Sized, EventGraph, SoundGraph, CountsKept, EndsKept, DelaysKept}
use Rattle.executions.specs.Separation.{Separation, SameRules, DelaysNear}
use Rattle.executions.proofs.Nearness.{maxima_near}
use Rattle.executions.proofs.Same.{rules_same, source_same, target_same, same_exchanged, same_joined, path_same, cycle_same}
use Rattle.executions.proofs.Sizes.{size}
use Rattle.executions.proofs.Unique.{separation_unique}
use Rattle.executions.proofs.Widening.{Wider, equal_wider, widening_never_lowers, separation_kept}
use Rattle.rounding.specs.Rounding.{Rounded, CoarseSeparation, Costs}
use Rattle.rounding.proofs.Multiples.{down_unique, up_unique, down_near, up_near, down_one, up_one, down_within, up_within}

module _ {q : ℕ} {g h : Graph} (rounded : Rounded q g h) where
  as_many : rules h ≡ rules g
  as_many = rules_same rounded.same

  rule_before : {i : ℕ} → i < rules h → i < rules g
  rule_before l = omega (arith, l, as_many)

  pub rounded_wider : Wider g h
  rounded_wider =
      record {
        same = rounded.same;
        leasts_lower = λ i l. (rounded.down i l).not_above;
        mosts_higher = λ i l. (rounded.up i l).not_below;
      }

  pub rounded_near : DelaysNear (q - 1) g h
  rounded_near =
      record {
        leasts_near = λ i l. down_near (rounded.down i l);
        mosts_near = λ i l. up_near (rounded.up i l);
      }

  -- a coarse answer is never below the exact one
  pub never_below : {s t : ℕ} {x y : ℤ} → Separation g s t x → Separation h s t y → x ≤ℤ y
  never_below = widening_never_lowers rounded_wider

  -- ---- the rounded graph is sound

  same : SameRules g h
  same = rounded.same

  ends : ((i : ℕ) → i < rules g → EndsKept g i) → (i : ℕ) → i < rules h → EndsKept h i
  ends known i l =
      let k = known i (rule_before l) in
      record {
        source_known = omega (arith, k.source_known, source_same same i, same.events_same);
        target_known = omega (arith, k.target_known, target_same same i, same.events_same);
      }

  ordered : {i : ℕ} → i < rules g → least g i ≤ℤ most g i → least h i ≤ℤ most h i
  ordered {i} r le = omega (linear, le, (rounded.down i r).not_above, (rounded.up i r).not_below)

  acyclic : (HasCycle g → ⊥) → HasCycle h → ⊥
  acyclic none c = none (cycle_same same c)

  reachable : ((v : ℕ) → v < g.events → Reachable g v) → (v : ℕ) → v < h.events → Reachable h v
  reachable each v l = (path_same (same_exchanged same) (each v (omega (arith, l, same.events_same)))).0

  pub rounded_sound : SoundGraph g → SoundGraph h
  rounded_sound sound =
      record {
        some_event = omega (arith, sound.some_event, same.events_same);
        ends = ends sound.ends;
        ordered = λ i l. ordered (rule_before l) (sound.ordered i (rule_before l));
        acyclic = acyclic sound.acyclic;
        reachable = reachable sound.reachable;
      }

-- ---- and an event graph

module _ {q : ℕ} {g h : Graph} (sized : Sized 1000000 g) (small : q ≤ 1000) (rounded : Rounded q g h) where
  counts : CountsKept h
  counts =
      let k = sized.counts in
      record {
        some_event = omega (arith, k.some_event, rounded.same.events_same);
        few_events = omega (arith, k.few_events, rounded.same.events_same);
        few_rules = omega (arith, k.few_rules, as_many rounded);
        targets_match = omega (arith, k.targets_match, as_many rounded, ap length rounded.same.targets_same);
        leasts_match = omega (arith, k.leasts_match, as_many rounded, rounded.as_many_leasts);
        mosts_match = omega (arith, k.mosts_match, as_many rounded, rounded.as_many_mosts);
      }

  delays : (i : ℕ) → i < rules h → DelaysKept 1000999 h i
  delays i l =
      let r : i < rules g = rule_before rounded l in
      let k = sized.delays i r in
      record {
        least_within = down_within small k.least_within (rounded.down i r);
        most_within = up_within small k.most_within (rounded.up i r);
        ordered = ordered rounded r k.ordered;
      }

  pub rounded_sized : Sized 1000999 h
  rounded_sized = record { counts = counts; ends = ends rounded sized.ends; delays = delays }

pub rounded_event_graph : {q : ℕ} {g h : Graph} → EventGraph 1000000 g → q ≤ 1000 → Rounded q g h → EventGraph 1000999 h
rounded_event_graph eg small rounded =
    record { sized = rounded_sized eg.sized small rounded; acyclic = acyclic rounded eg.acyclic; reachable = reachable rounded eg.reachable }

-- ---- demand 3, second sentence

module _ {q : ℕ} {g : Graph} (sound : SoundGraph g) {s t : ℕ} (hs : s < g.events) (ht : t < g.events) where
  pub costs_at_most : {a d : ℕ} {x y : ℤ} → Depth g s a → Depth g t d → Separation g s t x → CoarseSeparation q g s t y → Costs q a d x y
  costs_at_most da dd exact coarse =
      let r = coarse.rounded in
      record {
        never_below_exact = never_below r exact coarse.greatest;
        at_most_above =
            (maxima_near sound (rounded_sound r sound) r.same (q - 1) (rounded_near r) hs ht da dd exact coarse.greatest).not_below;
      }

module _ {q : ℕ} {g : Graph} (eg : EventGraph 1000000 g) (small : q ≤ 1000) {s t : ℕ} (hs : s < g.events) (ht : t < g.events) where
  -- "A coarse one stays within 2,048,043,954 either side of zero"
  pub coarse_size : {y : ℤ} → CoarseSeparation q g s t y → Within 2048043954 y
  coarse_size coarse =
      let e = coarse.rounded.same.events_same in
      size (rounded_event_graph eg small coarse.rounded) (subst (λ (n : ℕ). s < n) (sym e) hs) (subst (λ (n : ℕ). t < n) (sym e) ht) coarse.greatest

-- ---- one answer

-- two graphs that a graph is rounded to differ in no delay
rounded_again : {q : ℕ} {g h k : Graph} → Rounded q g h → Rounded q g k → Wider h k
rounded_again {h = h} {k = k} a b =
    equal_wider (same_joined a.same b.same)
    (λ i l. down_unique (a.down i (rule_before a l)) (b.down i (rule_before a l)))
    (λ i l. up_unique (a.up i (rule_before a l)) (b.up i (rule_before a l)))

pub coarse_unique : {q : ℕ} {g : Graph} {s t : ℕ} {x y : ℤ} → CoarseSeparation q g s t x → CoarseSeparation q g s t y → x ≡ y
coarse_unique a b =
    separation_unique (separation_kept (rounded_again a.rounded b.rounded) (rounded_again b.rounded a.rounded) a.greatest) b.greatest

-- with q = 1 a bound stays where it is
pub step_one : {g : Graph} {s t : ℕ} {y : ℤ} → CoarseSeparation 1 g s t y → Separation g s t y
step_one {g} a =
    let r = a.rounded in
    let narrower : Wider a.graph g =
    equal_wider (same_exchanged r.same) (λ i l. sym (down_one (r.down i (rule_before r l)))) (λ i l. sym (up_one (r.up i (rule_before r l))))
    in
    separation_kept narrower (rounded_wider r) a.greatest
