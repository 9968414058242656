-- The figures to check by, those that 01 marks P and those of 02, as statements about the definitions. Document 01, section "Figures to
-- check by"; 02, wishes 1, 3 and 4.
--     one, row, fork, pair, below, looped == the event graphs that the figures speak of
--     fig1, fig1_unfolded         == the process graph of P11, and its unfolding, written out
--     fig1_started, fig1_started_unfolded == the same with the start interval [21, 21] on b→b
--     a, b                        == its process events
--     Figure                      == what one figure says
--       separation_is g s t x     == g is an event graph with the events s and t, and x is the separation of t from s
--       depths_are g s t a d      == the depth of s is a, and that of t is d
--       schedule_is g s times delays == the two lists are the whole latest schedule against s, and no longer
--       coarse_is g q lows highs s t x == rounded outward to steps of q, the delays of g are lows and highs, and the coarse answer is x
--       limit_met g q lows highs s t a d x y == x is the separation, y the coarse answer by lows and highs, a and d are the depths of s and t, and y is
--                                    (q − 1) × (a + d) above x
--       hard_separation_is g s t x == the same as separation_is, over all hard times of g
--       unfolding_is g K graph    == the graph is the process graph g, unfolded K times
--       both f h                  == f, and h
--     Holds f                     == what f says, in terms of the crates graphs, executions, hardtimes, rounding and processes
--     b_against_a graph k x       == x is the separation of occurrence k of b from occurrence k of a, in the unfolding of fig 1 that is handed in
--     P1 … P11                    == the figures
--     P11-started                 == P11 with the start interval [21, 21] on b→b
--     hard_fork                   == the figure of request 4
--     figures                     == all of them, in a single list
--     LoopedAt v                  == what 02, wish 3, makes of `looped`: refusal 5 names v
--     LowestOnCycle               == it names 3
--     AllHold fs                  == every figure of the list holds: the one claim, proved in proofs/Figures.antt for `figures`
-- Assumes nothing.
use Rattle.std.specs.Prelude.{◌≡◌, List, [], ◌∷◌, ℤ, pos, neg_ℤ, ◌+ℤ◌, length, get_or}
use Prim.Native.Nat.{ℕ, ◌+◌, ◌-◌, ◌*◌, ◌<◌}
use Rattle.graphs.specs.Graph.{Graph, graph_of, rules}
use Rattle.graphs.specs.Path.{OnCycle, Depth}
use Rattle.verdicts.specs.Verdict.{Lowest}
use Rattle.graphs.specs.Limits.{EventGraph}
use Rattle.executions.specs.Separation.{Separation}
use Rattle.executions.specs.Schedule.{Schedule}
use Rattle.hardtimes.specs.HardTimes.{HardSeparation}
use Rattle.rounding.specs.Rounding.{Rounded, CoarseSeparation}
use Rattle.processes.specs.declared.Event.{Event}
use Rattle.processes.specs.Process.{ProcessGraph, process_of, occurrence}
use Rattle.processes.specs.Unfolding.{Unfolds}

-- ---- the graphs

-- "one event, no rules"
abbrev pub one : Graph
one = graph_of 1 [] [] [] []

-- "the three-rule input": 0→1 [0, 100], 1→2 [1, 2], 1→3 [3, 7]
abbrev pub row : Graph
row = graph_of 4 (0 ∷ 1 ∷ 1 ∷ []) (1 ∷ 2 ∷ 3 ∷ []) (pos 0 ∷ pos 1 ∷ pos 3 ∷ []) (pos 100 ∷ pos 2 ∷ pos 7 ∷ [])

-- "0→1 [2, 5], 0→2 [1, 3], 1→3 [0, 0], 2→3 [0, 0]"
abbrev pub fork : Graph
fork = graph_of 4 (0 ∷ 0 ∷ 1 ∷ 2 ∷ []) (1 ∷ 2 ∷ 3 ∷ 3 ∷ []) (pos 2 ∷ pos 1 ∷ pos 0 ∷ pos 0 ∷ []) (pos 5 ∷ pos 3 ∷ pos 0 ∷ pos 0 ∷ [])

-- "0→1 [1, 2] and 0→1 [0, 5]"
abbrev pub pair : Graph
pair = graph_of 2 (0 ∷ 0 ∷ []) (1 ∷ 1 ∷ []) (pos 1 ∷ pos 0 ∷ []) (pos 2 ∷ pos 5 ∷ [])

-- "0→1 [−3, −1]"
abbrev pub below : Graph
below = graph_of 2 (0 ∷ []) (1 ∷ []) (neg_ℤ (pos 3) ∷ []) (neg_ℤ (pos 1) ∷ [])

-- 0→1, 3→4, 4→3, 3→2, 0→3, each [0, 0]: the events 3 and 4 lie on a cycle, event 2 stands behind it
abbrev pub looped : Graph
looped =
    graph_of 5 (0 ∷ 3 ∷ 4 ∷ 3 ∷ 0 ∷ []) (1 ∷ 4 ∷ 3 ∷ 2 ∷ 3 ∷ []) (pos 0 ∷ pos 0 ∷ pos 0 ∷ pos 0 ∷ pos 0 ∷ [])
    (pos 0 ∷ pos 0 ∷ pos 0 ∷ pos 0 ∷ pos 0 ∷ [])

-- "events a = 0 and b = 1, templates a→a [4, 10] mark 1, a→b [1, 1] mark 0, b→a [1, 1] mark 1, b→b [5, 20] mark 1", with start intervals
abbrev fig1_with : List ℤ → List ℤ → ProcessGraph
fig1_with =
    process_of 2 (0 ∷ 0 ∷ 1 ∷ 1 ∷ []) (0 ∷ 1 ∷ 0 ∷ 1 ∷ []) (pos 4 ∷ pos 1 ∷ pos 1 ∷ pos 5 ∷ []) (pos 10 ∷ pos 1 ∷ pos 1 ∷ pos 20 ∷ [])
    (1 ∷ 0 ∷ 1 ∷ 1 ∷ [])

-- P11 is 01's, where every start rule has [0, 0]
abbrev pub fig1 : ProcessGraph
fig1 = fig1_with (pos 0 ∷ pos 0 ∷ pos 0 ∷ pos 0 ∷ []) (pos 0 ∷ pos 0 ∷ pos 0 ∷ pos 0 ∷ [])

-- 02: "figure 1 and start [21, 21] on b→b, [0, 0] on the others"
abbrev pub fig1_started : ProcessGraph
fig1_started = fig1_with (pos 0 ∷ pos 0 ∷ pos 0 ∷ pos 21 ∷ []) (pos 0 ∷ pos 0 ∷ pos 0 ∷ pos 21 ∷ [])

-- "events a = 0 and b = 1"
abbrev pub a : Event
a = record { 0 = 0 }

abbrev pub b : Event
b = record { 0 = 1 }

-- three occurrences of each, "number 1 + k × p + i": a is 1, 3, 5 and b is 2, 4, 6. Four rules for k = 0, of which three are start rules, "from the
-- root to occurrence 0 of the target, with delay [0, 0]"; then four for k = 1, and four for k = 2
abbrev pub fig1_unfolded : Graph
fig1_unfolded =
    graph_of 7 (0 ∷ 1 ∷ 0 ∷ 0 ∷ 1 ∷ 3 ∷ 2 ∷ 2 ∷ 3 ∷ 5 ∷ 4 ∷ 4 ∷ []) (1 ∷ 2 ∷ 1 ∷ 2 ∷ 3 ∷ 4 ∷ 3 ∷ 4 ∷ 5 ∷ 6 ∷ 5 ∷ 6 ∷ [])
    (pos 0 ∷ pos 1 ∷ pos 0 ∷ pos 0 ∷ pos 4 ∷ pos 1 ∷ pos 1 ∷ pos 5 ∷ pos 4 ∷ pos 1 ∷ pos 1 ∷ pos 5 ∷ [])
    (pos 0 ∷ pos 1 ∷ pos 0 ∷ pos 0 ∷ pos 10 ∷ pos 1 ∷ pos 1 ∷ pos 20 ∷ pos 10 ∷ pos 1 ∷ pos 1 ∷ pos 20 ∷ [])

-- the same rules, but that the start rule of b→b, the fourth, has [21, 21]
abbrev pub fig1_started_unfolded : Graph
fig1_started_unfolded =
    graph_of 7 fig1_unfolded.sources fig1_unfolded.targets
    (pos 0 ∷ pos 1 ∷ pos 0 ∷ pos 21 ∷ pos 4 ∷ pos 1 ∷ pos 1 ∷ pos 5 ∷ pos 4 ∷ pos 1 ∷ pos 1 ∷ pos 5 ∷ [])
    (pos 0 ∷ pos 1 ∷ pos 0 ∷ pos 21 ∷ pos 10 ∷ pos 1 ∷ pos 1 ∷ pos 20 ∷ pos 10 ∷ pos 1 ∷ pos 1 ∷ pos 20 ∷ [])

-- ---- what a figure says

pub data Figure : Type 0 where
  separation_is : Graph → ℕ → ℕ → ℤ → Figure
  depths_are : Graph → ℕ → ℕ → ℕ → ℕ → Figure
  schedule_is : Graph → ℕ → List ℤ → List ℤ → Figure
  coarse_is : Graph → ℕ → List ℤ → List ℤ → ℕ → ℕ → ℤ → Figure
  limit_met : Graph → ℕ → List ℤ → List ℤ → ℕ → ℕ → ℕ → ℕ → ℤ → ℤ → Figure
  hard_separation_is : Graph → ℕ → ℕ → ℤ → Figure
  unfolding_is : ProcessGraph → ℕ → Graph → Figure
  both : Figure → Figure → Figure

-- the graph keeps 01's limits, s and t exist, and "the answer is the greatest t(t) − t(s) over all executions"
pub record SeparationIs (g : Graph) (s t : ℕ) (x : ℤ) : Type 0 where
  pub event_graph : EventGraph 1000000 g
  pub source_event : s < g.events
  pub target_event : t < g.events
  pub separation : Separation g s t x

-- "An answer carries the depths of s and t"
pub record DepthsAre (g : Graph) (s t a d : ℕ) : Type 0 where
  pub source_depth : Depth g s a
  pub target_depth : Depth g t d

-- "The time list needs n places, the delay list r places"
pub record ScheduleIs (g : Graph) (s : ℕ) (times delays : List ℤ) : Type 0 where
  pub a_time_each : length times ≡ g.events
  pub a_delay_each : length delays ≡ rules g
  pub schedule : Schedule g s (λ i. get_or delays i (pos 0)) (λ v. get_or times v (pos 0))

-- "Each least delay goes down to a multiple of q and each most delay goes up to one … The answer is the separation of the rounded graph"
pub record CoarseIs (g : Graph) (q : ℕ) (lows highs : List ℤ) (s t : ℕ) (x : ℤ) : Type 0 where
  pub event_graph : EventGraph 1000000 g
  pub source_event : s < g.events
  pub target_event : t < g.events
  pub rounded : Rounded q g (graph_of g.events g.sources g.targets lows highs)
  pub coarse : CoarseSeparation q g s t x

-- "Both meet demand 3's limit exactly"
pub record LimitMet (g : Graph) (q : ℕ) (lows highs : List ℤ) (s t a d : ℕ) (x y : ℤ) : Type 0 where
  pub exact : SeparationIs g s t x
  pub coarse : CoarseIs g q lows highs s t y
  pub depths : DepthsAre g s t a d
  pub limit : y ≡ x +ℤ pos ((q - 1) * (a + d))

-- 02, request 4: "the greatest separation there too"
pub record HardSeparationIs (g : Graph) (s t : ℕ) (x : ℤ) : Type 0 where
  pub event_graph : EventGraph 1000000 g
  pub source_event : s < g.events
  pub target_event : t < g.events
  pub separation : HardSeparation g s t x

abbrev pub Holds : Figure → Type 0
Holds (separation_is g s t x) = SeparationIs g s t x
Holds (depths_are g s t a d) = DepthsAre g s t a d
Holds (schedule_is g s times delays) = ScheduleIs g s times delays
Holds (coarse_is g q lows highs s t x) = CoarseIs g q lows highs s t x
Holds (limit_met g q lows highs s t a d x y) = LimitMet g q lows highs s t a d x y
Holds (hard_separation_is g s t x) = HardSeparationIs g s t x
-- "Unfolding it K times … gives an event graph"
Holds (unfolding_is g K graph) = Unfolds g K graph
Holds (both f h) = Holds f × Holds h

-- ---- the figures

-- "P1: one event, no rules: separation 0, depths 0 and 0."
abbrev pub P1 : Figure
P1 = both (separation_is one 0 0 (pos 0)) (depths_are one 0 0 0 0)

-- "P2: row, s = 2, t = 3: 6; times 0, 0, 1, 7; delays 0, 1, 7; depths 2 and 2."
abbrev pub P2 : Figure
P2 =
    both (separation_is row 2 3 (pos 6))
    (both (schedule_is row 2 (pos 0 ∷ pos 0 ∷ pos 1 ∷ pos 7 ∷ []) (pos 0 ∷ pos 1 ∷ pos 7 ∷ [])) (depths_are row 2 3 2 2))

-- "P3: fork, s = 1, t = 3: 1."
abbrev pub P3 : Figure
P3 = separation_is fork 1 3 (pos 1)

-- "P4: s = 2, t = 3: 4."
abbrev pub P4 : Figure
P4 = separation_is fork 2 3 (pos 4)

-- "P5: s = 3, t = 1: 0."
abbrev pub P5 : Figure
P5 = separation_is fork 3 1 (pos 0)

-- "P6: 0→1 [1, 2] and 0→1 [0, 5]: s = 0, t = 1 gives 5"
abbrev pub P6 : Figure
P6 = separation_is pair 0 1 (pos 5)

-- "P7: s = 1, t = 0 gives −1."
abbrev pub P7 : Figure
P7 = separation_is pair 1 0 (neg_ℤ (pos 1))

-- "P8: 0→1 [−3, −1]: s = 0, t = 1 gives −1, and with q = 2 gives 0; … Both meet demand 3's limit exactly." The interval becomes [−4, 0]
abbrev pub P8 : Figure
P8 = limit_met below 2 (neg_ℤ (pos 4) ∷ []) (pos 0 ∷ []) 0 1 0 1 (neg_ℤ (pos 1)) (pos 0)

-- "P9: s = 1, t = 0 gives 3, and with q = 2 gives 4. Both meet demand 3's limit exactly."
abbrev pub P9 : Figure
P9 = limit_met below 2 (neg_ℤ (pos 4) ∷ []) (pos 0 ∷ []) 1 0 1 0 (pos 3) (pos 4)

-- "P10: row with q = 4, s = 2, t = 3: 8."
abbrev pub P10 : Figure
P10 = coarse_is row 4 (pos 0 ∷ pos 0 ∷ pos 0 ∷ []) (pos 100 ∷ pos 4 ∷ pos 8 ∷ []) 2 3 (pos 8)

-- "b against a at the same occurrence (s is a, t is b)", occurrence k
abbrev pub b_against_a : Graph → ℕ → ℤ → Figure
b_against_a graph k = separation_is graph (occurrence fig1 k a).0 (occurrence fig1 k b).0

-- "P11: fig 1, b against a at the same occurrence (s is a, t is b): 1, 17, 19 at occurrences 0, 1, 2."
abbrev pub P11 : Figure
P11 =
    both (unfolding_is fig1 3 fig1_unfolded)
    (both (b_against_a fig1_unfolded 0 (pos 1)) (both (b_against_a fig1_unfolded 1 (pos 17)) (b_against_a fig1_unfolded 2 (pos 19))))

-- 02: "b against a at occurrence 1 gives 19 and not 17"; at occurrences 0 and 2 it gives 21 and 19
abbrev pub P11-started : Figure
P11-started =
    both (unfolding_is fig1_started 3 fig1_started_unfolded)
    (both (b_against_a fig1_started_unfolded 0 (pos 21))
    (both (b_against_a fig1_started_unfolded 1 (pos 19)) (b_against_a fig1_started_unfolded 2 (pos 19))))

-- 02, request 4: "The fork of 01 gives 3 for s = 0, t = 3."
abbrev pub hard_fork : Figure
hard_fork = hard_separation_is fork 0 3 (pos 3)

-- "P1 to P11 are proved about the definitions, gathered as a single list under one claim": with P11 01's list stands whole; 02's figures stand beside it
abbrev pub figures : List Figure
figures = P1 ∷ P2 ∷ P3 ∷ P4 ∷ P5 ∷ P6 ∷ P7 ∷ P8 ∷ P9 ∷ P10 ∷ P11 ∷ P11-started ∷ hard_fork ∷ []

-- "The cycle refusal must name the lowest-numbered event that lies on a cycle"
abbrev pub LoopedAt : ℕ → Type 0
LoopedAt v = Lowest (OnCycle looped) v

-- what is left over when events without waiting rules are taken away has event 2 too, which lies on no cycle
abbrev pub LowestOnCycle : Type 0
LowestOnCycle = LoopedAt 3

abbrev pub AllHold : List Figure → Type 0
AllHold [] = Unit {0}
AllHold (f ∷ fs) = Holds f × AllHold fs
