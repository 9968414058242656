-- The test of a figure by a certificate, and that the figure holds where the test passes.
--     graph_passes c g      the graph keeps 01's limits, and the certificate's depths are its depths
--     steps_pass c g s      the certificate's m and U are those against s
--     passes c f           the figure f is as the certificate has it
--     event_graph          the graph is an event graph where its test passes
--     separation_passed    a separation whose certificate passes is as the figure has it
--     limit_passed         so is a limit that is met; the graph and the graph that it is rounded to have a certificate each
--     passed               then the figure holds, whatever it says
-- Assumes nothing.
use mathlib.Core.Path.{subst}
use mathlib.Core.Bool.{Bool, false, ◌&&◌}
use mathlib.Core.List.{List}
use Prim.Native.Nat.{ℕ, ◌+◌, ◌-◌, ◌*◌, ◌<◌}
use lib.IntN.{ℤ, pos, ◌+ℤ◌}
use lib.ListN.{length, get_or}
use lib.Dec.{T, ltb, eqb, ltb→lt, eqb→eq}
use Rattle.graphs.specs.Graph.{Graph, graph_of, rules}
use Rattle.graphs.specs.Path.{Depth}
use Rattle.graphs.specs.Limits.{Sized, EventGraph}
use Rattle.executions.specs.Separation.{Separation}
use Rattle.executions.specs.Steps.{U}
use Rattle.executions.specs.Schedule.{Latest}
use Rattle.graphs.proofs.Limits.{sound_of}
use Rattle.executions.proofs.Schedules.{greatest_delay_of, schedule_of, separation_of}
use Rattle.figures.specs.Figures.{Figure, SeparationIs, DepthsAre, CoarseIs, LimitMet, Holds}
use Rattle.figures.specs.Figures.Figure.{separation_is, depths_are, schedule_is, coarse_is, limit_met, hard_separation_is, unfolding_is, both}
use Rattle.figures.proofs.Tests.{both_pass, eq_z, eq_z_passes}
use Rattle.figures.proofs.Certificate.{Certificate, depth_at, m_at, u_at, keeps_limits, limits_kept, keeps_depths, Depths, depths_kept, keeps_m, ms_kept, keeps_u, us_kept, keeps_schedule, times_kept, delays_lesser}
use Rattle.figures.proofs.Roundings.{rounds_to, rounds_to_lem}
use Rattle.figures.proofs.Unfoldings.{unfolds_to, unfolds_to_lem}
use Rattle.figures.proofs.Checked.{checked_graph, checked_depth, checked_u}

abbrev pub graph_passes : Certificate → Graph → Bool
graph_passes c g = keeps_limits 1000000 g && keeps_depths g (depth_at c)

abbrev pub steps_pass : Certificate → Graph → ℕ → Bool
steps_pass c g s = ltb s g.events && (keeps_m g s (m_at c) && keeps_u g (m_at c) (u_at c))

abbrev separation_passes : Certificate → Graph → ℕ → ℕ → ℤ → Bool
separation_passes c g s t x = graph_passes c g && (steps_pass c g s && (ltb t g.events && eq_z (u_at c t) x))

abbrev depths_pass : Certificate → Graph → ℕ → ℕ → ℕ → ℕ → Bool
depths_pass c g s t a d = graph_passes c g && ((ltb s g.events && eqb (depth_at c s) a) && (ltb t g.events && eqb (depth_at c t) d))

abbrev coarse_passes : Certificate → Graph → ℕ → List ℤ → List ℤ → ℕ → ℕ → ℤ → Bool
coarse_passes c g q lows highs s t x =
    graph_passes c g && (rounds_to q g lows highs && separation_passes c (graph_of g.events g.sources g.targets lows highs) s t x)

-- c is the graph's certificate, k that of the graph that it is rounded to
abbrev limit_passes : Certificate → Certificate → Graph → ℕ → List ℤ → List ℤ → ℕ → ℕ → ℕ → ℕ → ℤ → ℤ → Bool
limit_passes c k g q lows highs s t a d x y =
    separation_passes c g s t x &&
    (coarse_passes k g q lows highs s t y && (depths_pass c g s t a d && eq_z y (x +ℤ pos ((q - 1) * (a + d)))))

abbrev pub passes : Certificate → Figure → Bool
passes c (separation_is g s t x) = separation_passes c g s t x
passes c (depths_are g s t a d) = depths_pass c g s t a d
passes c (schedule_is g s times delays) =
    graph_passes c g &&
    (steps_pass c g s &&
    ((eqb (length times) g.events && eqb (length delays) (rules g)) &&
    keeps_schedule g (u_at c) (λ i. get_or delays i (pos 0)) (λ v. get_or times v (pos 0))))
passes c (coarse_is g q lows highs s t x) = coarse_passes c g q lows highs s t x
passes c (limit_met g q lows highs s t a d x y) = limit_passes c c g q lows highs s t a d x y
-- hard times have a test of their own, in HardWays.antt
passes c (hard_separation_is g s t x) = false
passes c (unfolding_is g K graph) = unfolds_to g K graph
passes c (both f h) = passes c f && passes c h

module _ (c : Certificate) (g : Graph) (t : T (graph_passes c g)) where
  sized : Sized 1000000 g
  sized = limits_kept 1000000 g (both_pass (keeps_limits 1000000 g) (keeps_depths g (depth_at c)) t).0

  depths : Depths g (depth_at c)
  depths = depths_kept g (depth_at c) (both_pass (keeps_limits 1000000 g) (keeps_depths g (depth_at c)) t).1

  pub event_graph : EventGraph 1000000 g
  event_graph = checked_graph sized depths

  depth_is : (v k : ℕ) → T (ltb v g.events && eqb (depth_at c v) k) → Depth g v k
  depth_is v k tv =
      let (known, same) = both_pass (ltb v g.events) _ tv in
      subst (Depth g v) (eqb→eq (depth_at c v) k same) (checked_depth sized depths v (ltb→lt v g.events known))

  module _ (s : ℕ) (ts : T (steps_pass c g s)) where
    source_event : s < g.events
    source_event = ltb→lt s g.events (both_pass (ltb s g.events) _ ts).0

    u_is : U g s (u_at c)
    u_is =
        let (known, both-steps) = both_pass (ltb s g.events) _ ts in
        let (m, u) = both_pass (keeps_m g s (m_at c)) _ both-steps in
        checked_u sized depths (ms_kept g s (m_at c) m) (us_kept g (m_at c) (u_at c) u)

pub separation_passed : (c : Certificate) (g : Graph) (s t : ℕ) (x : ℤ) → T (separation_passes c g s t x) → SeparationIs g s t x
separation_passed c g s t x p =
    let (tg, rest) = both_pass (graph_passes c g) _ p in
    let (ts, tx) = both_pass (steps_pass c g s) _ rest in
    let (known, same) = both_pass (ltb t g.events) _ tx in
    let target_event : t < g.events = ltb→lt t g.events known in
    record {
      event_graph = event_graph c g tg;
      source_event = source_event c g tg s ts;
      target_event = target_event;
      separation =
          subst (Separation g s t) (eq_z_passes (u_at c t) x same)
          (separation_of (sound_of (event_graph c g tg)) (source_event c g tg s ts) (u_is c g tg s ts) t target_event);
    }

depths_passed : (c : Certificate) (g : Graph) (s t a d : ℕ) → T (depths_pass c g s t a d) → DepthsAre g s t a d
depths_passed c g s t a d p =
    let (tg, rest) = both_pass (graph_passes c g) _ p in
    let (da, dd) = both_pass (ltb s g.events && eqb (depth_at c s) a) _ rest in
    record { source_depth = depth_is c g tg s a da; target_depth = depth_is c g tg t d dd }

coarse_passed : (c : Certificate) (g : Graph) (q : ℕ) (lows highs : List ℤ) (s t : ℕ) (x : ℤ) → T (coarse_passes c g q lows highs s t x) → CoarseIs g q lows highs s t x
coarse_passed c g q lows highs s t x p =
    let (tg, rest) = both_pass (graph_passes c g) _ p in
    let (tr, tx) = both_pass (rounds_to q g lows highs) _ rest in
    let rounded = rounds_to_lem q g lows highs tr in
    let answer = separation_passed c (graph_of g.events g.sources g.targets lows highs) s t x tx in
    record {
      event_graph = event_graph c g tg;
      source_event = answer.source_event;
      target_event = answer.target_event;
      rounded = rounded;
      coarse = record { graph = graph_of g.events g.sources g.targets lows highs; rounded = rounded; greatest = answer.separation };
    }

pub limit_passed : (c k : Certificate) (g : Graph) (q : ℕ) (lows highs : List ℤ) (s t a d : ℕ) (x y : ℤ) → T (limit_passes c k g q lows highs s t a d x y) → LimitMet g q lows highs s t a d x y
limit_passed c k g q lows highs s t a d x y p =
    let (tx, rest) = both_pass (separation_passes c g s t x) _ p in
    let (ty, met) = both_pass (coarse_passes k g q lows highs s t y) _ rest in
    let (td, tl) = both_pass (depths_pass c g s t a d) _ met in
    record {
      exact = separation_passed c g s t x tx;
      coarse = coarse_passed k g q lows highs s t y ty;
      depths = depths_passed c g s t a d td;
      limit = eq_z_passes y (x +ℤ pos ((q - 1) * (a + d))) tl;
    }

pub passed : (c : Certificate) (f : Figure) → T (passes c f) → Holds f
passed c (separation_is g s t x) p = separation_passed c g s t x p
passed c (depths_are g s t a d) p = depths_passed c g s t a d p
passed c (schedule_is g s times delays) p =
    let (tg, rest) = both_pass (graph_passes c g) _ p in
    let (ts, lists) = both_pass (steps_pass c g s) _ rest in
    let (lengths, kept) = both_pass (eqb (length times) g.events && eqb (length delays) (rules g)) _ lists in
    let (n-times, n-delays) = both_pass (eqb (length times) g.events) _ lengths in
    let late : Latest g s (λ v. get_or times v (pos 0)) =
    record { u = u_at c; steps = u_is c g tg s ts; times = times_kept g (u_at c) (λ i. get_or delays i (pos 0)) (λ v. get_or times v (pos 0)) kept }
    in
    record {
      a_time_each = eqb→eq (length times) g.events n-times;
      a_delay_each = eqb→eq (length delays) (rules g) n-delays;
      schedule =
          schedule_of (sound_of (event_graph c g tg)) late (source_event c g tg s ts)
          (λ i l. greatest_delay_of (sound_of (event_graph c g tg)) late l (delays_lesser g (u_at c) (λ j. get_or delays j (pos 0)) (λ v. get_or times v (pos 0)) kept i l));
    }
passed c (coarse_is g q lows highs s t x) p = coarse_passed c g q lows highs s t x p
passed c (limit_met g q lows highs s t a d x y) p = limit_passed c c g q lows highs s t a d x y p
passed c (hard_separation_is g s t x) p = absurd p
passed c (unfolding_is g K graph) p = unfolds_to_lem g K graph p
passed c (both f h) p =
    let (first, second) = both_pass (passes c f) _ p in
    (passed c f first, passed c h second)
