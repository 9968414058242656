-- What the walk that finds U and the depths says of one event, and of all. `us` holds U of the events whose turn has come, and m of the others.
--     arrival_by ss Ds us i       == U(source) + D of rule i
--     depth_by ss depth i         == the depth of rule i's source, and 1
--     Addable ss Ds us i         == rule i may be read, and its sum fits
--     Deepenable ss depth i      == the depth of its source may be read, and is small
--     Greater x y z              == z is the greater of x and y
--     Arrivals n ss ts …  v      == the rules are chained by target, one leads into v, and each that does may be read
--     GreatestArrival … v x d    == x is the greatest U(source) + D over the rules into v, and d the greatest depth of a source, and 1
--     Settled … v us depth us' depth' == us' is us with the lesser of what it held at v and that arrival, and depth' depth with that depth
--     UAt g s us v x             == x is U(v), got from us at the sources of the rules into v
--     LatestFound g s us₀ us     == us, which was us₀, holds U of every event, each small enough to subtract, and beyond the events what us₀ held
--     LatestReady                == what is asked before the walk
--     DepthsFound g depth        == depth holds the depth of every event
-- 2050048000 is 2 · 1024 · 1001000: m takes up to 1024 delays and U up to 1024 more. Assumes nothing.
use Rattle.std.specs.Prelude.{◌≡◌, ◌⊎◌, List, ℕ, ◌+◌, ◌<◌, ◌≤◌, ℤ, pos, ◌+ℤ◌, ◌≤ℤ◌, length, get_or, drop, set}
use Rattle.integers.specs.Within.{Within}
use Rattle.graphs.specs.Graph.{Graph, graph_of, source, most, Greatest}
use Rattle.graphs.specs.Path.{Depth}
use Rattle.graphs.specs.Limits.{EventGraph}
use Rattle.executions.specs.Steps.{M, Lesser, Capped, U}
use Rattle.analysis.specs.Parts.Chains.{ChainLists}
use Rattle.analysis.specs.Parts.Reach.{Arranged}
use Rattle.analysis.specs.Parts.Paths.{MHeld}

abbrev pub arrival_by : List ℕ → List ℤ → List ℤ → ℕ → ℤ
arrival_by ss Ds us i = get_or us (get_or ss i 0) (pos 0) +ℤ get_or Ds i (pos 0)

abbrev pub depth_by : List ℕ → List ℕ → ℕ → ℤ
depth_by ss depth i = pos (get_or depth (get_or ss i 0) 0 + 1)

pub record Addable (ss : List ℕ) (Ds us : List ℤ) (i : ℕ) : Type 0 where
  pub source_listed : i < length ss
  pub most_listed : i < length Ds
  pub source_known : get_or ss i 0 < length us
  pub source_within : Within 2050048000 (get_or us (get_or ss i 0) (pos 0))
  pub most_within : Within 1001000 (get_or Ds i (pos 0))

pub record Deepenable (ss depth : List ℕ) (i : ℕ) : Type 0 where
  pub source_listed : i < length ss
  pub source_known : get_or ss i 0 < length depth
  pub source_small : get_or depth (get_or ss i 0) 0 < 1024

pub record Greater (x y z : ℤ) : Type 0 where
  pub left : x ≤ℤ z
  pub right : y ≤ℤ z
  pub one : (z ≡ x) ⊎ (z ≡ y)

pub record Arrivals (n : ℕ) (ss ts heads nexts : List ℕ) (Ds us : List ℤ) (depth : List ℕ) (v : ℕ) : Type 0 where
  pub chains : ChainLists n ts heads nexts
  pub known : v < n
  pub few_events : n ≤ 1024
  pub few_rules : length ss ≤ 4096
  pub targets_match : length ts ≡ length ss
  pub some : (i : ℕ) × (i < length ts) × (get_or ts i 0 ≡ v)
  pub addable : (i : ℕ) → i < length ts → get_or ts i 0 ≡ v → Addable ss Ds us i
  pub deepenable : (i : ℕ) → i < length ts → get_or ts i 0 ≡ v → Deepenable ss depth i

pub record GreatestArrival (n : ℕ) (ss ts : List ℕ) (Ds us : List ℤ) (depth : List ℕ) (v : ℕ) (time : ℤ) (deep : ℕ) : Type 0 where
  pub arrival : (ds : List ℤ) → Greatest (graph_of n ss ts ds Ds) v (arrival_by ss Ds us) time
  pub deepest : (ds : List ℤ) → Greatest (graph_of n ss ts ds Ds) v (depth_by ss depth) (pos deep)

pub record Settled (n : ℕ) (ss ts : List ℕ) (Ds : List ℤ) (v : ℕ) (us : List ℤ) (depth : List ℕ) (us' : List ℤ) (depth' : List ℕ) : Type 0 where
  pub time : ℤ
  pub deep : ℕ
  pub latest : ℤ
  pub greatest : GreatestArrival n ss ts Ds us depth v time deep
  pub lesser : Lesser (get_or us v (pos 0)) time latest
  pub us_set : us' ≡ set us v latest
  pub depth_set : depth' ≡ set depth v deep

pub data UAt (g : Graph) (s : ℕ) (u : ℕ → ℤ) (v : ℕ) (x : ℤ) : Type 0 where
  at_root : v ≡ 0 → M g s v x → UAt g s u v x
  at_other : (v ≡ 0 → ⊥) → (arrival : ℤ) → Greatest g v (λ i. u (source g i) +ℤ most g i) arrival → Capped g s v arrival x → UAt g s u v x

pub record LatestFound (g : Graph) (s : ℕ) (us₀ us : List ℤ) : Type 0 where
  pub steps : U g s (λ v. get_or us v (pos 0))
  pub within : (v : ℕ) → v < g.events → Within 2050048000 (get_or us v (pos 0))
  pub beyond : drop g.events us ≡ drop g.events us₀

pub record LatestReady (n : ℕ) (ss ts : List ℕ) (ds Ds : List ℤ) (heads nexts order : List ℕ) (s : ℕ) (us : List ℤ) (depth : List ℕ) : Type 0 where
  pub arranged : Arranged n ss ts heads nexts order
  pub graph : EventGraph 1001000 (graph_of n ss ts ds Ds)
  pub source_known : s < n
  pub us_room : n ≤ length us
  pub depth_room : n ≤ length depth
  pub root_depth : get_or depth 0 0 ≡ 0
  pub held : (v : ℕ) → v < n → MHeld (graph_of n ss ts ds Ds) s v (get_or us v (pos 0))

pub record DepthsFound (g : Graph) (depth : List ℕ) : Type 0 where
  pub each : (v : ℕ) → v < g.events → Depth g v (get_or depth v 0)
