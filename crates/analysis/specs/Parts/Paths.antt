-- What the walk that finds m holds, event by event.
--     absent               == the number that stands where there is no m: 2,100,000,000, which no sum of delays comes to
--     Via Q p              == p is empty, or its first rule satisfies Q
--     LeastBy g s Q v x    == x is the least −(sum of d) over those paths from v to s, or absent; where there is one, x is no more than its
--     MHeld g s v x        == x is m(v), or absent where there is no path from v to s
--     Pushed rank k e i    == rule i has been passed, by the same clock as in Placing.antt: its target has rank below k, or rank k and e ≤ i
--     PushReady … v        == what is asked before the rules into v are gone through
--     MReady, MPass, MAll  == what is asked before the walk; what holds after k events; and at the end
--     PassReady            == what is asked once the list has been cleared
-- Assumes nothing.
use Rattle.std.specs.Prelude.{◌≡◌, ◌⊎◌, List, ℕ, ◌+◌, ◌*◌, ◌<◌, ◌≤◌, ℤ, pos, neg_ℤ, ◌≤ℤ◌, length, get_or, drop}
use Rattle.graphs.specs.Graph.{Graph, graph_of, target}
use Rattle.graphs.specs.Path.{Path, stay, step, least_sum}
use Rattle.graphs.specs.Limits.{Sized}
use Rattle.executions.specs.Steps.{M}
use Rattle.analysis.specs.Parts.Reach.{Arranged}

abbrev pub absent : ℤ
absent = pos 2100000000

abbrev pub Via : {g : Graph} {u v : ℕ} → (ℕ → Type 0) → Path g u v → Type 0
Via Q stay = Unit {0}
Via Q (step i h e f p) = Q i

pub record LeastBy (g : Graph) (s : ℕ) (Q : ℕ → Type 0) (v : ℕ) (x : ℤ) : Type 0 where
  pub reached : (x ≡ absent) ⊎ ((p : Path g v s) × Via Q p × (neg_ℤ (least_sum p) ≡ x))
  pub bound : (p : Path g v s) → Via Q p → x ≤ℤ neg_ℤ (least_sum p)

pub data MHeld (g : Graph) (s v : ℕ) (x : ℤ) : Type 0 where
  there : M g s v x → MHeld g s v x
  none : x ≡ absent → (Path g v s → ⊥) → MHeld g s v x

abbrev pub Pushed : Graph → (ℕ → ℕ) → ℕ → ℕ → ℕ → Type 0
Pushed g rank k e i = rank (target g i) * 5000 + e ≤ k * 5000 + i

pub record MReady (n : ℕ) (ss ts : List ℕ) (ds Ds : List ℤ) (heads nexts order : List ℕ) (s : ℕ) (m : List ℤ) : Type 0 where
  pub arranged : Arranged n ss ts heads nexts order
  pub sized : Sized 1001000 (graph_of n ss ts ds Ds)
  pub source_known : s < n
  pub room : n ≤ length m

-- m₀ is what the list held before the walk
pub record MPass (g : Graph) (s : ℕ) (rank : ℕ → ℕ) (k e : ℕ) (m₀ m : List ℤ) : Type 0 where
  pub each : (v : ℕ) → v < g.events → LeastBy g s (Pushed g rank k e) v (get_or m v (pos 0))
  pub beyond : drop g.events m ≡ drop g.events m₀
  pub same_length : length m ≡ length m₀

pub record PushReady (n : ℕ) (ss ts : List ℕ) (ds Ds : List ℤ) (heads nexts order : List ℕ) (s k v : ℕ) (m₀ m : List ℤ) : Type 0 where
  pub ready : MReady n ss ts ds Ds heads nexts order s m
  pub place : k < n
  pub here : get_or order k 0 ≡ v
  pub some : get_or m v (pos 0) ≡ absent → ⊥
  pub pass : MPass (graph_of n ss ts ds Ds) s ready.arranged.rank k 5000 m₀ m

pub record PassReady (n : ℕ) (ss ts : List ℕ) (ds Ds : List ℤ) (heads nexts order : List ℕ) (s : ℕ) (m₀ m : List ℤ) : Type 0 where
  pub ready : MReady n ss ts ds Ds heads nexts order s m
  pub pass : MPass (graph_of n ss ts ds Ds) s ready.arranged.rank 0 5000 m₀ m

pub record MAll (g : Graph) (s : ℕ) (m₀ m : List ℤ) : Type 0 where
  pub each : (v : ℕ) → v < g.events → MHeld g s v (get_or m v (pos 0))
  pub beyond : drop g.events m ≡ drop g.events m₀
  pub same_length : length m ≡ length m₀
