-- How large the numbers of a long run can be: 64 bits hold them and their sums, 32 do not.
--     rounds_few          32 process events and 100,000 copies have at most 3,200,000 occurrences
--     cap_size            m lies within 3,200,000,000,000
--     set_size            so does every l of a fully pruned set, and every w that is a number within twice that
--     set_numbered        and every l is a number
--     near_of             a limit within such bounds is near, as the functions of sets ask
--     step_addable        the pair of a template and a pair of a set ahead can be composed
--     root_summable       m(root) and a pair of the root's set can be summed
-- A path has at most one rule for each occurrence, and a delay lies within 1,000,000. Assumes nothing.
use mathlib.Core.Path.{◌≡◌, subst}
use mathlib.Core.List.{List}
use Prim.Native.Nat.{ℕ, suc, ◌+◌, ◌*◌, ◌<◌, ◌≤◌}
use native.Mathlib.Nat.{mul-le-mul_left, mul-le-mul_right}
use native.Mathlib.Omega.{arith}
use lib.IntN.{ℤ}
use Rattle.integers.specs.Within.{Within}
use Rattle.integers.proofs.Word.{within_wider}
use Rattle.graphs.specs.Graph.{Graph}
use Rattle.sets.specs.Limit.{Limit, number}
use Rattle.sets.specs.Pair.{Pair, pair}
use Rattle.sets.specs.Set.{◌∈◌}
use Rattle.sets.specs.Promise.{Near, Addable, Summable, sum_within}
use Rattle.sets.proofs.Limits.{number_same}
use Rattle.paths.specs.Cap.{CapOf}
use Rattle.paths.specs.Parts.Solved.{Solved}
use Rattle.paths.proofs.Caps.{cap_m}
use Rattle.paths.proofs.Sizes.{LimitWithin, PairWithin, m_within, closed_within}
use Rattle.levels.proofs.Sound.{Fit, unfolded_sound, unfolded_delays}
use Rattle.processes.specs.Process.{ProcessGraph}
use Rattle.processes.specs.Unfolding.{Unfolds}

pub rounds_few : (p K : ℕ) → p ≤ 32 → K ≤ 100000 → 1000000 * (p * K) ≤ 3200000000000
rounds_few p K few copies = omega (arith, mul-le-mul_left p copies, mul-le-mul_right 100000 few)

pub near_of : {b : ℕ} {c : Limit} → b ≤ 4000000000000000000 → LimitWithin b c → Near c
near_of small h = record { near = λ a e. within_wider small (h.within a e) }

module _ {g : ProcessGraph} {K : ℕ} {graph : Graph} (fit : Fit g) (unfolds : Unfolds g K graph) (few : g.events ≤ 32) (copies : K ≤ 100000)
    {s t : ℕ} {cap : ℕ → Limit} {full : ℕ → List Pair} (solved : Solved graph s t cap full) (hs : s < graph.events) where
  events_few : graph.events ≤ suc (g.events * K)
  events_few = omega (arith, unfolds.event_count)

  pub cap_size : (v : ℕ) → LimitWithin 3200000000000 (cap v)
  cap_size v =
      record {
        within = λ a e.
            within_wider (rounds_few g.events K few copies)
            (m_within (unfolded_sound fit unfolds) events_few (unfolded_delays fit unfolds) hs (cap_m (subst (CapOf graph s v) e (solved.caps v))));
      }

  module _ (ht : t < graph.events) where
    pub set_size : (v : ℕ) (q : Pair) → q ∈ full v → PairWithin 3200000000000 6400000000000 q
    set_size v q m =
        let small : 1000000 * (g.events * K) ≤ 3200000000000 = rounds_few g.events K few copies in
        let h : PairWithin (1000000 * (g.events * K)) (1000000 * (g.events * K) + 1000000 * (g.events * K)) q =
        closed_within (unfolded_sound fit unfolds) events_few (unfolded_delays fit unfolds) hs ht (record { each = λ v l. solved.caps v })
        (solved.sets.each v).closes q m in
        record {
          l_within = record { within = λ a e. within_wider small (h.l_within.within a e) };
          w_within = record { within = λ a e. within_wider (omega (arith, small)) (h.w_within.within a e) };
        }

    pub set_numbered : (v : ℕ) (q : Pair) → q ∈ full v → (a : ℤ) × (q.l ≡ number a)
    set_numbered v = (solved.sets.each v).numbered.number_of

    pub step_addable : (D : ℤ) → Within 1000000 D → (v : ℕ) (q : Pair) → q ∈ full v → Addable (pair (number D) (cap v)) q
    step_addable D h v q m =
        record {
          l_near = record { near = λ a e. subst (Within 4000000000000000000) (number_same e) (within_wider (omega arith) h) };
          w_near = near_of (omega arith) (cap_size v);
          step_near = near_of (omega arith) (set_size v q m).l_within;
        }

    pub root_summable : {x : ℤ} → cap 0 ≡ number x → (q : Pair) → q ∈ full 0 → Summable x q
    root_summable {x} e q m =
        let (a, f) = set_numbered 0 q m in
        sum_within a f (within_wider (omega arith) ((cap_size 0).within x e)) (within_wider (omega arith) ((set_size 0 q m).l_within.within a f))
