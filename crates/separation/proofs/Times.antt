-- From the times that `write_times` leaves to what `write_delays` asks.
--     time_within               the times that `write_times` leaves are small
--     rule_timed                so they are what `write_delays` asks of each rule
-- Assumes nothing.
use mathlib.Core.Path.{sym, subst}
use mathlib.Core.List.{List}
use Prim.Native.Nat.{ℕ, ◌<◌, ◌≤◌}
use native.Mathlib.Omega.{arith}
use lib.IntN.{ℤ, pos}
use lib.ListN.{length, get_or}
use Rattle.integers.specs.Within.{Within}
use Rattle.sequences.specs.Filled.{Filled}
use Rattle.integers.proofs.Word.{within_wider, within_difference}
use Rattle.graphs.specs.Graph.{graph_of}
use Rattle.graphs.specs.Limits.{EndsKept, DelaysKept}
use Rattle.separation.specs.Parts.Lists.{TimeAt, RuleTimed}

pub time_within : (us : List ℤ) {n v : ℕ} {old new : List ℤ} →
    ((u : ℕ) → u < n → Within 2050048000 (get_or us u (pos 0))) →
    Filled (pos 0) n (TimeAt us) old new →
    v < n →
    Within 4100096000 (get_or new v (pos 0))
time_within us {v = v} near f l = subst (Within 4100096000) (sym (f.each v l)) (within_difference (near v l) (near 0 (omega arith)))

pub rule_timed : (us : List ℤ) {n b i : ℕ} {ss ts : List ℕ} {ds Ds old new : List ℤ} →
    b ≤ 1001000 →
    n ≤ length new →
    ((u : ℕ) → u < n → Within 2050048000 (get_or us u (pos 0))) →
    Filled (pos 0) n (TimeAt us) old new →
    EndsKept (graph_of n ss ts ds Ds) i →
    DelaysKept b (graph_of n ss ts ds Ds) i →
    RuleTimed ss ts Ds new i
rule_timed us small room near f ends delays =
    record {
      source_known = omega (arith, ends.source_known);
      target_known = omega (arith, ends.target_known);
      source_within = time_within us near f ends.source_known;
      target_within = time_within us near f ends.target_known;
      most_within = within_wider small delays.most_within;
    }
