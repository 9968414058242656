-- Every choice of delays is an execution's: times follow from the delays taken, event by event, in an order where sources come first.
--     Follows           times that follow from the delays taken
--     times_follow      for a sound graph and any delay for each rule there are times with the root at 0 and every other event at the greatest arrival
-- They are the values that settle where the arrival is left as it is. Assumes nothing.
use mathlib.Core.Path.{◌≡◌, sym, subst}
use Prim.Native.Nat.{ℕ, ◌<◌}
use lib.IntN.{ℤ, pos, ◌+ℤ◌}
use Rattle.graphs.specs.Graph.{Graph, source, Greatest}
use Rattle.graphs.specs.Limits.{SoundGraph}
use Rattle.executions.proofs.Rounds.{values_settle}

-- times that follow from the delays taken
pub record Follows (g : Graph) (delay time : ℕ → ℤ) : Type 0 where
  pub root : time 0 ≡ pos 0
  pub others : (v : ℕ) → v < g.events → (v ≡ 0 → ⊥) → Greatest g v (λ i. time (source g i) +ℤ delay i) (time v)

pub times_follow : {g : Graph} (sound : SoundGraph g) (delay : ℕ → ℤ) → (time : ℕ → ℤ) × Follows g delay time
times_follow {g} sound delay =
    let (time, s) = values_settle sound (pos 0) delay (λ v x. x) in (
      time,
      record {
        root = s.root;
        others = λ v h n.
            let a = s.others v h n in
            subst (Greatest g v (λ i. time (source g i) +ℤ delay i)) (sym a.finished) a.greatest;
      },
    )
