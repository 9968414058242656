-- `find_m` meets its contract: what `clear` and `push_all` promise, put together. Assumes nothing.
use mathlib.Core.Path.{◌≡◌}
use native.Mathlib.Omega.{arith}
use lib.IntN.{pos}
use lib.ListN.{length, set, length-set}
use Rattle.analysis.specs.Parts.InChains.{PassReadyIn}
use Rattle.analysis.proofs.MPass.{pass_begin}
use Rattle.analysis.proofs.paths.find_m.Goals as goal
use Rattle.analysis.proofs.paths.find_m.Goals.{After-clear}

begun : (c : After-clear) → PassReadyIn c.args.chains.now c.args.order.now c.args.s c.args.m.now (set c.clear.new.m c.args.s (pos 0))
begun c =
    let r = c.requires in
    let same : length c.clear.new.m ≡ length c.args.m.now = c.clear.auto.m in
    record {
      ready = record { arranged = r.arranged; sized = r.sized; source_known = r.source_known; room = rw (length-set, same) r.room };
      pass = pass_begin _ _ _ _ _ _ _ _ _ r.arranged r.sized _ _ r.source_known (omega (arith, r.room)) c.clear.ensures.each c.clear.ensures.beyond same;
    }

pub push_all-requires : goal.push_all-requires
push_all-requires c = (_, _, begun (goal.at.push_all-requires c).After-clear)

pub returns : goal.returns
returns c = c.push_all.ensures _ _ (begun (goal.at.returns c).After-clear)
