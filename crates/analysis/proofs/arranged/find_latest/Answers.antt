-- `find_latest` meets its contract: what `find_m` and `find_u` promise, put together. Assumes nothing.
use mathlib.Core.Path.{◌∙◌}
use native.Mathlib.Omega.{arith}
use lib.ListN.{set, length-set}
use lib.Seq.{get_or-set_same}
use Rattle.analysis.specs.Parts.InChains.{LatestReadyIn}
use Rattle.analysis.proofs.arranged.find_latest.Goals as goal
use Rattle.analysis.proofs.arranged.find_latest.Goals.{After-find_m}

u-ready : (c : After-find_m) → LatestReadyIn c.args.chains.now c.args.order.now c.args.s c.find_m.new.m (set c.args.depth.now 0 0)
u-ready c =
    record {
      arranged = c.requires.arranged.0;
      graph = c.requires.arranged.1;
      source_known = c.requires.in_bounds.0;
      us_room = rw c.find_m.ensures.same_length c.requires.in_bounds.2;
      depth_room = rw length-set c.requires.in_bounds.1;
      root_depth = get_or-set_same c.args.depth.now 0 0 0 (omega (arith, c.requires.in_bounds));
      held = c.find_m.ensures.each;
    }

pub find_u-requires : goal.find_u-requires
find_u-requires c = (_, u-ready (goal.at.find_u-requires c).After-find_m)

pub returns : goal.returns
returns c =
    let (latest, depths) = c.find_u.ensures _ (u-ready (goal.at.returns c).After-find_m) in
    (record { steps = latest.steps; within = latest.within; beyond = latest.beyond ∙ c.find_m.ensures.beyond }, depths)
