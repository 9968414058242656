-- `settle` meets its contract: it writes down what `pull` finds. Assumes nothing.
use mathlib.Core.Path.{◌≡◌, refl}
use lib.IntN.{pos}
use lib.ListN.{get_or}
use mir.Syntax.{w32}
use mir.Val.{to_z, of_z}
use mir.ValLaws.{to_z-of_z}
use Rattle.executions.specs.Steps.{Lesser}
use Rattle.analysis.proofs.Extremes.{least_is}
use Rattle.analysis.proofs.latest.settle.Goals as goal

pub returns : goal.returns
returns c =
    let held : to_z w32 (of_z w32 c.min.result) ≡ c.min.result = to_z-of_z w32 _ (record { sfits = c.min.type_inv }) in
    let told : to_z w32 (of_z w32 c.pull-here.result.time) ≡ c.pull-here.result.time = to_z-of_z w32 _ (record { sfits = search c.pull-here.type_inv }) in
    let was : to_z w32 (of_z w32 (get_or c.args.us.now c.args.v (pos 0))) ≡ get_or c.args.us.now c.args.v (pos 0) = to_z-of_z w32 _ (record { sfits = search }) in
    let less : Lesser (to_z w32 (of_z w32 (get_or c.args.us.now c.args.v (pos 0)))) (to_z w32 (of_z w32 c.pull-here.result.time)) c.min.result = least_is _ _ _ c.min.ensures.value in
    record {
      time = c.pull-here.result.time;
      deep = c.pull-here.result.depth;
      latest = to_z w32 (of_z w32 c.min.result);
      greatest = c.pull-here.ensures;
      lesser = rw held (rw (told, was) at less);
      us_set = refl;
      depth_set = refl;
    }
