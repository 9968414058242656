-- `unfold` meets its contract: what `check_process` and `write_rules` promise, put together. Assumes nothing.
use mathlib.Core.Path.{◌≡◌, refl}
use Prim.Native.Nat.{min}
use native.Mathlib.Omega.{arith}
use lib.ListN.{length}
use Rattle.std.proofs.lemmas.Result.{err_from_is_err_and}
use Rattle.processes.proofs.Verdicts.{answered_lists}
use Rattle.processes.proofs.Writing.{lists_written}
use Rattle.processes.proofs.unfold.Goals as goal
use Rattle.processes.proofs.unfold.Goals.{After-min-places}

shortest : (c : After-min-places) →
    c.min-places.result ≡
    min (min (min (length c.args.out_sources.now) (length c.args.out_targets.now)) (length c.args.out_leasts.now)) (length c.args.out_mosts.now)
shortest c = omega (arith, c.min.ensures, c.min-2.ensures, c.min-places.ensures)

pub returns-in_err-unfolding-clause-unfolding_answered : goal.returns-in_err-unfolding-clause-unfolding_answered
returns-in_err-unfolding-clause-unfolding_answered c =
    let p = err_from_is_err_and c.from_residual.result c.from_residual.ensures.1 in
    rw (p.1, p.2) (answered_lists (shortest (goal.at.returns-in_err-unfolding-clause-unfolding_answered c).After-min-places) c.in_err-unfolding.ensures.answered)

pub returns-clause-unfolding_answered : goal.returns-clause-unfolding_answered
returns-clause-unfolding_answered c = answered_lists (shortest (goal.at.returns-clause-unfolding_answered c).After-min-places) c.in_ok-unfolding.ensures.answered

pub returns-clause-unfolding_written : goal.returns-clause-unfolding_written
returns-clause-unfolding_written c =
    let least = shortest (goal.at.returns-clause-unfolding_written c).After-min-places in
    let room = (c.in_ok-unfolding.ensures.kept refl).room in
    lists_written (omega (arith, least, room), omega (arith, least, room), omega (arith, least, room), omega (arith, least, room)) refl c.write_rules.ensures
