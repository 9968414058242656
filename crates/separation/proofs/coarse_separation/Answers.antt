-- `coarse_separation` meets its contract: what `check_input`, `round_delays` and `analysed_rounded` promise, put together. Assumes nothing.
use mathlib.Core.Path.{refl}
use Rattle.std.proofs.lemmas.Result.{err_from_is_err_and}
use Rattle.verdicts.specs.Verdict.{Accepted}
use Rattle.graphs.specs.Lists.{graph_in}
use Rattle.refusals.proofs.Question.{QuestionKept, question_kept}
use Rattle.separation.proofs.Coarsely.{step_verdict, step_in, low_room, high_room, rounded_lists, coarse_refused, coarse_step_refused, coarse_analysed}
use Rattle.separation.proofs.coarse_separation.Goals as goal
use Rattle.separation.proofs.coarse_separation.Goals.{In_ok-check_input}

kept : (c : In_ok-check_input) → QuestionKept 1000000 (graph_in c.args.lists.now) c.args.s c.args.t
kept c = (question_kept Accepted refl c.in_ok-check_input.ensures).0

pub returns-in_err-check_input : goal.returns-in_err-check_input
returns-in_err-check_input c =
    let p = err_from_is_err_and c.from_residual.result c.from_residual.ensures.1 in
    rw (p.1, p.2) (coarse_refused _ c.in_err-check_input.ensures)

pub returns-in_err-round_delays : goal.returns-in_err-round_delays
returns-in_err-round_delays c =
    let p = err_from_is_err_and c.from_residual-in_err-round_delays.result c.from_residual-in_err-round_delays.ensures.1 in
    let k = kept (goal.at.returns-in_err-round_delays c).In_ok-check_input in
    rw (p.1, p.2)
    (coarse_step_refused _ k (step_verdict _ _ k.sized (refl {a = 4096}) (refl {a = 4096}) c.in_err-round_delays.ensures))

pub analysed_rounded-requires : goal.analysed_rounded-requires
analysed_rounded-requires c =
    let sized = (kept (goal.at.analysed_rounded-requires c).In_ok-check_input).sized in
    let rounded = c.in_ok-round_delays.ensures in
    (low_room _ _ sized (refl {a = 4096}) (refl {a = 4096}) rounded, high_room _ _ sized (refl {a = 4096}) (refl {a = 4096}) rounded)

pub returns : goal.returns
returns c =
    let k = kept (goal.at.returns c).In_ok-check_input in
    let rounded = c.in_ok-round_delays.ensures in
    coarse_analysed k (step_in _ _ k.sized (refl {a = 4096}) (refl {a = 4096}) rounded) (rounded_lists _ _ k.sized (refl {a = 4096}) (refl {a = 4096}) rounded)
    c.analysed_rounded.ensures.1
