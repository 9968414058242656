-- `analysed` meets its contract: what `analyse` promises, with U(t) read off. Assumes nothing.
use lib.Dec.{lit<}
use mathlib.Core.Path.{◌∙◌}
use mir.Syntax.{w32, w64}
use mir.ValLaws.{to_z-of_z}
use Rattle.integers.proofs.Word.{read_back}
use Rattle.std.proofs.lemmas.Result.{err_from_is_err_and}
use Rattle.separation.proofs.Analyses.{answer_refused, answer_found}
use Rattle.separation.proofs.answers.analysed.Goals as goal
use Rattle.separation.proofs.answers.analysed.Goals.{In_ok-depths}

pub returns-in_err-depths : goal.returns-in_err-depths
returns-in_err-depths c =
    let p = err_from_is_err_and c.from_residual.result c.from_residual.ensures.1 in
    rw (p.1, p.2) (answer_refused c.requires c.in_err-depths.ensures)

pub returns : goal.returns
returns c =
    let found = c.in_ok-depths.ensures.outcome in
    answer_found c.requires _ c.in_ok-depths.ensures
    (to_z-of_z w64 c.from.result (record { sfits = c.from.type_inv }) ∙ c.from.ensures ∙ read_back w32 2050048000 _ (lit< tt) (found.within _ found.target_known))
