-- `analyse_within` meets its contract: what its parts promise, put together. Assumes nothing.
use mathlib.Core.Path.{refl, sym, subst}
use Prim.Native.Nat.{ℕ, ◌<◌}
use native.Mathlib.Omega.{arith}
use lib.ListN.{length}
use Rattle.std.proofs.lemmas.Result.{err_from_is_err_and}
use Rattle.graphs.specs.Lists.{graph_in}
use Rattle.graphs.specs.Limits.{Sized}
use Rattle.refusals.specs.Question.{delay_limit}
use Rattle.refusals.proofs.Question.{QuestionKept}
use Rattle.analysis.proofs.Arranging.{sized_right, right_sized, cycle_refused, path_refused}
use Rattle.analysis.proofs.Promises.{analysed_input, analysed_paths, not_kept}
use Rattle.analysis.proofs.arranged.analyse_within.Goals as goal
use Rattle.analysis.proofs.arranged.analyse_within.Goals.{Start, Else-not-take_rules}

room : {g : _} (c : Start g) → length c.args.latest.now < c.args.lists.now.events → ⊥
room c l = omega (arith, c.requires.counts_kept)

question : {g : _} (c : Else-not-take_rules g) → QuestionKept (delay_limit c.args.limit) (graph_in c.args.lists.now) c.args.s c.args.t
question c =
    record {
      sized = subst (λ (b : ℕ). Sized b (graph_in c.args.lists.now)) c.delay_limit-bound.ensures (sized_right c.requires.counts_kept.0 (c.take_rules.ensures.right c.if-not-take_rules.false));
      source_known = c.requires.counts_kept.1;
      target_known = c.requires.counts_kept.2;
    }

pub input_refusal-requires : goal.input_refusal-requires
input_refusal-requires g c =
    not_kept c.args.limit (graph_in c.args.lists.now) c.args.s c.args.t
    (λ k. c.take_rules.ensures.wrong c.if-not-take_rules.true (right_sized (subst (λ (b : ℕ). Sized b (graph_in c.args.lists.now)) (sym c.delay_limit-bound.ensures) k.sized)))

pub returns-then-not-take_rules : goal.returns-then-not-take_rules
returns-then-not-take_rules g c = analysed_input (room (goal.at.returns-then-not-take_rules g c).Start) c.input_refusal.ensures

pub returns-in_err-arrange : goal.returns-in_err-arrange
returns-in_err-arrange g c =
    let p = err_from_is_err_and c.from_residual.result c.from_residual.ensures.1 in
    rw (p.1, p.2) (analysed_paths _ (room (goal.at.returns-in_err-arrange g c).Start) (question (goal.at.returns-in_err-arrange g c).Else-not-take_rules) refl (path_refused (cycle_refused _ c.in_err-arrange.ensures)))

pub returns : goal.returns
returns g c = analysed_paths _ (room (goal.at.returns g c).Start) (question (goal.at.returns g c).Else-not-take_rules) c.analyse_arranged.auto.latest c.analyse_arranged.ensures
