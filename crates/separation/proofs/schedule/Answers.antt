-- `schedule` meets its contract: what `check_counts`, `analysed`, `write_times` and `write_delays` promise, put together. Assumes nothing.
use mathlib.Core.Path.{refl, sym, subst}
use mathlib.Core.Logic.{inl, inr, ⊎_elim}
use Prim.Native.Nat.{ℕ, ◌≤◌}
use native.Mathlib.Omega.{arith}
use Rattle.std.proofs.lemmas.Result.{err_from_is_err_and}
use Rattle.graphs.specs.Lists.{graph_in}
use Rattle.graphs.specs.Limits.{CountsKept}
use Rattle.refusals.proofs.Counts.{counts_of}
use Rattle.separation.specs.Promise.{ShortLists}
use Rattle.separation.proofs.Verdicts.{answered_short}
use Rattle.separation.proofs.Times.{rule_timed}
use Rattle.separation.proofs.Exact.{answered_counts, answered_too_short, answered_analysed, lists_written}
use Rattle.separation.proofs.schedule.Goals as goal
use Rattle.separation.proofs.schedule.Goals.{In_ok-check_counts, Else-delays-lists, then-times-lists-via-then-times-lists, then-times-lists-via-else-times-lists+then-delays-lists}

counts : (c : In_ok-check_counts) → CountsKept (graph_in c.args.lists.now)
counts c = counts_of refl c.in_ok-check_counts.ensures

roomy : (c : Else-delays-lists) → ShortLists (graph_in c.args.lists.now) c.args.times.now c.args.delays.now → ⊥
roomy c = ⊎_elim (λ h. let no : ⊥ = omega (arith, c.if-times-lists.false) in no) (λ h. let no : ⊥ = omega (arith, c.if-delays-lists.false) in no)

pub returns-in_err-check_counts-clause-answered : goal.returns-in_err-check_counts-clause-answered
returns-in_err-check_counts-clause-answered c =
    let p = err_from_is_err_and c.from_residual.result c.from_residual.ensures.1 in
    rw (p.1, p.2) (answered_counts _ c.in_err-check_counts.ensures)

pub returns-then-times-lists-clause-answered : goal.returns-then-times-lists-clause-answered
returns-then-times-lists-clause-answered c =
    answered_too_short (counts (goal.at.returns-then-times-lists-clause-answered c).In_ok-check_counts)
    (elim c.then-times-lists.branch [
      | then-times-lists-via-then-times-lists w ↦ inl w.if-times-lists.true
      | then-times-lists-via-else-times-lists+then-delays-lists w ↦ inr w.if-delays-lists.true
    ])

pub returns-in_err-found-clause-answered : goal.returns-in_err-found-clause-answered
returns-in_err-found-clause-answered c =
    let p = err_from_is_err_and c.from_residual-in_err-found.result c.from_residual-in_err-found.ensures.1 in
    rw (p.1, p.2) (answered_short (λ none. absurd none) (roomy (goal.at.returns-in_err-found-clause-answered c).Else-delays-lists) (answered_analysed c.in_err-found.ensures))

pub write_delays-requires-clause-timed : goal.write_delays-requires-clause-timed
write_delays-requires-clause-timed c = λ i h.
    let found = c.in_ok-found.ensures.found refl in
    let sized = found.graph.sized in
    rule_timed c.analysed.new.latest {ss = c.args.lists.now.sources.now} {ts = c.args.lists.now.targets.now} {ds = c.args.lists.now.leasts.now}
    (omega arith) (subst (λ (m : ℕ). c.args.lists.now.events ≤ m) (sym c.write_times.auto.times) c.if-times-lists.false) found.within c.write_times.ensures (sized.ends i h) (sized.delays i h)

pub returns-clause-answered : goal.returns-clause-answered
returns-clause-answered c = answered_short (λ none. absurd none) (roomy (goal.at.returns-clause-answered c).Else-delays-lists) (answered_analysed c.in_ok-found.ensures)

pub returns-clause-written : goal.returns-clause-written
returns-clause-written c =
    lists_written refl (c.in_ok-found.ensures.found refl) c.write_times.ensures c.write_times.auto.times c.write_delays.ensures c.write_delays.auto.delays
