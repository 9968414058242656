-- `latest_gaps` meets its contract: what the analysis, `write_gaps` and `settle` promise, put together. Assumes nothing.
use mathlib.Core.Path.{refl}
use native.Mathlib.Omega.{arith}
use lib.IntN.{pos}
use lib.ListN.{replicate}
use Rattle.std.proofs.lemmas.Result.{err_from_is_err_and}
use Rattle.graphs.specs.Lists.{graph_in}
use Rattle.deadlines.specs.Parts.Gaps.{Starts}
use Rattle.deadlines.proofs.Answers.{times_small, gaps_small, starts_of, answered_local, gaps_refused, gaps_none, gaps_found}
use Rattle.deadlines.proofs.gaps.latest_gaps.Goals as goal
use Rattle.deadlines.proofs.gaps.latest_gaps.Goals.{After-write_gaps}

starts : (c : After-write_gaps) → Starts (graph_in c.args.lists.now) c.args.s c.write_gaps.new.gaps
starts c =
    let asked = c.in_ok-ordinary.ensures in
    let found = asked.answered.found refl in
    starts_of found.graph found.source_known _ _ (asked.written.schedule refl) c.write_gaps.ensures

pub returns-in_err-ordinary : goal.returns-in_err-ordinary
returns-in_err-ordinary c =
    let p = err_from_is_err_and c.from_residual.result c.from_residual.ensures.1 in
    rw (p.1, p.2) (gaps_refused _ (answered_local (replicate 1024 (pos 0)) (replicate 4096 (pos 0)) (refl {a = 1024}) (refl {a = 4096}) c.in_err-ordinary.ensures.answered))

pub write_gaps-requires-clause-numbers_within : goal.write_gaps-requires-clause-numbers_within
write_gaps-requires-clause-numbers_within c =
    let asked = c.in_ok-ordinary.ensures in
    let found = asked.answered.found refl in
    times_small found.graph found.source_known _ _ (asked.written.schedule refl)

pub settle-requires-clause-n_in_bounds : goal.settle-requires-clause-n_in_bounds
settle-requires-clause-n_in_bounds c =
    let asked = c.in_ok-ordinary.ensures in
    let found = asked.answered.found refl in
    (omega (arith, c.write_gaps.auto.gaps, found.graph.sized.counts.few_events), gaps_small found.graph found.source_known _ _ (asked.written.schedule refl) c.write_gaps.ensures)

pub returns-then-not-settle : goal.returns-then-not-settle
returns-then-not-settle c = gaps_none (c.in_ok-ordinary.ensures.answered.found refl) (starts (goal.at.returns-then-not-settle c).After-write_gaps) c.settle.ensures c.if-not-settle.true

pub returns : goal.returns
returns c = gaps_found (c.in_ok-ordinary.ensures.answered.found refl) (starts (goal.at.returns c).After-write_gaps) c.settle.ensures c.if-not-settle.false
