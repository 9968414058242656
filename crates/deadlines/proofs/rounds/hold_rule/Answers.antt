-- `hold_rule` meets its contract: what the two calls of `hold` promise, put together. Assumes nothing.
use mathlib.Core.Path.{sym, subst}
use lib.Dec.{lit<}
use mir.Syntax.{w64}
use Rattle.integers.specs.Within.{Within}
use Rattle.integers.proofs.Word.{read_back, within_negation}
use Rattle.deadlines.proofs.Words.{minus_back}
use Rattle.deadlines.proofs.Holding.{read_arc, rule_held}
use Rattle.deadlines.proofs.rounds.hold_rule.Goals as goal

pub hold-back-requires-clause-within : goal.hold-back-requires-clause-within
hold-back-requires-clause-within c =
    let ends = c.requires.sized.ends c.args.i c.requires.rule_known in
    let least = (c.requires.sized.delays c.args.i c.requires.rule_known).least_within in
    (subst (Within 1000000) (sym (minus_back 1000000 _ (lit< tt) least)) (within_negation least), c.hold-forth.ensures.within _ (c.requires.n_in_bounds.1 _ ends.target_known))

pub returns : goal.returns
returns c =
    let delays = c.requires.sized.delays c.args.i c.requires.rule_known in
    rule_held (read_arc (read_back w64 1000000 _ (lit< tt) delays.most_within) c.hold-forth.ensures) (read_arc (minus_back 1000000 _ (lit< tt) delays.least_within) c.hold-back.ensures)
