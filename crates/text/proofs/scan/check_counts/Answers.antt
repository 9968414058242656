-- `check_counts` meets its contract: each test that fails is one way to be refused, and past all of them none applies. Assumes nothing.
use Rattle.text.proofs.Counts.{count_21, count_22, count_23, count_0}
use Rattle.text.proofs.scan.check_counts.Goals as goal

pub returns-then-found-gt-MAX_EVENTS : goal.returns-then-found-gt-MAX_EVENTS
returns-then-found-gt-MAX_EVENTS c = count_21 c.if-found-gt-MAX_EVENTS.true

pub returns-then-found-gt-MAX_RULES : goal.returns-then-found-gt-MAX_RULES
returns-then-found-gt-MAX_RULES c = count_22 c.if-found-gt-MAX_EVENTS.false c.if-found-gt-MAX_RULES.true

pub returns-then-found-places : goal.returns-then-found-places
returns-then-found-places c = count_23 c.if-found-gt-MAX_EVENTS.false c.if-found-gt-MAX_RULES.false c.if-found-places.true

pub returns : goal.returns
returns c = count_0 c.if-found-gt-MAX_EVENTS.false c.if-found-gt-MAX_RULES.false c.if-found-places.false
