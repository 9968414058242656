-- `rule_verdict` meets its contract: a delay outside breaks the target. Assumes nothing.
use mathlib.Core.Path.{refl}
use Rattle.std.proofs.Common.{arith}
use Rattle.std.proofs.lemmas.Int.{ints}
use Rattle.claims.proofs.rules.rule_verdict.Goals as goal
use Rattle.claims.proofs.rules.rule_verdict.Goals.{then-delay-lists-via-then-delay-lists, then-delay-lists-via-else-delay-lists+then-delay-lists-2}

pub returns-then-delay-lists : goal.returns-then-delay-lists
returns-then-delay-lists c = (
  refl,
  λ k.
      elim c.then-delay-lists.branch [
        | then-delay-lists-via-then-delay-lists w ↦ omega (arith, ints, k.from_least, w.if-delay-lists.true)
        | then-delay-lists-via-else-delay-lists+then-delay-lists-2 w ↦ omega (arith, ints, k.to_most, w.if-delay-lists-2.true)
      ],
)
