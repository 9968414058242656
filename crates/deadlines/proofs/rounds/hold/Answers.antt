-- `hold` meets its contract: the sum fits its word, and the test says whether the number is lowered. Assumes nothing.
use mathlib.Core.Path.{◌≡◌}
use Rattle.std.proofs.Common.{rules}
use mathlib.Core.Bool.{true, false}
use lib.Dec.{lit<}
use lib.IntN.{◌+ℤ◌}
use lib.Signed.{lt_z}
use mir.Syntax.{w64}
use mir.Val.{SFits, to_z, of_z}
use mir.ValLaws.{to_z-of_z}
use Rattle.integers.proofs.Integer.{linear}
use Rattle.integers.proofs.Word.{sum_back}
use Rattle.separation.specs.Promise.{at}
use Rattle.deadlines.proofs.Holding.{CutOff, cut_off, arc_lowered, arc_kept}
use Rattle.deadlines.proofs.rounds.hold.Goals as goal
use Rattle.deadlines.proofs.rounds.hold.Goals.{After-max-bound}

cut : (c : After-max-bound) → CutOff (at c.args.numbers.now c.args.from +ℤ c.args.weight) c.max-bound.result
cut c = rw (c.max-bound.ensures.value, sum_back w64 2046000001 1000000 _ _ (lit< tt) c.requires.within.1 c.requires.within.0) (cut_off _)

pub returns-then-bound-numbers : goal.returns-then-bound-numbers
returns-then-bound-numbers c =
    let f : SFits w64 (at c.args.numbers.now c.args.to) = search rules in
    let n : to_z w64 (of_z w64 (at c.args.numbers.now c.args.to)) ≡ at c.args.numbers.now c.args.to = to_z-of_z w64 (at c.args.numbers.now c.args.to) f in
    let r : to_z w64 (of_z w64 c.max-bound.result) ≡ c.max-bound.result = to_z-of_z w64 c.max-bound.result (record { sfits = c.max-bound.type_inv }) in
    let test : lt_z c.max-bound.result (at c.args.numbers.now c.args.to) ≡ true = rw (r, n) at c.if-bound-numbers.true in
    rw r (arc_lowered _ _ _ _ (cut (goal.at.returns-then-bound-numbers c).After-max-bound) c.requires.in_bounds.1 (omega linear))

pub returns : goal.returns
returns c =
    let f : SFits w64 (at c.args.numbers.now c.args.to) = search rules in
    let n : to_z w64 (of_z w64 (at c.args.numbers.now c.args.to)) ≡ at c.args.numbers.now c.args.to = to_z-of_z w64 (at c.args.numbers.now c.args.to) f in
    let r : to_z w64 (of_z w64 c.max-bound.result) ≡ c.max-bound.result = to_z-of_z w64 c.max-bound.result (record { sfits = c.max-bound.type_inv }) in
    let test : lt_z c.max-bound.result (at c.args.numbers.now c.args.to) ≡ false = rw (r, n) at c.if-bound-numbers.false in
    arc_kept _ _ _ _ (cut (goal.at.returns c).After-max-bound) (omega linear)
