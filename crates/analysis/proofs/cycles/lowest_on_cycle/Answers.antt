-- `lowest_on_cycle` meets its contract: `find` gives the first of the events that lies on a cycle. Assumes nothing.
use mathlib.Core.Path.{refl}
use mathlib.Core.Bool.{true, false}
use Rattle.std.proofs.Common.{rules}
use Rattle.std.proofs.lemmas.Iterator.{first_from_Range}
use Rattle.analysis.specs.Parts.InChains.{LiesOnIn, LiesOffIn, CycleAtIn}
use Rattle.analysis.proofs.Searching.{lowest_in_range}
use Rattle.analysis.proofs.cycles.lowest_on_cycle.Goals as goal

pub returns : goal.returns
returns c =
    lowest_in_range _ _ _ _
    (first_from_Range _ _ _ _ (LiesOnIn c.args.chains.now) (LiesOffIn c.args.chains.now) c.find.ensures.ran
    (λ v q k. let is : CycleAtIn c.args.chains.now v true = search rules in is.on refl)
    (λ v q k. let is : CycleAtIn c.args.chains.now v false = search rules in (search rules, is.off refl)))
