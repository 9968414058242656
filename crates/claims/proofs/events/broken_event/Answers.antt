-- `broken_event` meets its contract. Assumes nothing.
use mathlib.Core.Path.{◌≡◌, refl, sym, ap, ◌∙◌}
use lib.IntN.{pos}
use Rattle.std.proofs.Common.{rules}
use native.Mathlib.Omega.{arith}
use mir.Syntax.{w64}
use mir.Val.{SFits, to_z}
use mir.Facts.{to_z-of_z}
use Rattle.separation.specs.Promise.{at}
use Rattle.claims.proofs.Breaking.{met_root, met_at_root, events_judged}
use Rattle.claims.proofs.events.broken_event.Goals as goal

pub returns : goal.returns
returns c =
    let fits : SFits w64 (at c.args.claim.now.times.now 0) = search rules in
    let root : at c.args.claim.now.times.now 0 ≡ pos 0 = sym (to_z-of_z fits) ∙ ap (to_z w64) c.if-claim-ne0.false in
    rw (c.or.ensures, c.then_some.ensures)
    (events_judged _ _ _ c.args.claim.now.root_free root _ _ _ (met_root 1024) (met_at_root 1024 (omega arith)) c.mark_rules-unbroken.ensures _ _ refl c.lowest_unmet.ensures)
