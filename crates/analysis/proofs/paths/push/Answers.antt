use mathlib.Core.Path.{◌≡◌, ◌∙◌}
use native.Mathlib.Omega.{arith}
use lib.Dec.{lit<}
use lib.IntN.{pos, ◌-ℤ◌}
use lib.ListN.{get_or}
use mir.Syntax.{w32}
use mir.Val.{to_z, of_z}
use mir.ValLaws.{to_z-of_z}
use Rattle.integers.proofs.Word.{difference_fits, difference_back}
use Rattle.analysis.proofs.Extremes.{least_is}
use Rattle.analysis.proofs.PushLaws.{pushing_begins, pushing_rule, pushing_ends, RuleHere, rule_here}
use Rattle.analysis.proofs.paths.push.Goals as goal
use Rattle.analysis.proofs.paths.push.Goals.{In-Some}

here : (c : In-Some) → RuleHere c.args.chains.now.lists.sources.now c.args.chains.now.lists.leasts.now c.loop-i.m (get_or c.args.m.now c.args.v (pos 0)) c.in-Some.i
here c = let (order, s, k, m₋, r) = c.requires in rule_here _ _ _ _ _ _ _ order s k _ m₋ _ r _ _ _ (c.loop-i.invariant.1 order s k m₋ r) _ c.in-Some.ensures.steps.0

pub loop-i-init : goal.loop-i-init
loop-i-init c =
    rw c.into_iter-i-iterator.ensures.into_iter_gives
    (c.rules_into-i-items.ensures.1, λ order s k m₋ r. rw c.rules_into-i-items.ensures.0 (pushing_begins _ _ _ _ _ _ _ order s k _ m₋ _ r))

pub offset_bounds-chains-i : goal.offset_bounds-chains-i
offset_bounds-chains-i c = record { fits = omega (arith, (here c).few_rules, (here c).in_sources) }

pub bounds-chains-i : goal.bounds-chains-i
bounds-chains-i c = (here (goal.at.bounds-chains-i c).In-Some).in_sources

pub delay_of-requires : goal.delay_of-requires
delay_of-requires c = let h = here (goal.at.delay_of-requires c).In-Some in (h.in_leasts, h.least_within)

pub overflow_sub-here : goal.overflow_sub-here
overflow_sub-here c =
    let h = here (goal.at.overflow_sub-here c).In-Some in
    rw c.delay_of.ensures (difference_fits w32 1025024000 1001000 _ _ (lit< tt) h.y_within h.least_within)

pub offset_bounds-m-u-in-loop-i : goal.offset_bounds-m-u-in-loop-i
offset_bounds-m-u-in-loop-i c = record { fits = omega (arith, (here (goal.at.offset_bounds-m-u-in-loop-i c).In-Some).small) }

pub bounds-m-u : goal.bounds-m-u
bounds-m-u c = (here (goal.at.bounds-m-u c).In-Some).in_m

pub loop-i-preserved : goal.loop-i-preserved
loop-i-preserved c =
    let (it, same, next) = c.in-Some.ensures.steps in
    let h = here (goal.at.loop-i-preserved c).In-Some in
    let was : to_z w32 (of_z w32 (get_or c.loop-i.m (get_or c.args.chains.now.lists.sources.now c.in-Some.i 0) (pos 0))) ≡ get_or c.loop-i.m (get_or c.args.chains.now.lists.sources.now c.in-Some.i 0) (pos 0) = to_z-of_z w32 _ (record { sfits = search }) in
    let kept = to_z-of_z w32 c.min.result (record { sfits = c.min.type_inv }) in
    let less : to_z w32 (of_z w32 (to_z w32 (of_z w32 (get_or c.args.m.now c.args.v (pos 0))) -ℤ to_z w32 (of_z w32 c.delay_of.result))) ≡ get_or c.args.m.now c.args.v (pos 0) -ℤ get_or c.args.chains.now.lists.leasts.now c.in-Some.i (pos 0) =
    rw c.delay_of.ensures (difference_back w32 1025024000 1001000 _ _ (lit< tt) h.y_within h.least_within) in (
      same ∙ c.loop-i.invariant.0,
      λ order s k m₋ r.
          rw (next, c.loop-i.invariant.0)
          (pushing_rule _ _ _ _ _ _ _ order s k _ m₋ _ r _ _ _ (c.loop-i.invariant.1 order s k m₋ r) _ it _ _ _ _ was less kept (least_is _ _ _ c.min.ensures.value)),
    )

pub returns : goal.returns
returns c = λ order s k m₋ r. pushing_ends _ _ _ _ _ _ _ order s k _ m₋ _ r _ _ _ (c.loop-i.invariant.1 order s k m₋ r) c.in-None.ensures.steps
