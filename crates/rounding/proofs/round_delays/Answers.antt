-- `round_delays` meets its contract: what `too_short`, `outside_delay`, `step_of` and `round_lists` promise, put together. Assumes nothing.
use Rattle.std.proofs.Common.{Ok}
use mathlib.Core.Path.{subst}
use Prim.Native.Nat.{ℕ, ◌<◌}
use lib.ListN.{length}
use Rattle.refusals.specs.Faults.{DelaysInside}
use Rattle.rounding.specs.Promise.{DelaysRounded}
use Rattle.rounding.proofs.Promises.{Room, lowest_entry, all_inside, rounding_22, rounding_23, rounding_3, rounding_9, delays_refused, delays_rounded}
use Rattle.rounding.proofs.round_delays.Goals as goal
use Rattle.rounding.proofs.round_delays.Goals.{Else-too_short, In_default}

room : (c : Else-too_short) → Room (length c.args.leasts.now) (length c.args.mosts.now) (length c.args.low.now) (length c.args.high.now)
room c =
    let h = c.too_short.ensures.no c.if-too_short.false in
    record { as_many = c.if-mosts-leasts.false; low_long = h.0; high_long = h.1 }

inside : (c : In_default) (i : ℕ) → i < length c.args.leasts.now → DelaysInside c.args.leasts.now c.args.mosts.now i
inside c = all_inside c.args.leasts.now c.args.mosts.now c.if-mosts-leasts.false c.in_default.ensures

pub returns-then-mosts-leasts : goal.returns-then-mosts-leasts
returns-then-mosts-leasts c = delays_refused _ (rounding_22 c.args.low.now c.args.high.now c.if-mosts-leasts.true)

pub returns-then-too_short : goal.returns-then-too_short
returns-then-too_short c =
    delays_refused _ (rounding_23 c.args.low.now c.args.high.now c.if-mosts-leasts.false (c.too_short.ensures.yes c.if-too_short.true))

pub returns-in-Some : goal.returns-in-Some
returns-in-Some c =
    let r = room (goal.at.returns-in-Some c).Else-too_short in
    delays_refused _ (rounding_3 c.args.low.now c.args.high.now r (lowest_entry c.args.leasts.now c.args.mosts.now r.as_many c.in-Some.ensures))

pub returns-in_default-step_of : goal.returns-in_default-step_of
returns-in_default-step_of c =
    let r = room (goal.at.returns-in_default-step_of c).Else-too_short in
    let all = inside (goal.at.returns-in_default-step_of c).In_default in
    delays_refused _ (rounding_9 c.args.low.now c.args.high.now r all c.in_default-step_of.ensures)

pub returns : goal.returns
returns c =
    let step = c.in-Some-step_of.step in
    let written = c.round_lists in
    let done = delays_rounded (room (goal.at.returns c).Else-too_short) (inside (goal.at.returns c).In_default) step.some step.few
    written.ensures.lows written.auto.low written.ensures.highs written.auto.high in
    subst (λ (q : ℕ). DelaysRounded q c.args.leasts.now c.args.mosts.now c.args.low.now c.args.high.now written.new.low written.new.high (Ok tt)) c.in-Some-step_of.ensures done
