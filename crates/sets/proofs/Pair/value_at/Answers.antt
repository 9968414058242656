-- `value_at` of a pair meets its contract. Assumes nothing.
use Rattle.std.proofs.Common.{rules, ◌≡◌, ap, ◌∙◌, ◌+ℤ◌}
use Rattle.std.specs.Int.{int_min}
use Rattle.sets.specs.Limit.{number}
use Rattle.sets.specs.Pair.{value}
use Rattle.sets.specs.Held.{limit_of, pair_of}
use Rattle.sets.specs.Promise.{sum_within, cap_alone}
use Rattle.sets.specs.Parts.{NumbersSummed}
use Rattle.sets.proofs.Reaching.{lesser_is, sum_valued}
use Rattle.sets.proofs.Pair.value_at.Goals as goal

pub returns-in_ok-sum-in-Number-Number : goal.returns-in_ok-sum-in-Number-Number
returns-in_ok-sum-in-Number-Number c =
    let both = c.in-Number-Number in
    let e : value (pair_of c.args.self) (number c.args.x) ≡ number (int_min (c.args.x +ℤ both.l) both.w) = rw (both.is-0, both.is-1) (lesser_is (c.args.x +ℤ both.l) both.w) in
    (e ∙ ap number (search rules), sum_within both.l (ap limit_of both.is-0) (search rules) (search rules))

pub returns-in-Number-Unlimited : goal.returns-in-Number-Unlimited
returns-in-Number-Unlimited c =
    let h : NumbersSummed c.args.x c.in-Number-Unlimited.l c.sum-in-Number-Unlimited.result = search rules in
    sum_valued c.args.self c.args.x c.in-Number-Unlimited.l c.in-Number-Unlimited.is-0 c.in-Number-Unlimited.is-1 c.sum-in-Number-Unlimited.result h

pub returns-in-Unlimited-Number : goal.returns-in-Unlimited-Number
returns-in-Unlimited-Number c =
    (search rules, cap_alone c.in-Unlimited-Number.w (ap limit_of c.in-Unlimited-Number.is-0) (ap limit_of c.in-Unlimited-Number.is-1))
