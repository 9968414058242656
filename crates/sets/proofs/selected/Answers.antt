-- `selected` meets its contract: the items of the chain are the pairs that are left. Assumes nothing.
use Rattle.std.proofs.Common.{rules, ◌≡◌, ◌∙◌, filter, IsTrue, ◌↔◌}
use Rattle.sets.specs.Held.{pair_of}
use Rattle.sets.specs.Parts.{Left}
use Rattle.sets.proofs.Choosing.{left_test, left_test_is, chosen_is, if_each, prior_by_key}
use Rattle.sets.proofs.selected.Goals as goal

pub returns : goal.returns
returns g c =
    let test = left_test c.args.last in
    let (p, from, whole, picks) = c.max_by_key.ensures.runs in
    let (q, from_q, kept) = c.filter.ensures.runs p p.seen from in
    let filtered : p.items ≡ filter test q.items =
    kept.4 test
    (λ x b f called. (search rules, let h : IsTrue b ↔ Left c.args.last (pair_of x) = search rules in left_test_is c.args.last x b h)) in (
      q,
      from_q,
      kept.0 ∙ whole,
      chosen_is p q.items c.args.last filtered c.max_by_key.result picks
          (λ m none i.
          let (k, its-key, each) = none (search rules) in
          if_each (p.at i)
          (λ x (j, key, not_above).
          let a : j ≡ (x.w, x.l) = search rules in
          let b : k ≡ (m.w, m.l) = search rules in
          prior_by_key m x (rw (a, b) at not_above)) (each i)),
    )
