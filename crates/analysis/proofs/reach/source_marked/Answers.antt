-- `source_marked` meets its contract: `any` asks of each rule into v in turn. Assumes nothing.
use mathlib.Core.Path.{◌≡◌}
use Prim.Native.Nat.{ℕ, ◌<◌}
use native.Mathlib.Omega.{arith}
use lib.ListN.{length, get_or}
use Rattle.std.proofs.Common.{rules, tests}
use Rattle.analysis.proofs.Walk.{Walk, walk_start, walk_serves, walk_any}
use Rattle.analysis.proofs.reach.source_marked.Goals as goal
use Rattle.analysis.proofs.reach.source_marked.Goals.{After-rules_into}

begins : (c : After-rules_into) (Q : ℕ → Type 0) → Walk c.args.chains.now.lists.targets.now c.args.v c.rules_into.result.e Q
begins c Q = rw c.rules_into.ensures.0 (walk_start _ _ _ c.args.chains.now.chained.chained _ Q (omega (arith, c.requires.0, c.args.chains.now.chained.heads_room)))

pub any-requires-clause-callable : goal.any-requires-clause-callable
any-requires-clause-callable c =
    let kept = c.args.chains.now.kept in
    walk_serves _ _ _ c.args.chains.now.chained.chained c.args.v (λ _. Unit {0}) _ _ (λ x q k. (search rules, tt)) c.rules_into.ensures.1
    (begins (goal.at.any-requires-clause-callable c).After-rules_into _)
    (λ x l to.
    let known : x < length c.args.chains.now.lists.sources.now = omega (arith, l, kept.targets_match) in
    let below : get_or c.args.chains.now.lists.sources.now x 0 < length c.args.marks.now = omega (arith, kept.sources_below.below x known, c.requires) in
    search rules)

pub returns : goal.returns
returns c =
    let (some, none) =
    walk_any _ _ _ c.args.chains.now.chained.chained c.args.v (λ i. get_or c.args.marks.now (get_or c.args.chains.now.lists.sources.now i 0) 0 ≡ 0) _ _ (λ x q k. (search rules, search (rules, tests)))
    _ (λ i. 0 < get_or c.args.marks.now (get_or c.args.chains.now.lists.sources.now i 0) 0) (λ x q k. grind (arith, tests)) _ c.any.new.self c.rules_into.ensures.1 (begins (goal.at.returns c).After-rules_into _) c.any.ensures.ran in
    record { some = some; none = none }
