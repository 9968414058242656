-- `next_of_lists` meets its contract: the items of the chain are the candidates. Assumes nothing.
use Rattle.std.proofs.Common.{rules, ◌≡◌, refl, sym, ◌∙◌, subst, List, map, arith}
use Rattle.std.proofs.lemmas.Iterator.{YieldsList-from_range, YieldsList-from_map_by}
use Rattle.std.proofs.lemmas.Iterator.Consumers.{YieldsList-at}
use Rattle.sets.specs.Pair.{Pair}
use Rattle.sets.specs.Held.{pair_of, candidates, candidate_at}
use Rattle.sets.specs.Parts.{Chosen}
use Rattle.sets.proofs.Candidates.{candidates_read, whole_items}
use Rattle.sets.proofs.next_of_lists.Goals as goal

pub returns : goal.returns
returns c =
    let (p, from, whole, chosen) = c.selected.ensures in
    let ls = c.args.ls.now in
    let fs = c.args.l_unlimited.now in
    let ws = c.args.ws.now in
    let gs = c.args.w_unlimited.now in
    let e : map pair_of p.items ≡ candidates ls fs ws gs =
    whole_items p from whole
    (YieldsList-from_map_by _ pair_of (candidate_at ls fs ws gs)
    (YieldsList-at c.map-pairs.ensures.source (YieldsList-from_range 0 c.min-count.result c.min-count.result refl (omega arith)))
    c.map-pairs.ensures.closure
    (λ x r q k. (search rules, search rules)))
    ∙ sym (candidates_read ls fs ws gs c.min-count.result (omega arith)) in
    subst (λ (C : List Pair). Chosen C c.args.last c.selected.result) e chosen
