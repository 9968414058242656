-- `analyse_arranged` meets its contract: what its parts promise, put together. Assumes nothing.
use Rattle.graphs.specs.Lists.{graph_in}
use Rattle.graphs.specs.Limits.{EventGraph}
use Rattle.analysis.proofs.MPass.{order_acyclic}
use Rattle.analysis.proofs.Arranging.{lowest_not_reached, path_6, path_refused, path_computed}
use Rattle.analysis.proofs.arranged.analyse_arranged.Goals as goal
use Rattle.analysis.proofs.arranged.analyse_arranged.Goals.{In_default}

-- past the search for an unreached event the graph is an event graph
event_graph : (c : In_default) → EventGraph 1001000 (graph_in c.args.chains.now.lists)
event_graph c = let (a, sized) = c.requires.arranged in record { sized = sized; acyclic = order_acyclic sized a.ordered; reachable = c.in_default.ensures }

pub returns-in-Some : goal.returns-in-Some
returns-in-Some c = let (a, sized) = c.requires.arranged in path_refused (path_6 (order_acyclic sized a.ordered) (lowest_not_reached c.in-Some.ensures))

pub find_latest-requires-clause-arranged : goal.find_latest-requires-clause-arranged
find_latest-requires-clause-arranged c = (c.requires.arranged.0, event_graph (goal.at.find_latest-requires-clause-arranged c).In_default)

pub returns : goal.returns
returns c =
    let graph = event_graph (goal.at.returns c).In_default in
    let (latest, depths) = c.find_latest.ensures in
    rw (c.from.ensures, c.from-2.ensures)
    (path_computed
    (record {
      acyclic = graph.acyclic;
      reachable = graph.reachable;
      latest = latest;
      depth_of_source = depths.each _ c.requires.in_bounds.0;
      depth_of_target = depths.each _ c.requires.in_bounds.1;
    }))
