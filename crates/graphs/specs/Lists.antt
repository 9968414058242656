-- A graph as its caller lends it.
--     graph_in lists    == the event graph whose number of events and whose four lists are these
-- Assumes nothing.
use Rattle.graphs.specs.declared.GraphLists.{GraphLists}
use Rattle.graphs.specs.Graph.{Graph, graph_of}

abbrev pub graph_in : GraphLists → Graph
graph_in lists = graph_of lists.events lists.sources.now lists.targets.now lists.leasts.now lists.mosts.now
