-- A process graph as its caller lends it.
--     process_in lists    == the process graph whose number of events and whose seven lists are these
-- Assumes nothing.
use Rattle.processes.specs.declared.ProcessLists.{ProcessLists}
use Rattle.processes.specs.Process.{ProcessGraph, process_of}

abbrev pub process_in : ProcessLists → ProcessGraph
process_in lists =
    process_of lists.events lists.sources.now lists.targets.now lists.leasts.now lists.mosts.now lists.marks.now lists.start_leasts.now lists.start_mosts.now
