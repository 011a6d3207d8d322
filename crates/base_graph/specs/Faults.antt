-- What an error of the order says.
use Rattle.base_graph.specs.declared.fault.OrderFault.{OrderFault}
use Rattle.base_graph.specs.declared.fault.OrderFault.TheVariants.{Cycle, Memory}
use Rattle.base_graph.specs.NeedsGraph.{NeedsGraph}
use Rattle.base_graph.specs.Reaching.{IsCycle}

-- the list that it reports is a cycle of the graph
abbrev pub TellsCycle : NeedsGraph → OrderFault → Type 0
TellsCycle g (Cycle list) = IsCycle g list.items
TellsCycle g Memory = Unit {0}
