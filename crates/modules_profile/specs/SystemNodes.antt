-- What contracts see of the nodes of a system.
use Rattle.std.specs.Prelude.{ℕ, List}
use Rattle.base_graph.specs.NeedsGraph.{NeedsGraph}
use Rattle.modules_profile.specs.declared.nodes.Node.{Node}

-- the nodes with what each needs, and the nodes of the outputs by port
pub record SystemNodes : Type 0 where
  pub graph : NeedsGraph
  pub list : List Node
  pub outputs : List ℕ
