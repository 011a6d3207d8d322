-- The nodes of a system, what each needs, and which functions hold it.
use Rattle.std.specs.Prelude.{◌≡◌, ◌⊎◌, ◌↔◌, ℕ, Bool, false, ◌&&◌, ◌==◌, if◌then◌else◌, List, [], ◌∷◌, ◌++◌, map, flat_map, length, slice_get, Contains, Option, Some, None}
use Rattle.std.specs.Option.{option_map_or}
use Rattle.std.specs.List.{range_with_len, position_from}
use Rattle.diagram_blocks.specs.Value.{feeds_through}
use Rattle.base_graph.specs.NeedsGraph.{IsGraph}
use Rattle.modules_profile.specs.declared.local.ChildUse.{ChildUse}
use Rattle.modules_profile.specs.declared.local.LocalRow.{LocalRow}
use Rattle.modules_profile.specs.declared.nodes.Node.{Node}
use Rattle.modules_profile.specs.declared.nodes.Node.TheVariants.{Row, Call}
use Rattle.modules_profile.specs.LocalSystem.{LocalSystem}
use Rattle.modules_profile.specs.SystemHeader.{SystemHeader}
use Rattle.modules_profile.specs.SystemNodes.{SystemNodes}
use Rattle.modules_profile.specs.Headers.{header_functions, taken, given_rows}
use Rattle.modules_profile.specs.Locals.{row_of, child_of, outports, entering}

-- whether two nodes are one
abbrev pub same_node : Node → Node → Bool
same_node (Row b) (Row c) = b == c
same_node (Row b) (Call e j) = false
same_node (Call e j) (Row c) = false
same_node (Call e j) (Call f i) = (e == f) && (j == i)

-- the calls of so many functions of a system, by its subsystem row; nothing calls those of the root
abbrev pub calls_of : Option ℕ → ℕ → List Node
calls_of None functions = []
calls_of (Some e) functions = map (Call e) (range_with_len 1 functions)

-- the calls of a child's functions
abbrev pub call_nodes : ChildUse → List Node
call_nodes u = calls_of u.header.row (length (header_functions u.header))

-- the own rows in the order of the file, and then the functions of each child
abbrev pub node_list : LocalSystem → List Node
node_list local = map (λ r. Row r.row) local.rows ++ flat_map call_nodes local.children

-- the rows whose values a node gives
abbrev pub node_gives : LocalSystem → Node → List ℕ
node_gives local (Row b) = option_map_or (λ r. r.row ∷ []) (row_of local b) []
node_gives local (Call e j) = option_map_or (λ u. given_rows u.header j) (child_of local e) []

-- the wires from which a row makes its value at the same tick; an Inport of the system has none
abbrev pub used_inputs : LocalRow → List ℕ
used_inputs r = if feeds_through r.op then r.inputs else []

-- the wires that a node needs; a control of the system itself counts for nothing
abbrev pub node_needs : LocalSystem → Node → List ℕ
node_needs local (Row b) = option_map_or used_inputs (row_of local b) []
node_needs local (Call e j) =
    option_map_or (λ u. taken u.header j (entering u)) (child_of local e) []

-- node y needs a wire that node x gives
abbrev pub NodeNeeds : LocalSystem → Node → Node → Type 0
NodeNeeds local y x = (c : ℕ) × Contains (node_needs local y) c × Contains (node_gives local x) c

-- node y needs the first node of the path, each of these the next, and the last one needs x
abbrev pub NodeWalk : LocalSystem → Node → List Node → Node → Type 0
NodeWalk local y [] x = NodeNeeds local y x
NodeWalk local y (z ∷ path) x = NodeNeeds local y z × NodeWalk local z path x

-- node x reaches node y: it is y itself, or y needs it along a walk over nodes of the system
abbrev pub NodeReaches : LocalSystem → Node → Node → Type 0
NodeReaches local x y = (x ≡ y) ⊎ ((path : List Node) × NodeWalk local y path x)

-- function j of the header gives an output that node x reaches: it holds x
abbrev pub Holds : LocalSystem → SystemHeader → ℕ → Node → Type 0
Holds local h j x = (o : ℕ) × Contains (given_rows h j) o × NodeReaches local x (Row o)

-- the nodes form no cycle
abbrev pub HasNoNodeLoop : LocalSystem → Type 0
HasNoNodeLoop local = (x : Node) (path : List Node) → NodeWalk local x path x → ⊥

-- the nodes, with an edge from each to those that need it and no other, and the places of the
-- outputs among them, by port
pub record AreNodesOf (local : LocalSystem) (nodes : SystemNodes) : Type 0 where
  pub list : nodes.list ≡ node_list local
  pub count : nodes.graph.n ≡ length (node_list local)
  pub inside : IsGraph nodes.graph
  pub edges : (a b : ℕ) (x y : Node) → slice_get (node_list local) a ≡ Some x →
      slice_get (node_list local) b ≡ Some y →
      Contains nodes.graph.edges (a, b) ↔ NodeNeeds local y x
  pub outputs : map Some nodes.outputs
      ≡ map (λ o. position_from (same_node (Row o.row)) 0 (node_list local)) (outports local)
