-- The wires that the nodes of a system need and give, by the places of the nodes.
use Rattle.std.specs.Prelude.{◌≡◌, ℕ, ◌+◌, List, [], ◌∷◌, ◌++◌, map, filter_map, flat_map, zip, slice_get, Contains, Option, Some, option_map}
use Rattle.modules_profile.specs.declared.local.ChildUse.{ChildUse}
use Rattle.modules_profile.specs.declared.local.LocalRow.{LocalRow}
use Rattle.modules_profile.specs.declared.node_wires.NodeWires.{NodeWires}
use Rattle.modules_profile.specs.declared.profile.Function.{Function}
use Rattle.modules_profile.specs.LocalSystem.{LocalSystem}
use Rattle.base_core.specs.Ports.{bit_of}
use Rattle.modules_profile.specs.Headers.{ports_of_header, header_functions, taken_by_function, given_by_function}
use Rattle.modules_profile.specs.Locals.{entering}
use Rattle.modules_profile.specs.LocalNodes.{used_inputs}

-- the inputs of a child, each by the place of its bit and the wire that enters it
abbrev pub entries_of : ChildUse → List (ℕ × ℕ)
entries_of u = zip (map bit_of (ports_of_header u.header)) (entering u)

-- what an own row needs and gives
abbrev pub wires_of_row : LocalRow → NodeWires
wires_of_row r = record { needs = used_inputs r; gives = r.row ∷ [] }

-- what a call of a child's function needs and gives
abbrev pub wires_of_call : ChildUse → Function → NodeWires
wires_of_call u f =
    record {
      needs = taken_by_function f (ports_of_header u.header) (entering u);
      gives = given_by_function f (map (λ o. o.0) u.header.outputs);
    }

-- the calls of a child's functions
abbrev pub wires_of_calls : ChildUse → List NodeWires
wires_of_calls u = map (wires_of_call u) (header_functions u.header)

-- own rows, and then the calls of each child's functions
abbrev pub wires_of_all : List LocalRow → List ChildUse → List NodeWires
wires_of_all rows children = map wires_of_row rows ++ flat_map wires_of_calls children

-- the nodes of a system in order
abbrev pub wires_of_nodes : LocalSystem → List NodeWires
wires_of_nodes local = wires_of_all local.rows local.children

-- an edge to node b
abbrev pub edge_to : ℕ → ℕ → ℕ × ℕ
edge_to b a = (a, b)

-- the edge to node b by a wire, from the node that a table gives for it
abbrev pub edge_by : (ℕ → Option ℕ) → ℕ → ℕ → Option (ℕ × ℕ)
edge_by giver b wire = option_map (edge_to b) (giver wire)

-- the edges to some nodes, of which the first is node n
abbrev pub edges_from : (ℕ → Option ℕ) → ℕ → List NodeWires → List (ℕ × ℕ)
edges_from giver n [] = []
edges_from giver n (x ∷ xs) = filter_map (edge_by giver n) x.needs ++ edges_from giver (n + 1) xs

-- node b needs a wire that node a gives
pub record IsEdge (nodes : List NodeWires) (a b : ℕ) : Type 0 where
  pub giver : NodeWires
  pub taker : NodeWires
  pub from : slice_get nodes a ≡ Some giver
  pub to : slice_get nodes b ≡ Some taker
  pub wire : ℕ
  pub given : Contains giver.gives wire
  pub needed : Contains taker.needs wire

-- no wire is given by two of the nodes
abbrev pub AreGivenOnce : List NodeWires → Type 0
AreGivenOnce nodes =
    (a b c : ℕ) (x y : NodeWires) → slice_get nodes a ≡ Some x → slice_get nodes b ≡ Some y →
    Contains x.gives c → Contains y.gives c → a ≡ b

-- a table says, of each wire that a node gives, a node that gives it, and of no other wire any
pub record AreGivers (nodes : List NodeWires) (giver : ℕ → Option ℕ) : Type 0 where
  pub each : (a c : ℕ) (x : NodeWires) → slice_get nodes a ≡ Some x → Contains x.gives c →
      (b : ℕ) × (giver c ≡ Some b)
  pub right : (a c : ℕ) → giver c ≡ Some a →
      (x : NodeWires) × (slice_get nodes a ≡ Some x) × Contains x.gives c
