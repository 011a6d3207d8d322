-- The nodes of systems in a file, and the paths of their instances.
use Rattle.std.specs.Prelude.{ℕ, ◌==◌, List, [], ◌∷◌, flat_map, map, length, reverse, Option, None, Some, unwrap_or}
use Rattle.std.specs.List.{position_from}
use Rattle.diagram_meaning.specs.declared.Row.{Row}
use Rattle.diagram_meaning.specs.Rows.{enclosing}
use Rattle.modules_profile.specs.Systems.{system_name}
use Rattle.emit_shape.specs.Names.{root_name}
use Rattle.lustre_syntax.specs.Tree.{EquationTree, set, call, NodeTree, node_at, FileTree, node_texts, texts_of}
use Rattle.lustre_syntax.specs.Named.{place_of}

-- the place of the node of this name, and the place of a name in a node
abbrev pub node_place : FileTree → List ℕ → ℕ
node_place f text = place_of (node_texts f.nodes) text

abbrev pub node_named : FileTree → List ℕ → NodeTree
node_named f text = node_at f.nodes (node_place f text)

abbrev pub name_place : NodeTree → List ℕ → ℕ
name_place n text = place_of (texts_of n.names) text

-- the nodes that a node calls, in the order of its calls
abbrev pub callee_of : EquationTree → List ℕ
callee_of (set line given value) = []
callee_of (call line given callee values) = callee ∷ []

abbrev pub callees : NodeTree → List ℕ
callees n = flat_map callee_of n.equations

-- the first of a node's calls that is of this node
abbrev pub call_place : NodeTree → ℕ → ℕ
call_place n k = unwrap_or (position_from (λ j. j == k) 0 (callees n)) (length (callees n))

-- the path of calls from an instance of the node of this name through nodes of these names
abbrev pub path_through : FileTree → List ℕ → List (List ℕ) → List ℕ
path_through f text [] = []
path_through f text (next ∷ more) =
    call_place (node_named f text) (node_place f next) ∷ path_through f next more

-- the names of the systems from the root inward to s
abbrev pub systems_to : List Row → Option ℕ → List (List ℕ)
systems_to rows s =
    system_name None ∷ map (λ e. system_name (Some e)) (reverse (enclosing rows None s))

-- the path of the instance of a system's node
abbrev pub path_to : FileTree → List Row → Option ℕ → List ℕ
path_to f rows s = path_through f root_name (systems_to rows s)
