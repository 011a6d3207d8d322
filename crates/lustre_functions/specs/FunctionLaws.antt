-- The eight nodes give what the eight pure functions of C give.
use Rattle.std.specs.Prelude.{◌≡◌, ℕ, ◌<◌, List, [], ◌++◌, length, slice_index_or, Some, ℤ}
use Rattle.c_semantics.specs.Values.{gives, function_at, functions_of}
use Rattle.emit_prelude.specs.Bodies.{function_trees}
use Rattle.emit_prelude.specs.Rules.{params}
use Rattle.lustre_syntax.specs.Tree.{NodeTree}
use Rattle.lustre_syntax.specs.Named.{NamedNode, placed_file}
use Rattle.lustre_system.specs.Functions.{function_nodes}
use Rattle.lustre_system.specs.FunctionRules.{called, AreFunctions}

-- the nodes of a file that begins with the eight and goes on with these
abbrev pub nodes_before : List NamedNode → List NodeTree
nodes_before more = (placed_file (function_nodes ++ more)).nodes

-- wherever a function of C gives a number, of whatever arguments, so does the node at its place
abbrev pub NodesGiveTheSame : Type 0
NodesGiveTheSame =
    (more : List NamedNode) (k steps end : ℕ) (arguments : List ℤ) (v : ℤ) → k < length params →
    length arguments ≡ length (slice_index_or params k []) →
    function_at (functions_of [] function_trees) k arguments steps ≡ gives v end →
    called (nodes_before more) k arguments ≡ Some v

-- so they round, clamp, wrap and convert as these do
abbrev pub NodesAreFunctions : Type 0
NodesAreFunctions = (more : List NamedNode) → AreFunctions (nodes_before more)
