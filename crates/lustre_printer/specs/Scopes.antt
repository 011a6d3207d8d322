-- The names in reach of an equation.
use Rattle.std.specs.Prelude.{ℕ, List, map}
use Rattle.lustre_syntax.specs.Plain.{declared_names, node_tree}
use Rattle.lustre_syntax.specs.Tree.{texts_of, node_texts}
use Rattle.lustre_printer.specs.declared.printing.names.Scope.{Scope}

-- the texts of its node's names
abbrev pub names_in : Scope → List (List ℕ)
names_in s = texts_of (declared_names s.names.now)

-- the texts of the file's nodes
abbrev pub nodes_in : Scope → List (List ℕ)
nodes_in s = node_texts (map node_tree s.nodes.now)
