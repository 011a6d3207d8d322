-- The file of a diagram: the eight functions, a node for each system after those of its children,
-- and the root.
use Rattle.std.specs.Prelude.{ℕ, true, false, List, [], ◌∷◌, ◌++◌, map, reverse, length, None, pos}
use Rattle.std.specs.List.{range_with_len}
use Rattle.diagram_meaning.specs.Rows.{outports_of}
use Rattle.diagram_meaning.specs.Diagram.{Diagram}
use Rattle.modules_profile.specs.Systems.{system_name, systems}
use Rattle.c_syntax.specs.Outputs.{output_name}
use Rattle.emit_shape.specs.Names.{now_name, root_name}
use Rattle.lustre_syntax.specs.declared.LusOp.TheVariants.{Add, Mod}
use Rattle.lustre_syntax.specs.Tree.{FileTree, number, truth, name, two, arrow, previous, set, call}
use Rattle.lustre_syntax.specs.Named.{NamedExpr, NamedNode, placed_file}
use Rattle.lustre_system.specs.Functions.{int_name, function_nodes}
use Rattle.lustre_system.specs.Names.{port_names}
use Rattle.lustre_system.specs.SystemNodes.{system_node}

-- the tick in a cycle of so many
abbrev pub next_now : ℕ → NamedExpr
next_now hyper =
    arrow (number (pos 0))
    (two Mod (two Add (previous now_name) (number (pos 1))) (number (pos hyper)))

-- the names of the root's outputs
abbrev pub output_names : Diagram → List (List ℕ)
output_names d = map output_name (range_with_len 1 (length (outports_of d.rows None)))

-- the root: it counts the ticks, and calls the system `top`
abbrev pub root_node : Diagram → ℕ → NamedNode
root_node d hyper = record {
  text = root_name;
  inputs = map int_name (port_names d.rows None);
  outputs = map int_name (output_names d);
  others = int_name now_name ∷ [];
  equations =
      set 0 now_name (next_now hyper)
      ∷ call 0 (output_names d) (system_name None)
      (name now_name ∷ truth true ∷ truth false ∷ map name (port_names d.rows None))
      ∷ [];
}

-- a subsystem comes after the one that it is in, so the last comes first
abbrev pub named_file : Diagram → ℕ → List NamedNode
named_file d hyper =
    function_nodes ++ map (system_node d) (reverse (systems d.rows)) ++ root_node d hyper ∷ []

-- the file of a diagram whose hits repeat after so many ticks
abbrev pub lustre_file : Diagram → ℕ → FileTree
lustre_file d hyper = placed_file (named_file d hyper)
