use Rattle.std.proofs.Common.{◌≡◌, ◌++◌, map, take}
use Rattle.std.specs.List.{flat_map}
use Rattle.diagram_meaning.specs.ResolvedTree.{diagram_of}
use Rattle.lustre_syntax.specs.Plain.{equation_tree}
use Rattle.lustre_system.specs.RowEquations.{row_equations}
use Rattle.lustre_row_equations.specs.Placed.{placed_equations}
use Rattle.lustre_system_nodes.specs.declared.own_rows.OwnRow.{OwnRow}
use Rattle.lustre_system_nodes.proofs.equations.push_rows.Given as goal

abbrev pub invariant-loop-row : goal.invariant-loop-row
invariant-loop-row l =
    map equation_tree l.equations.items ≡ map equation_tree l.fn.equations.items
    ++ flat_map (λ (x : OwnRow). placed_equations l.names (row_equations (diagram_of l.r) l.parts.row x.row))
    (take l.row-index l.own)
