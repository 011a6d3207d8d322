use Rattle.std.proofs.Common.{◌≡◌, ◌++◌, take}
use Rattle.std.specs.List.{flat_map}
use Rattle.diagram_meaning.specs.ResolvedTree.{diagram_of}
use Rattle.lustre_system.specs.RowEquations.{row_names}
use Rattle.lustre_system_nodes.specs.declared.own_rows.OwnRow.{OwnRow}
use Rattle.lustre_system_nodes.proofs.node_names.push_rows.Given as goal

abbrev pub invariant-loop-row : goal.invariant-loop-row
invariant-loop-row l =
    l.list ≡ l.fn.list
    ++ flat_map (λ (x : OwnRow). row_names (diagram_of l.r) l.parts.row x.row) (take l.row-index l.own)
