use Rattle.std.proofs.Common.{List, Some, ap, sym, ◌∙◌}
use Rattle.diagram_meaning.specs.declared.table.Row.{Row}
use Rattle.diagram_meaning.specs.Rows.{inports_of}
use Rattle.lustre_system_nodes.proofs.ChildLaws.{inputs-are}
use Rattle.lustre_system_nodes.proofs.children.child_values.Goals as goal

pub entering_wires-requires : goal.entering_wires-requires
entering_wires-requires c =
    let e = c.args.child.now.row in
    c.wires.ensures ∙ inputs-are c.args.r.now.tree.table.rows c.args.child.now c.requires.row c.requires.is_subsystem
    ∙ ap (λ (rows : List Row). inports_of rows (Some e)) (sym c.rows_of.ensures)
