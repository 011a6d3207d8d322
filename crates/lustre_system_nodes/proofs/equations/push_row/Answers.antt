use Rattle.std.proofs.Common.{List, ◌++◌, map, sym, ap, ◌∙◌}
use Rattle.diagram_blocks.specs.Kinds.{is_delay, is_subsystem}
use Rattle.diagram_blocks.specs.Meaning.{has_value}
use Rattle.diagram_meaning.specs.declared.table.Row.{Row}
use Rattle.diagram_meaning.specs.Diagram.{op_at}
use Rattle.diagram_meaning.specs.ResolvedTree.{diagram_of}
use Rattle.diagram_meaning.specs.Rows.{row_at}
use Rattle.lustre_syntax.specs.Plain.{equation_tree}
use Rattle.lustre_system.specs.RowEquations.{only_if, memory_equations, value_equations, child_equations}
use Rattle.lustre_row_equations.specs.Placed.{placed_equation}
use Rattle.lustre_system_nodes.proofs.NodeParts.{with-child, without-child}
use Rattle.lustre_system_nodes.proofs.equations.push_row.Goals as goal

pub returns-in_ok-push_child : goal.returns-in_ok-push_child
returns-in_ok-push_child c =
    let d = diagram_of c.args.scope.now.diagram.now in
    let s = c.args.scope.now.system in
    let b = c.args.row.now.row in
    with-child (placed_equation c.args.scope.now.names.now) (is_subsystem (row_at d.rows b).kind)
    (only_if (is_delay (op_at d b)) (memory_equations d s b) ++ only_if (has_value (row_at d.rows b).kind) (value_equations d s b))
    (child_equations d s b) (map equation_tree c.args.equations.now.items) (map equation_tree c.own_equations.new.equations.items)
    (map equation_tree c.push_child.new.equations.items)
    (ap (λ (rows : List Row). is_subsystem (row_at rows b).kind) (sym c.rows_of.ensures) ∙ sym c.is_subsystem.ensures
    ∙ c.if-is_subsystem.true)
    c.in_ok-own_equations.ensures c.in_ok-push_child.ensures

pub returns-else-is_subsystem : goal.returns-else-is_subsystem
returns-else-is_subsystem c =
    let d = diagram_of c.args.scope.now.diagram.now in
    let s = c.args.scope.now.system in
    let b = c.args.row.now.row in
    without-child (placed_equation c.args.scope.now.names.now) (is_subsystem (row_at d.rows b).kind)
    (only_if (is_delay (op_at d b)) (memory_equations d s b) ++ only_if (has_value (row_at d.rows b).kind) (value_equations d s b))
    (child_equations d s b) (map equation_tree c.args.equations.now.items) (map equation_tree c.own_equations.new.equations.items)
    (ap (λ (rows : List Row). is_subsystem (row_at rows b).kind) (sym c.rows_of.ensures) ∙ sym c.is_subsystem.ensures
    ∙ c.if-is_subsystem.false)
    c.in_ok-own_equations.ensures
