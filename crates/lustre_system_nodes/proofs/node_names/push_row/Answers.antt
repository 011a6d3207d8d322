use Rattle.std.proofs.Common.{List, ap, ◌∙◌}
use Rattle.diagram_meaning.specs.declared.table.Row.{Row}
use Rattle.diagram_meaning.specs.ResolvedTree.{diagram_of}
use Rattle.diagram_meaning.specs.Rows.{row_at}
use Rattle.lustre_system.specs.FromC.{call_count}
use Rattle.lustre_system_nodes.proofs.NameSteps.{row-named}
use Rattle.lustre_system_nodes.proofs.node_names.push_row.Goals as goal

pub returns : goal.returns
returns c =
    let b = c.args.row.now.row in
    row-named (diagram_of c.args.r.now) c.args.system b c.args.row.now c.op_at.result c.kind_at.result c.in_ok-calls.calls
    c.wires.result.now c.args.list.now c.push_memory.new.list c.push_value.new.list c.push_values.new.list c.requires.row
    c.op_at.ensures (c.kind_at.ensures ∙ ap (λ (rows : List Row). (row_at rows b).kind) c.rows_of.ensures)
    (c.in_ok-calls.ensures ∙ ap call_count c.in_ok-row_code.ensures) c.wires.ensures c.in_ok-push_memory.ensures
    c.in_ok-push_value.ensures c.in_ok-push_values.ensures
