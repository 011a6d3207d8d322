use Rattle.std.proofs.Common.{◌∙◌}
use Rattle.diagram_meaning.specs.Nested.{system_of}
use Rattle.lustre_system_nodes.proofs.Agreed.{parts-are}
use Rattle.lustre_system_nodes.proofs.parts.parts_of.Goals as goal

pub returns-clause-parts : goal.returns-clause-parts
returns-clause-parts c =
    parts-are c.args.r.now.tree.table.rows (system_of c.args.s.now) c.requires _ c.row.ensures c.rows_of-rows.result.now
    c.own.result.now c.own-2.result.now c.in_ok-inports.inports.items c.len.result c.rows_of-rows.ensures c.own.ensures c.own-2.ensures
    c.control-control.ensures c.in_ok-inports.ensures (c.len.ensures ∙ c.in_ok-inports.inports.ok.0) c.in_ok-input_ports.ensures
    (c.new.ensures ∙ c.in_ok-outports.ensures) c.in_ok-own_rows.ensures
