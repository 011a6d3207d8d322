use Rattle.diagram_meaning.specs.ResolvedTree.{diagram_of}
use Rattle.lustre_system_nodes.proofs.NameSteps.{all-named}
use Rattle.lustre_system_nodes.proofs.node_names.names_of.Goals as goal

pub returns : goal.returns
returns c =
    all-named (diagram_of c.args.r.now) c.args.parts.now c.requires c.as_slice.result.now c.wires.result.now c.new-list.result
    c.push_inputs.new.list c.push_values.new.list c.push_states.new.list c.push_rows.new.list c.as_slice.ensures.value
    c.wires.ensures c.new-list.ensures c.in_ok-push_inputs.ensures c.in_ok-push_values.ensures c.in_ok-push_states.ensures
    c.in_ok-push_rows.ensures
