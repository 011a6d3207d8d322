use Rattle.std.proofs.Common.{ℕ, ◌+◌, List, map, length, ap, ◌∙◌}
use Rattle.base_core.specs.declared.Port.{Port}
use Rattle.diagram_meaning.specs.Inputs.{input_ports}
use Rattle.diagram_meaning.specs.Rows.{outports_of}
use Rattle.lustre_syntax.specs.Plain.{declared_names, equation_tree}
use Rattle.modules_profile.specs.Systems.{system_name}
use Rattle.lustre_system_nodes.proofs.NodeParts.{node-is}
use Rattle.lustre_system_nodes.proofs.node.system_node.Goals as goal

pub returns : goal.returns
returns c callee d s is made =
    let rows = d.rows in
    node-is d s c.in_ok-name.name c.in_ok-inputs.inputs c.in_ok-outputs.outputs c.args.named.names
    (declared_names c.into_list.result.items) (map equation_tree c.args.equations.items) callee
    (c.in_ok-name.ensures ∙ ap system_name is.row)
    (c.in_ok-inputs.ensures ∙ ap (λ (ports : List Port). 3 + length ports) is.parts.ports
    ∙ ap (λ o. 3 + length (input_ports rows o)) is.row)
    (c.in_ok-outputs.ensures ∙ ap (λ (rows : List ℕ). length rows) (c.wires.ensures ∙ is.parts.outputs)
    ∙ ap (λ o. length (outports_of rows o)) is.row)
    c.into_list.ensures is.names made
