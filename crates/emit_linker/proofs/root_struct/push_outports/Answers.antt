use Rattle.std.proofs.Common.{◌∙◌}
use Rattle.c_syntax.specs.declared.program.FieldKind.TheVariants.{Number}
use Rattle.c_syntax.specs.PlainField.{field_tree, field_trees}
use Rattle.emit_row_facts.proofs.lemmas.Steps.{mapped-next}
use Rattle.emit_linker.specs.Ports.{field_of}
use Rattle.emit_linker.proofs.Steps.{seen-push}
use Rattle.emit_linker.proofs.root_struct.push_outports.Goals as goal

pub loop-outport-preserved : goal.loop-outport-preserved
loop-outport-preserved c =
    let x = c.outport-item.result in
    let list = c.loop-outport.list.items in
    mapped-next field_of c.args.outports.now c.loop-outport.outport-index x (field_trees c.args.list.now.items) (field_trees list)
    (field_trees c.push.new.self.items) c.loop-outport-test.true c.outport-item.is c.loop-outport.invariant
    (seen-push field_tree list c.push.new.self.items c.field.result (field_of x) c.in_ok-push.ensures.items
    (c.field.ensures ∙ (λ j. record { name = c.in_ok-name.ensures j; kind = Number (c.container.ensures j) })))
