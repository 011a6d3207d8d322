use Rattle.std.proofs.Common.{ℕ, List, ap, ap₂, ◌∙◌}
use Rattle.c_syntax.specs.declared.code.CType.TheVariants.{I32}
use Rattle.c_syntax.specs.declared.program.FieldKind.{FieldKind}
use Rattle.c_syntax.specs.declared.program.FieldKind.TheVariants.{Array, Number}
use Rattle.c_syntax.specs.PlainField.{field_trees}
use Rattle.c_syntax.specs.Tree.{FieldTree}
use Rattle.emit_shape.specs.Slots.{slot_field, ring_items, ring_place, ring_taken}
use Rattle.emit_signatures.proofs.FieldSteps.{field-pushed, three-pushed}
use Rattle.emit_signatures.proofs.struct_fields.push_ring.Goals as goal

pub returns : goal.returns
returns c =
    let row = c.args.row.now in
    let made : List ℕ → FieldKind → FieldTree = λ n k. record { name = n; kind = k } in
    let number : List ℕ → FieldTree = λ n. made n (Number I32) in
    let list = c.args.list.now.items in
    three-pushed (field_trees list) (slot_field (ring_items row)) (slot_field (ring_place row)) (slot_field (ring_taken row))
    (field_trees c.push.new.self.items) (field_trees c.push-2.new.self.items) (field_trees c.push-3.new.self.items)
    (field-pushed list c.push.new.self.items _ (slot_field (ring_items row)) c.in_ok-push.ensures.items
    (ap₂ made c.in_ok-memory_name.ensures (ap₂ Array c.container.ensures c.delay_length.ensures)))
    (field-pushed c.push.new.self.items c.push-2.new.self.items c.number.result (slot_field (ring_place row))
    c.in_ok-push-2.ensures.items (c.number.ensures ∙ ap number c.in_ok-place_name.ensures))
    (field-pushed c.push-2.new.self.items c.push-3.new.self.items c.number-2.result (slot_field (ring_taken row))
    c.in_ok-push-3.ensures.items (c.number-2.ensures ∙ ap number c.in_ok-taken_name.ensures))
