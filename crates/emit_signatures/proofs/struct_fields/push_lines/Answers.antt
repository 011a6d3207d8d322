use Rattle.std.proofs.Common.{Bool, List, map, sym, ap, ◌∙◌}
use Rattle.modules_profile.specs.declared.local.LocalRow.{LocalRow}
use Rattle.c_syntax.specs.PlainField.{field_trees}
use Rattle.c_syntax.specs.Tree.{FieldTree}
use Rattle.emit_shape.specs.Delays.{is_line}
use Rattle.emit_shape.specs.Slots.{slot_field, ring_slots}
use Rattle.emit_row_facts.proofs.lemmas.Steps.{several-then, several-else}
use Rattle.emit_signatures.proofs.struct_fields.push_lines.Goals as goal
use Rattle.emit_signatures.proofs.struct_fields.push_lines.Goals.{then-is_line+in_ok-push_ring, else-is_line}

pub loop-row-preserved : goal.loop-row-preserved
loop-row-preserved c =
    let rows = c.args.rows.now in
    let k = c.loop-row.row-index in
    let x = c.row-item.result in
    let passes : LocalRow → Bool = λ r. is_line r.op in
    let ring : LocalRow → List FieldTree = λ r. map slot_field (ring_slots r) in
    let before = field_trees c.args.list.now.items in
    let list = field_trees c.loop-row.list.items in
    elim c.if-is_line.branch [
      | then-is_line+in_ok-push_ring w ↦ ap (λ v. field_trees v.items) w.list-is
          ∙ several-then passes ring rows k x before list _ c.loop-row-test.true c.row-item.is
          (sym c.is_line.ensures ∙ w.if-is_line.true) c.loop-row.invariant w.in_ok-push_ring.ensures
      | else-is_line w ↦ ap (λ v. field_trees v.items) w.list-is
          ∙ several-else passes ring rows k x before list c.loop-row-test.true c.row-item.is
          (sym c.is_line.ensures ∙ w.if-is_line.false) c.loop-row.invariant
    ]
