use Rattle.std.proofs.Common.{ℕ, Bool, List, sym, ap, ap₂, ◌∙◌}
use Rattle.emit_shape.specs.Delays.{is_single}
use Rattle.modules_profile.specs.declared.local.LocalRow.{LocalRow}
use Rattle.c_syntax.specs.declared.code.CType.{CType}
use Rattle.c_syntax.specs.declared.program.FieldKind.TheVariants.{Number}
use Rattle.c_syntax.specs.PlainField.{field_trees}
use Rattle.c_syntax.specs.Tree.{FieldTree}
use Rattle.emit_shape.specs.Slots.{slot_field, memory}
use Rattle.emit_signatures.proofs.FieldSteps.{field-pushed}
use Rattle.emit_row_facts.proofs.lemmas.Steps.{passed-then, passed-else}
use Rattle.emit_signatures.proofs.struct_fields.push_singles.Goals as goal
use Rattle.emit_signatures.proofs.struct_fields.push_singles.Goals.{then-is_single+in_ok-memory_name+in_ok-push, else-is_single}

pub loop-row-preserved : goal.loop-row-preserved
loop-row-preserved c =
    let rows = c.args.rows.now in
    let k = c.loop-row.row-index in
    let x = c.row-item.result in
    let passes : LocalRow → Bool = λ r. is_single r.op in
    let field : LocalRow → FieldTree = λ r. slot_field (memory r) in
    let made : List ℕ → CType → FieldTree = λ n t. record { name = n; kind = Number t } in
    let before = field_trees c.args.list.now.items in
    let list = c.loop-row.list.items in
    elim c.if-is_single.branch [
      | then-is_single+in_ok-memory_name+in_ok-push w ↦ ap (λ v. field_trees v.items) w.list-is
          ∙ passed-then passes field rows k x before (field_trees list) _ c.loop-row-test.true c.row-item.is
          (sym c.is_single.ensures ∙ w.if-is_single.true) c.loop-row.invariant
          (field-pushed list w.push.new.self.items w.number.result (field x) w.in_ok-push.ensures.items
          (w.number.ensures ∙ ap₂ made w.in_ok-memory_name.ensures w.container.ensures))
      | else-is_single w ↦ ap (λ v. field_trees v.items) w.list-is
          ∙ passed-else passes field rows k x before (field_trees list) c.loop-row-test.true c.row-item.is
          (sym c.is_single.ensures ∙ w.if-is_single.false) c.loop-row.invariant
    ]
