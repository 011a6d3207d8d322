use Rattle.std.proofs.Common.{◌≡◌, ◌+◌, ℕ, suc, List, get_or, ap, ◌∙◌, arith}
use Rattle.std.proofs.lemmas.List.{get_or_default}
use Rattle.c_syntax.specs.declared.code.CType.TheVariants.{U8}
use Rattle.c_syntax.specs.declared.program.FieldKind.TheVariants.{Number}
use Rattle.c_syntax.specs.PlainField.{field_trees}
use Rattle.c_syntax.specs.Tree.{FieldTree}
use Rattle.emit_shape.specs.Names.{counter_name}
use Rattle.emit_shape.specs.Slots.{slot_field}
use Rattle.emit_system_spec.specs.Fields.{counter_slot}
use Rattle.emit_signatures.proofs.FieldSteps.{field-pushed}
use Rattle.emit_row_facts.proofs.lemmas.Steps.{mapped-next}
use Rattle.emit_signatures.proofs.struct_fields.push_counters.Goals as goal

pub loop-group-preserved : goal.loop-group-preserved
loop-group-preserved c =
    let groups = c.args.groups.now in
    let k = c.loop-group.group-index in
    let g : ℕ = get_or groups k 0 in
    let field : ℕ → FieldTree = λ n. slot_field (counter_slot n) in
    let list = c.loop-group.list.items in
    let next : c.from.result + 1 ≡ suc g = omega (arith, c.from.ensures) in
    let named : List ℕ → FieldTree = λ n. record { name = n; kind = Number U8 } in
    mapped-next field groups k g (field_trees c.args.list.now.items) (field_trees list) (field_trees c.push.new.self.items)
    c.loop-group-test.true (get_or_default groups k 0 g c.loop-group-test.true) c.loop-group.invariant
    (field-pushed list c.push.new.self.items c.number.result (field g) c.in_ok-push.ensures.items
    (c.number.ensures ∙ ap named (c.in_ok-counter_name.ensures ∙ ap counter_name next)))
