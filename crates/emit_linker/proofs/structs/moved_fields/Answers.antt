use Rattle.std.proofs.Common.{ℕ, List, [], ap, ◌∙◌}
use Rattle.c_syntax.specs.Tree.{FieldTree}
use Rattle.c_syntax.specs.PlainField.{field_tree, field_trees}
use Rattle.emit_shape.specs.Assembled.{moved_kind}
use Rattle.emit_linker.specs.Places.{trees}
use Rattle.emit_linker.proofs.Steps.{seen-push, seen-next}
use Rattle.emit_linker.proofs.structs.moved_fields.Goals as goal

pub loop-field-preserved : goal.loop-field-preserved
loop-field-preserved c =
    let x = c.field-item.result in
    let all = trees c.args.codes.now.list.now in
    let moved : FieldTree → FieldTree = λ f. record { name = f.name; kind = moved_kind all f.name f.kind } in
    let list = c.loop-field.list.items in
    let name = c.in_ok-copy_of.ensures ∙ c.bytes.ensures in
    let kind = c.moved_kind.ensures ∙ ap (λ (n : List ℕ). moved_kind all n x.kind) c.bytes-in-loop-field.ensures in
    seen-next moved field_tree c.args.fields.now c.loop-field.field-index x [] (field_trees list) (field_trees c.push.new.self.items)
    c.loop-field-test.true c.field-item.is c.loop-field.invariant
    (seen-push field_tree list c.push.new.self.items _ (moved (field_tree x)) c.in_ok-push.ensures.items
    (λ j. record { name = name j; kind = kind j }))
