use Rattle.std.proofs.Common.{ℕ, List, [], Bor, map, ap, ◌∙◌}
use Rattle.c_syntax.specs.Tree.{FieldTree}
use Rattle.c_syntax.specs.PlainField.{field_tree}
use Rattle.emit_shape.specs.Assembled.{code_at, code_named}
use Rattle.emit_linker.specs.Places.{trees}
use Rattle.emit_linker.proofs.Steps.{seen-push, seen-next}
use Rattle.emit_linker.proofs.linking.field_outputs.Goals as goal

pub loop-field-preserved : goal.loop-field-preserved
loop-field-preserved c =
    let x = c.field-item.result in
    let all = trees c.args.codes.now.list.now in
    let outputs : List ℕ → List ℕ = λ name. (code_at all (code_named all name)).outputs in
    let told : Bor (List ℕ) → List ℕ = λ n. n.now in
    let list = c.loop-field.list.items in
    seen-next (λ (f : FieldTree). outputs f.name) field_tree c.args.fields.now c.loop-field.field-index x [] (map told list)
    (map told c.push.new.self.items) c.loop-field-test.true c.field-item.is c.loop-field.invariant
    (seen-push told list c.push.new.self.items c.outputs_under.result (outputs x.name) c.in_ok-push.ensures.items
    (c.outputs_under.ensures ∙ ap outputs c.bytes.ensures))
