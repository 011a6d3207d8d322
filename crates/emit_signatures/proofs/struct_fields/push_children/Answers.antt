use Rattle.std.proofs.Common.{ℕ, List, ◌++◌, ◌∷◌, [], map, take, sym, ap, ◌∙◌}
use Rattle.std.specs.List.{enumerate_from}
use Rattle.modules_profile.specs.declared.local.ChildUse.{ChildUse}
use Rattle.modules_profile.specs.Systems.{system_name}
use Rattle.c_syntax.specs.declared.program.FieldKind.TheVariants.{Struct}
use Rattle.c_syntax.specs.PlainField.{field_trees}
use Rattle.c_syntax.specs.Tree.{FieldTree}
use Rattle.emit_shape.specs.Slots.{slot_field, instance}
use Rattle.emit_signatures.proofs.FieldSteps.{field-more}
use Rattle.emit_row_facts.proofs.lemmas.Steps.{map-enumerate-more}
use Rattle.emit_signatures.proofs.struct_fields.push_children.Goals as goal

pub loop-place-preserved : goal.loop-place-preserved
loop-place-preserved c =
    let children = c.args.children.now in
    let i = c.loop-place.place in
    let x = c.index-children-place.result in
    let field : ℕ × ChildUse → FieldTree = λ e. slot_field (instance e.0 e.1) in
    let before = field_trees c.args.list.now.items in
    let front = map field (enumerate_from 0 (take i children)) in
    let name = c.in_ok-system_name.ensures ∙ ap (λ (u : ChildUse). system_name u.header.row) c.child.view_is in
    field-more c.loop-place.list.items c.push.new.self.items _ before front c.in_ok-push.ensures.items c.loop-place.invariant
    ∙ ap (λ (n : List ℕ). before ++ (front ++ record { name = n; kind = Struct i } ∷ [])) name
    ∙ ap (λ (y : ChildUse). before ++ (front ++ field (i, y) ∷ [])) c.index-children-place.is
    ∙ ap (λ (l : List FieldTree). before ++ l) (sym (map-enumerate-more field children i x c.loop-place-test.true))
