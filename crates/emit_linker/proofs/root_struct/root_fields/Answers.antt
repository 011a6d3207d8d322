use Rattle.std.proofs.Common.{refl, ◌∙◌, None}
use Rattle.modules_profile.specs.Systems.{system_name}
use Rattle.c_syntax.specs.declared.code.CType.TheVariants.{I32}
use Rattle.c_syntax.specs.declared.program.FieldKind.TheVariants.{Number, Struct}
use Rattle.c_syntax.specs.Tree.{FieldTree}
use Rattle.emit_shape.specs.Names.{now_name}
use Rattle.emit_shape.specs.Assembled.{struct_position}
use Rattle.emit_linker.specs.Places.{trees}
use Rattle.emit_linker.proofs.RootCode.{fields-are}
use Rattle.emit_linker.proofs.root_struct.root_fields.Goals as goal

pub returns : goal.returns
returns c =
    let all = trees c.args.codes.now.list.now in
    let front : FieldTree = record { name = now_name; kind = Number I32 } in
    let last : FieldTree = record { name = system_name None; kind = Struct (struct_position all 0) } in
    fields-are all c.args.root.now c.new-list.result.items c.push.new.self.items c.push_outports.new.list.items c.push-2.new.self.items
    c.deref.result.now c.field.result c.field-2.result
    c.new-list.ensures.items c.in_ok-push.ensures.items c.in_ok-push_outports.ensures c.in_ok-push-2.ensures.items
    (c.deref.ensures.value ∙ c.in_ok-outports.ensures) front last
    (c.field.ensures ∙ (λ j. record { name = c.in_ok-named.ensures j; kind = Number I32 }))
    (c.field-2.ensures ∙ (λ j. record { name = c.in_ok-named-2.ensures j; kind = Struct (c.struct_position.ensures j) }))
    refl
