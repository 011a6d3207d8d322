use Rattle.std.proofs.Common.{ℕ, List, ◌++◌, map, length, arith, ap, ap₂, ◌∙◌}
use Rattle.modules_profile.specs.LocalSystem.{LocalSystem}
use Rattle.modules_profile.specs.Systems.{system_name}
use Rattle.c_syntax.specs.Tree.{FieldTree, StructTree}
use Rattle.emit_shape.specs.Slots.{slot_field, own_slots}
use Rattle.emit_system_spec.specs.Fields.{counter_slot}
use Rattle.emit_signatures.specs.StructFields.{filled}
use Rattle.emit_signatures.proofs.FieldSteps.{all-slots-are}
use Rattle.emit_signatures.proofs.struct_fields.structure.Goals as goal

pub own_fields-requires : goal.own_fields-requires
own_fields-requires c =
    let few = c.is_emittable.ensures.fields in
    let same = ap (λ (s : LocalSystem). length s.children) c.local-system.ensures in
    omega (arith, few, same)

pub returns : goal.returns
returns c =
    let own = c.in_ok-list.ensures ∙ ap (λ (s : LocalSystem). map slot_field (own_slots s)) c.local-system.ensures in
    let counted = c.in_ok-push_counters.ensures
    ∙ ap₂ (λ (l : List FieldTree) (gs : List ℕ). l ++ map (λ (g : ℕ). slot_field (counter_slot g)) gs) own
    c.shared_groups.ensures in
    let all = c.in_ok-push_filler.ensures ∙ ap filled counted ∙ all-slots-are c.args.layout.now.local c.args.layout.now.schedule in
    let name = c.in_ok-system_name.ensures ∙ ap (λ (s : LocalSystem). system_name s.row) (c.system.view_is ∙ c.local-system.ensures) in
    let make : List ℕ → List FieldTree → StructTree = λ n fs. record { name = n; fields = fs } in
    ap₂ make name all
