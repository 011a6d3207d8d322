use Rattle.std.proofs.Common.{ℕ, List, ◌++◌, map, filter, ap, ap₂, ◌∙◌}
use Rattle.std.specs.List.{enumerate_from, flat_map}
use Rattle.base_core.specs.declared.base.Control.{Control}
use Rattle.diagram_blocks.specs.Meaning.{has_value}
use Rattle.modules_profile.specs.declared.local.ChildUse.{ChildUse}
use Rattle.modules_profile.specs.declared.local.LocalRow.{LocalRow}
use Rattle.modules_profile.specs.LocalSystem.{LocalSystem}
use Rattle.c_syntax.specs.PlainField.{field_trees}
use Rattle.c_syntax.specs.Tree.{FieldTree}
use Rattle.emit_shape.specs.Delays.{is_single, is_line}
use Rattle.emit_shape.specs.Slots.{slot_field, value, memory, instance, ring_slots}
use Rattle.emit_signatures.specs.StructFields.{trigger_slots}
use Rattle.emit_signatures.proofs.FieldSteps.{slots-are}
use Rattle.emit_signatures.proofs.struct_fields.own_fields.Goals as goal

pub returns : goal.returns
returns c =
    let rows = c.as_slice-rows.ensures.value ∙ ap (λ (s : LocalSystem). s.rows) c.local.view_is in
    let children = c.as_slice.ensures.value ∙ ap (λ (s : LocalSystem). s.children) c.local.view_is in
    let control = ap (λ (s : LocalSystem). s.control) c.local.view_is in
    let valued = c.in_ok-push_values.ensures
    ∙ ap₂ (λ (l : List FieldTree) (rs : List LocalRow). l ++ map (λ (r : LocalRow). slot_field (value r))
    (filter (λ (r : LocalRow). has_value r.kind) rs)) (ap field_trees c.new-list.ensures.items) rows in
    let single = c.in_ok-push_singles.ensures
    ∙ ap₂ (λ (l : List FieldTree) (rs : List LocalRow). l ++ map (λ (r : LocalRow). slot_field (memory r))
    (filter (λ (r : LocalRow). is_single r.op) rs)) valued rows in
    let lined = c.in_ok-push_lines.ensures
    ∙ ap₂ (λ (l : List FieldTree) (rs : List LocalRow). l
    ++ flat_map (λ (r : LocalRow). map slot_field (ring_slots r)) (filter (λ (r : LocalRow). is_line r.op) rs))
    single rows in
    let triggered = c.in_ok-push_trigger.ensures
    ∙ ap₂ (λ (l : List FieldTree) (k : Control). l ++ map slot_field (trigger_slots k)) lined control in
    c.in_ok-push_children.ensures
    ∙ ap₂ (λ (l : List FieldTree) (us : List ChildUse). l
    ++ map (λ (e : ℕ × ChildUse). slot_field (instance e.0 e.1)) (enumerate_from 0 us)) triggered children
    ∙ slots-are c.args.local.now
