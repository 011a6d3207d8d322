-- The fields of a struct, one field on.
use Rattle.std.proofs.Common.{◌≡◌, ℕ, refl, sym, ap₂, map, filter, List, [], ◌∷◌, ◌++◌, append_assoc, ap, ◌∙◌}
use Rattle.std.proofs.lemmas.List.{map-append}
use Rattle.c_syntax.specs.declared.program.Field.{Field}
use Rattle.c_syntax.specs.PlainField.{field_tree, field_trees}
use Rattle.c_syntax.specs.Tree.{FieldTree}
use Rattle.std.specs.List.{flat_map, enumerate_from}
use Rattle.diagram_blocks.specs.Meaning.{has_value}
use Rattle.modules_profile.specs.declared.local.ChildUse.{ChildUse}
use Rattle.modules_profile.specs.LocalSystem.{LocalSystem}
use Rattle.modules_schedule.specs.SystemSchedule.{SystemSchedule}
use Rattle.emit_shape.specs.Delays.{is_single, is_line}
use Rattle.emit_shape.specs.Slots.{Slot, value, memory, instance, ring_slots, slot_field, own_slots, or_filler}
use Rattle.emit_system_spec.specs.Fields.{counter_slot, shared_groups, code_slots}
use Rattle.emit_signatures.specs.StructFields.{filled, trigger_slots}
use Rattle.emit_row_facts.proofs.lemmas.Steps.{map-map}

pub field-more : (list new : List Field) (f : Field) (before front : List FieldTree) → new ≡ list ++ f ∷ [] →
    field_trees list ≡ before ++ front → field_trees new ≡ before ++ (front ++ field_tree f ∷ [])
field-more list new f before front pushed kept =
    ap field_trees pushed ∙ map-append field_tree list (f ∷ []) ∙ ap (λ l. l ++ field_tree f ∷ []) kept
    ∙ append_assoc before front (field_tree f ∷ [])

pub field-pushed : (list new : List Field) (f : Field) (field : FieldTree) → new ≡ list ++ f ∷ [] → field_tree f ≡ field →
    field_trees new ≡ field_trees list ++ field ∷ []
field-pushed list new f field pushed told =
    ap field_trees pushed ∙ map-append field_tree list (f ∷ []) ∙ ap (λ t. field_trees list ++ t ∷ []) told

pub three-pushed : (before : List FieldTree) (a b c : FieldTree) (one two three : List FieldTree) → one ≡ before ++ a ∷ [] → two ≡ one ++ b ∷ [] →
    three ≡ two ++ c ∷ [] → three ≡ before ++ a ∷ b ∷ c ∷ []
three-pushed before a b c one two three first second third =
    third ∙ ap (λ l. l ++ c ∷ []) (second ∙ ap (λ l. l ++ b ∷ []) first ∙ append_assoc before (a ∷ []) (b ∷ []))
    ∙ append_assoc before (a ∷ b ∷ []) (c ∷ [])

-- ---- All fields

map-flat : {A B C : Type 0} (g : B → C) (f : A → List B) (xs : List A) → map g (flat_map f xs) ≡ flat_map (λ x. map g (f x)) xs
map-flat g f [] = refl
map-flat g f (x ∷ xs) = map-append g (f x) (flat_map f xs) ∙ ap (λ ys. map g (f x) ++ ys) (map-flat g f xs)

pub slots-are : (local : LocalSystem) →
    map (λ r. slot_field (value r)) (filter (λ r. has_value r.kind) local.rows)
    ++ map (λ r. slot_field (memory r)) (filter (λ r. is_single r.op) local.rows)
    ++ flat_map (λ r. map slot_field (ring_slots r)) (filter (λ r. is_line r.op) local.rows)
    ++ map slot_field (trigger_slots local.control)
    ++ map (λ e. slot_field (instance e.0 e.1)) (enumerate_from 0 local.children) ≡ map slot_field (own_slots local)
slots-are local =
    let v : List Slot = map value (filter (λ r. has_value r.kind) local.rows) in
    let s : List Slot = map memory (filter (λ r. is_single r.op) local.rows) in
    let l : List Slot = flat_map ring_slots (filter (λ r. is_line r.op) local.rows) in
    let t : List Slot = trigger_slots local.control in
    let e : List Slot = map (λ (e : ℕ × ChildUse). instance e.0 e.1) (enumerate_from 0 local.children) in
    sym (map-append slot_field (v ++ s ++ l ++ t) e
    ∙ ap₂ (λ (a b : List FieldTree). a ++ b)
    (map-append slot_field (v ++ s ++ l) t ∙ ap (λ (a : List FieldTree). a ++ map slot_field t)
    (map-append slot_field (v ++ s) l ∙ ap₂ (λ (a b : List FieldTree). a ++ b)
    (map-append slot_field v s
    ∙ ap₂ (λ (a b : List FieldTree). a ++ b) (map-map slot_field value (filter (λ r. has_value r.kind) local.rows))
    (map-map slot_field memory (filter (λ r. is_single r.op) local.rows)))
    (map-flat slot_field ring_slots (filter (λ r. is_line r.op) local.rows))))
    (map-map slot_field (λ (e : ℕ × ChildUse). instance e.0 e.1) (enumerate_from 0 local.children)))

filled-map : (slots : List Slot) → filled (map slot_field slots) ≡ map slot_field (or_filler slots)
filled-map [] = refl
filled-map (s ∷ slots) = refl

pub all-slots-are : (local : LocalSystem) (schedule : SystemSchedule) →
    filled (map slot_field (own_slots local) ++ map (λ g. slot_field (counter_slot g)) (shared_groups schedule))
    ≡ map slot_field (code_slots local schedule)
all-slots-are local schedule =
    ap (λ (l : List FieldTree). filled (map slot_field (own_slots local) ++ l))
    (sym (map-map slot_field counter_slot (shared_groups schedule)))
    ∙ ap filled (sym (map-append slot_field (own_slots local) (map counter_slot (shared_groups schedule))))
    ∙ filled-map (own_slots local ++ map counter_slot (shared_groups schedule))
