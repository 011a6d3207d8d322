-- The fields of a system's struct by their names: rows, the trigger and counters have slots, and each field is where its slot is.
use Rattle.std.specs.Prelude.{◌≡◌, ℕ, Bool, true, List, filter, slice_get, Contains, Option, Some, None, refl}
use Rattle.std.proofs.Common.{sym, ap, subst, ◌∙◌, true≢false}
use Rattle.diagram_blocks.specs.declared.Kind.{Kind}
use Rattle.diagram_blocks.specs.declared.Kind.TheVariants.{Outport}
use Rattle.diagram_blocks.specs.Kinds.{is_outport}
use Rattle.diagram_blocks.specs.Meaning.{has_value}
use Rattle.diagram_meaning.specs.Rows.{row_at, rows_of, outports_of, system_control, is_triggered}
use Rattle.diagram_meaning.specs.Diagram.{Diagram, op_at, type_at}
use Rattle.diagram_meaning.specs.Run.{start_by, start_of}
use Rattle.modules_profile.specs.declared.LocalRow.{LocalRow}
use Rattle.modules_profile.specs.LocalSystem.{LocalSystem}
use Rattle.modules_profile.specs.Locals.{local_row}
use Rattle.modules_profile.specs.Systems.{system_name}
use Rattle.modules_profile.proofs.lemmas.Members.{in-map, of-map, in-filter, of-filter, in-at, at-in}
use Rattle.modules_profile.proofs.lemmas.PortRows.{in-rows, of-rows, of-ports}
use Rattle.c_syntax.specs.declared.CType.{CType}
use Rattle.c_syntax.specs.Tree.{FieldTree, StructTree, struct_fields}
use Rattle.emit_shape.specs.Delays.{is_single, is_line}
use Rattle.emit_shape.specs.Names.{is_counter_name}
use Rattle.emit_shape.specs.Programs.{struct_place}
use Rattle.emit_shape.specs.RowStarts.{row_start}
use Rattle.emit_shape.specs.Slots.{Slot, value, memory, ring_items, ring_place, ring_taken, trigger, counter, instance, filler, slot_field}
use Rattle.emit_shape.specs.Assembled.{moved_kind}
use Rattle.right_claim.specs.Paths.{place_in}
use Rattle.right_claim.specs.Held.{valued_rows, single_rows, line_rows, counter_fields}
use Rattle.right_linking.specs.Parts.{Parts, program_of, diagram, all_systems, IsCodedAs, Views}
use Rattle.right_linking.specs.Places.{SystemsHavePlaces, FieldsAreFound}
use Rattle.right_linking.proofs.lemmas.OwnSlots.{value-there, memory-there, items-there, place-there, taken-there, trigger-there}

-- an Outport has a value
pub outport-valued : (kind : Kind) → is_outport kind ≡ true → has_value kind ≡ true
outport-valued (Outport port resets initial) is = refl
outport-valued _ is = absurd (true≢false (sym is))

pub outports-valued : (d : Diagram) (s : Option ℕ) (b : ℕ) → Contains (outports_of d.rows s) b → Contains (valued_rows d s) b
outports-valued d s b has =
    let own = of-ports d.rows s is_outport b has in
    in-filter (λ c. has_value (row_at d.rows c).kind) (rows_of d.rows s) b (in-rows d.rows s b own.0 own.1)
    (outport-valued (row_at d.rows b).kind own.2)

no-counter : (o : Option ℕ) → is_counter_name (system_name o) ≡ true → ⊥
no-counter None named = true≢false (sym named)
no-counter (Some r) named = true≢false (sym named)

-- a slot with a counter's name is one
counter-is : (x : Slot) → is_counter_name (slot_field x).name ≡ true → (type : CType) × (x ≡ counter (slot_field x).name type)
counter-is (counter name type) named = (type, refl)
counter-is (instance k u) named = absurd (no-counter u.header.row named)
counter-is _ named = absurd (true≢false (sym named))

module _ (a : Parts) (v : Views a) (place : ℕ) (s : Option ℕ) (stands : slice_get (all_systems a) place ≡ Some s) where
  known : IsCodedAs a place s (v.at s)
  known = v.each place s stands

  abbrev local : LocalSystem
  local = (v.at s).local

  abbrev slots : List Slot
  slots = (v.at s).slots

  abbrev d : Diagram
  d = diagram a

  -- row b with all that its code is made from
  abbrev pub row : ℕ → LocalRow
  row b = local_row d a.model.times.delays b

  own-row : (b : ℕ) → Contains (rows_of d.rows s) b → Contains local.rows (row b)
  own-row b has = subst (λ (l : LocalSystem). Contains l.rows (row b)) (sym known.local.is_local) (in-map row (rows_of d.rows s) b has)

  control-is : local.control ≡ system_control d.rows s
  control-is = ap (λ (l : LocalSystem). l.control) known.local.is_local

  -- a row begins by the system's own rows as in the diagram
  start-is : (b : ℕ) → Contains (rows_of d.rows s) b → row_start local (row b) ≡ start_of d b
  start-is b has =
      ap (λ (l : LocalSystem). row_start l (row b)) known.local.is_local
      ∙ ap (λ (o : Option ℕ). start_by (op_at d b) (row_at d.rows b).kind (system_control d.rows o) (type_at d.types b))
      (sym (of-rows d.rows s b has).1)

  -- ---- Slots by rows

  -- what passes a test on own rows is an own row
  module _ (test : ℕ → Bool) (b : ℕ) (has : Contains (filter test (rows_of d.rows s)) b) where
    kept-row : Contains local.rows (row b)
    kept-row = own-row b (of-filter test (rows_of d.rows s) b has).0

    kept-start : row_start local (row b) ≡ start_of d b
    kept-start = start-is b (of-filter test (rows_of d.rows s) b has).0

    passes : test b ≡ true
    passes = (of-filter test (rows_of d.rows s) b has).1

  abbrev valued : ℕ → Bool
  valued b = has_value (row_at d.rows b).kind

  abbrev single : ℕ → Bool
  single b = is_single (op_at d b)

  abbrev line : ℕ → Bool
  line b = is_line (op_at d b)

  pub value-slot : (b : ℕ) → Contains (valued_rows d s) b → Contains slots (value (row b))
  value-slot b has = value-there local slots known.shape.slots_right (row b) (kept-row valued b has) (passes valued b has)

  pub value-start : (b : ℕ) → Contains (valued_rows d s) b → row_start local (row b) ≡ start_of d b
  value-start b has = kept-start valued b has

  pub memory-slot : (b : ℕ) → Contains (single_rows d s) b → Contains slots (memory (row b))
  memory-slot b has = memory-there local slots known.shape.slots_right (row b) (kept-row single b has) (passes single b has)

  pub memory-start : (b : ℕ) → Contains (single_rows d s) b → row_start local (row b) ≡ start_of d b
  memory-start b has = kept-start single b has

  module _ (b : ℕ) (has : Contains (line_rows d s) b) where
    pub line-row : Contains local.rows (row b) × (is_line (row b).op ≡ true)
    line-row = (kept-row line b has, passes line b has)

    pub line-start : row_start local (row b) ≡ start_of d b
    line-start = kept-start line b has

    pub items-slot : Contains slots (ring_items (row b))
    items-slot = items-there local slots known.shape.slots_right (row b) line-row.0 line-row.1

    pub place-slot : Contains slots (ring_place (row b))
    place-slot = place-there local slots known.shape.slots_right (row b) line-row.0 line-row.1

    pub taken-slot : Contains slots (ring_taken (row b))
    taken-slot = taken-there local slots known.shape.slots_right (row b) line-row.0 line-row.1

  pub trigger-slot : is_triggered (system_control d.rows s) ≡ true → Contains slots trigger
  trigger-slot triggered = trigger-there local slots known.shape.slots_right (ap is_triggered control-is ∙ triggered)

  -- a counter of the struct has its slot
  pub counter-slot : SystemsHavePlaces → (f : FieldTree) → Contains (counter_fields (program_of a) s) f →
      (type : CType) × Contains slots (counter f.name type)
  counter-slot places f has =
      let fields = struct_fields (program_of a).structs (struct_place (program_of a) s) in
      let kept = of-filter (λ (g : FieldTree). is_counter_name g.name) fields f has in
      let moved = of-map (λ (g : FieldTree). record { name = g.name; kind = moved_kind a.codes g.name g.kind })
      (v.at s).code.structure.fields f
      (subst (λ fs. Contains fs f) (places a v place s stands).fields kept.0) in
      let made = of-map slot_field slots moved.0
      (subst (λ (st : StructTree). Contains st.fields moved.0) known.shape.structure moved.1) in
      let named : (slot_field made.0).name ≡ f.name =
      ap (λ (g : FieldTree). g.name) made.2 ∙ ap (λ (g : FieldTree). g.name) moved.2 in
      let is = counter-is made.0 (ap is_counter_name named ∙ kept.1) in
      (is.0, subst (Contains slots) (is.1 ∙ ap (λ name. counter name is.0) named) made.1)

  -- ---- Fields by names

  -- the field of a slot is found by its name
  pub record IsAt (x : Slot) : Type 0 where
    pub position : ℕ
    pub there : slice_get slots position ≡ Some x
    pub named : place_in (program_of a) s (slot_field x).name ≡ position

  pub slot-at : FieldsAreFound → (x : Slot) → Contains slots x → IsAt x
  slot-at fields x has =
      let at = at-in slots x has in
      record { position = at.0; there = at.1; named = fields a v s at.0 x (in-at (all_systems a) place s stands) at.1 }
