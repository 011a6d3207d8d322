-- What the positions in the emitted code stand for.
use Rattle.std.specs.Prelude.{◌≡◌, refl, ℕ, suc, ◌+◌, ◌==◌, true, List, [], map, flat_map, find, length, slice_get, Contains, Option, Some, None}
use Rattle.std.specs.Option.{option_map_or}
use Rattle.std.specs.List.{enumerate_from}
use Rattle.std.proofs.Common.{ap, ap₂, subst, ◌∙◌, arith}
use Rattle.base_fixed_point.specs.declared.types.FixType.{FixType}
use Rattle.diagram_blocks.specs.Meaning.{has_value}
use Rattle.diagram_meaning.specs.Rows.{is_triggered}
use Rattle.modules_profile.specs.declared.local.ChildUse.{ChildUse}
use Rattle.modules_profile.specs.declared.local.LocalRow.{LocalRow}
use Rattle.modules_profile.specs.LocalSystem.{LocalSystem}
use Rattle.modules_profile.specs.LawfulLocals.{IsLocal}
use Rattle.modules_profile.specs.Systems.{system_name}
use Rattle.modules_profile.proofs.lemmas.Members.{of-filter}
use Rattle.modules_schedule.specs.SystemSchedule.{SystemSchedule}
use Rattle.c_syntax.specs.declared.code.Leaf.TheVariants.{Own}
use Rattle.c_syntax.specs.Tree.{ParamTree}
use Rattle.emit_shape.specs.NamedLeaf.{NamedLeaf, own, child}
use Rattle.emit_shape.specs.CodeNames.{CodeNames, named_leaf}
use Rattle.emit_shape.specs.Delays.{is_single, is_line}
use Rattle.emit_shape.specs.LocalShape.{local_names, slot_name, output_in}
use Rattle.emit_shape.specs.Names.{value_name, memory_name, place_name, taken_name, trigger_name, counter_name}
use Rattle.emit_shape.specs.Rules.{has_output, wire_place}
use Rattle.emit_shape.specs.Slots.{Slot, value, memory, ring_items, ring_place, ring_taken, trigger, instance}
use Rattle.emit_shape.specs.SystemTree.{SystemTree}
use Rattle.emit_system_spec.specs.declared.source.Source.{Source}
use Rattle.emit_system_spec.specs.Fields.{value_rows, value_field, memory_field, ring_field, trigger_field, child_field, shared_groups, counter_slot, code_slots}
use Rattle.emit_system_spec.specs.Sources.{child_sources, value_source, sources, wire_leaf}
use Rattle.right_system_shape.proofs.FieldPlaces.{child-at, counter-at, trigger-at, value-at, memory-at, ring-slots-at}
use Rattle.right_system_shape.proofs.Wires.{get-first, find-append, or_else, ChildFound, child-found, own-found}

-- a wire is an output of a child, or an own value
abbrev pub IsSourced : LocalSystem → ℕ → Type 0
IsSourced local c = find (has_output c) local.children ≡ None → (r : LocalRow) × Contains (value_rows local) r × (r.row ≡ c)

module _ (local : LocalSystem) (schedule : SystemSchedule) (code : SystemTree) where
  abbrev pub names : CodeNames
  names = local_names local (code_slots local schedule) code

  own-slot : (k : ℕ) (x : Slot) → slice_get (code_slots local schedule) k ≡ Some x → names.own k ≡ slot_name x
  own-slot k x e = ap (λ o. option_map_or slot_name o []) e

  pub own-child : (k : ℕ) (u : ChildUse) → slice_get local.children k ≡ Some u → names.own (child_field local k) ≡ system_name u.header.row
  own-child k u e = own-slot (child_field local k) (instance k u) (child-at local schedule k u e)

  pub inner-child : (k o : ℕ) (u : ChildUse) → slice_get local.children k ≡ Some u → names.inner (child_field local k) o ≡ output_in o
      (instance k u)
  inner-child k o u e = ap (λ s. option_map_or (output_in o) s []) (child-at local schedule k u e)

  pub own-counter : (k g : ℕ) → slice_get (shared_groups schedule) k ≡ Some g → names.own (child_field local (length local.children) + k)
      ≡ counter_name (suc g)
  own-counter k g e = own-slot (child_field local (length local.children) + k) (counter_slot g) (counter-at local schedule k g e)

  pub own-trigger : is_triggered local.control ≡ true → names.own (trigger_field local) ≡ trigger_name
  own-trigger is = own-slot (trigger_field local) trigger (trigger-at local schedule is)

  module _ (lawful : IsLocal local) (r : LocalRow) (is_own : Contains local.rows r) where
    pub own-value : has_value r.kind ≡ true → names.own (value_field local r.row) ≡ value_name r.row
    own-value is = own-slot (value_field local r.row) (value r) (value-at local schedule lawful r is_own is)

    pub own-memory : is_single r.op ≡ true → names.own (memory_field local r.row) ≡ memory_name r.row
    own-memory is = own-slot (memory_field local r.row) (memory r) (memory-at local schedule lawful r is_own is)

    pub own-items : is_line r.op ≡ true → names.own (ring_field local r.row) ≡ memory_name r.row
    own-items is = own-slot (ring_field local r.row) (ring_items r) (ring-slots-at local schedule lawful r is_own is).items

    pub own-place : is_line r.op ≡ true → names.own (ring_field local r.row + 1) ≡ place_name r.row
    own-place is = own-slot (ring_field local r.row + 1) (ring_place r) (ring-slots-at local schedule lawful r is_own is).place

    pub own-taken : is_line r.op ≡ true → names.own (ring_field local r.row + 2) ≡ taken_name r.row
    own-taken is = own-slot (ring_field local r.row + 2) (ring_taken r) (ring-slots-at local schedule lawful r is_own is).taken

  -- ---- Wires

  pub wire-named : IsLocal local → (params : List ParamTree) (c : ℕ) → IsSourced local c → named_leaf names params (wire_leaf local c)
      ≡ wire_place local c
  wire-named lawful params c sourced =
      ap (λ o. named_leaf names params (option_map_or (λ (s : Source). s.leaf) o (Own 0)))
      (get-first (λ (s : Source). s.row) c (sources local) ∙ find-append (λ (s : Source). s.row == c) outputs values)
      ∙ by (find (has_output c) local.children) refl (search outputs) (child-found local c 0 local.children)
    where
      outputs : List Source
      outputs = flat_map (child_sources local) (enumerate_from 0 local.children)

      values : List Source
      values = map (value_source local) (value_rows local)

      search : List Source → Option Source
      search xs = find (λ (s : Source). s.row == c) xs

      read : Option Source → NamedLeaf
      read o = named_leaf names params (option_map_or (λ (s : Source). s.leaf) o (Own 0))

      by : (u : Option ChildUse) → find (has_output c) local.children ≡ u → (found : Option Source) →
          ChildFound local c 0 local.children u found →
          read (or_else found (search values)) ≡ option_map_or (λ (u : ChildUse). child (system_name u.header.row) (value_name c)) u
          (own (value_name c))
      by None e found none =
          let r = sourced e in
          let m = own-found local c (value_rows local) r.0 r.1 r.2 in
          let valued = of-filter (λ (q : LocalRow). has_value q.kind) local.rows m.0 m.2 in
          ap (λ o. read (or_else o (search values))) none ∙ ap read m.1
          ∙ ap own (own-value lawful m.0 valued.0 valued.1 ∙ ap value_name m.3)
      by (Some u) e found h =
          let o = h.output in
          let at : slice_get local.children (0 + h.place) ≡ Some u = subst (λ k. slice_get local.children k ≡ Some u)
          (let same : h.place ≡ 0 + h.place = omega arith in same) h.at in
          let here : slice_get u.header.outputs (0 + o.place) ≡ Some o.output = subst (λ k. slice_get u.header.outputs k ≡ Some o.output)
          (let same : o.place ≡ 0 + o.place = omega arith in same) o.at in
          ap (λ s. read (or_else s (search values))) o.is
          ∙ ap₂ child (own-child (0 + h.place) u at)
          (inner-child (0 + h.place) (0 + o.place) u at ∙ ap (λ e. option_map_or (λ (e : ℕ × FixType). value_name e.0) e []) here
          ∙ ap value_name o.row)
