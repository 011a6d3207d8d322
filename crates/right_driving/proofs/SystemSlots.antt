-- What a system's struct has a field for: the value of each own row that has one, and each child.
use Rattle.std.specs.Prelude.{◌≡◌, ℕ, ◌+◌, Bool, true, List, [], ◌∷◌, ◌++◌, map, flat_map, filter, slice_get, if◌then◌else◌, Contains, Option, Some}
use Rattle.std.specs.List.{enumerate_from}
use Rattle.std.proofs.Common.{ap, subst, ◌∙◌, arith}
use Rattle.std.proofs.lemmas.List.Elements.{Contains-append_left, Contains-append_right}
use Rattle.std.proofs.lemmas.List.Sorted.{Contains-permutation}
use Rattle.diagram_blocks.specs.Meaning.{has_value}
use Rattle.diagram_meaning.specs.Rows.{row_at, rows_of, is_triggered, subsystems_of}
use Rattle.diagram_meaning.specs.Diagram.{Diagram, type_at}
use Rattle.modules_profile.specs.declared.ChildUse.{ChildUse}
use Rattle.modules_profile.specs.declared.LocalRow.{LocalRow}
use Rattle.modules_profile.specs.LocalSystem.{LocalSystem}
use Rattle.modules_profile.specs.SystemHeader.{SystemHeader}
use Rattle.modules_profile.specs.Locals.{local_row, child_use}
use Rattle.modules_profile.specs.Systems.{system_name}
use Rattle.modules_profile.proofs.lemmas.Members.{in-none, in-map, in-filter, at-in, at-map, map-at, in-enumerate}
use Rattle.c_syntax.specs.Tree.{ProgramTree}
use Rattle.emit_shape.specs.CodeNames.{NamedField, named_fields}
use Rattle.c_syntax.specs.Kinds.{number_kind, struct_kind}
use Rattle.emit_shape.specs.Delays.{is_single, is_line}
use Rattle.emit_shape.specs.Names.{container, value_name, child_name}
use Rattle.emit_shape.specs.ProgramShape.{HasFields, HasSystemShape, named_slot, viewed}
use Rattle.emit_shape.specs.Programs.{struct_at, names_in, struct_place}
use Rattle.emit_shape.specs.Slots.{Slot, value, memory, trigger, counter, instance, ring_slots, own_slots, or_filler, CounterField}

in-filled : (xs : List Slot) (x : Slot) → Contains xs x → Contains (or_filler xs) x
in-filled [] x has = absurd (in-none x has)
in-filled (y ∷ ys) x has = has

module _ (local : LocalSystem) where
  abbrev values : List Slot
  values = map value (filter (λ (r : LocalRow). has_value r.kind) local.rows)

  abbrev memories : List Slot
  memories = map memory (filter (λ (r : LocalRow). is_single r.op) local.rows)

  abbrev rings : List Slot
  rings = flat_map ring_slots (filter (λ (r : LocalRow). is_line r.op) local.rows)

  abbrev triggers : List Slot
  triggers = if is_triggered local.control then trigger ∷ [] else []

  abbrev instances : List Slot
  instances = map (λ (e : ℕ × ChildUse). instance e.0 e.1) (enumerate_from 0 local.children)

  own-value : (r : LocalRow) → Contains local.rows r → has_value r.kind ≡ true → Contains (own_slots local) (value r)
  own-value r has valued =
      Contains-append_left (values ++ memories ++ rings ++ triggers) instances (value r)
      (Contains-append_left (values ++ memories ++ rings) triggers (value r)
      (Contains-append_left (values ++ memories) rings (value r)
      (Contains-append_left values memories (value r)
      (in-map value (filter (λ (q : LocalRow). has_value q.kind) local.rows) r
      (in-filter (λ (q : LocalRow). has_value q.kind) local.rows r has valued)))))

  own-instance : (k : ℕ) (u : ChildUse) → slice_get local.children k ≡ Some u → Contains (own_slots local) (instance k u)
  own-instance k u at =
      let place : 0 + k ≡ k = omega arith in
      let listed : Contains (enumerate_from 0 local.children) (k, u) =
      subst (λ n. Contains (enumerate_from 0 local.children) (n, u)) place (in-enumerate 0 local.children k u at) in
      Contains-append_right (values ++ memories ++ rings ++ triggers) instances (instance k u)
      (in-map (λ (e : ℕ × ChildUse). instance e.0 e.1) (enumerate_from 0 local.children) (k, u) listed)

  -- each of them is a field
  slot-field : (fields : List NamedField) (has : HasFields local fields) (x : Slot) → Contains (own_slots local) x →
      Contains fields (named_slot x)
  slot-field fields has x own =
      let counters : List Slot = map (λ (c : CounterField). counter c.name c.type) has.are_slots.counters in
      subst (λ fs. Contains fs (named_slot x)) has.are_fields
      (in-map named_slot has.slots x
      (Contains-permutation (or_filler (own_slots local ++ counters)) has.slots x has.are_slots.all
      (in-filled (own_slots local ++ counters) x (Contains-append_left (own_slots local) counters x own))))

module _ (p : ProgramTree) (d : Diagram) (delays : List Bool) (s : Option ℕ) (shape : HasSystemShape p d delays s) where
  abbrev local : LocalSystem
  local = viewed shape.view

  abbrev fields : List NamedField
  fields = named_fields (names_in p (struct_place p s)) (struct_at p (struct_place p s)).fields

  pub value-declared : (b : ℕ) → Contains (rows_of d.rows s) b → has_value (row_at d.rows b).kind ≡ true →
      Contains fields (record { name = value_name b; kind = number_kind (container (type_at d.types b)) })
  value-declared b has valued =
      slot-field local fields shape.fields (value (local_row d delays b))
      (own-value local (local_row d delays b) (in-map (local_row d delays) (rows_of d.rows s) b has) valued)

  pub child-declared : (e : ℕ) → Contains (subsystems_of d.rows s) e →
      Contains fields (record { name = child_name e; kind = struct_kind (child_name e) })
  child-declared e has =
      let row : SystemHeader → Option ℕ = λ (h : SystemHeader). h.row in
      let at = at-in (subsystems_of d.rows s) e has in
      let h = map-at row shape.view.headers at.0 (Some e)
      (ap (λ os. slice_get os at.0) shape.view.are_headers.rows ∙ at-map Some (subsystems_of d.rows s) at.0 e at.1) in
      let there : slice_get local.children at.0 ≡ Some (child_use d h.0) = at-map (child_use d) shape.view.headers at.0 h.0 h.1 in
      let slot = slot-field local fields shape.fields (instance at.0 (child_use d h.0)) (own-instance local at.0 (child_use d h.0) there) in
      subst (λ o. Contains fields (record { name = system_name o; kind = struct_kind (system_name o) })) h.2 slot
