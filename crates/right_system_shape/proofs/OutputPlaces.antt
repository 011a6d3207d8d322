-- Each output's value is in the field that its place names.
use Rattle.std.specs.Prelude.{◌≡◌, true, ◌==◌, List, filter, find, length, map, slice_get, Contains, Some}
use Rattle.std.specs.List.{range_with_len}
use Rattle.std.proofs.Common.{sym, refl, true≢false}
use Rattle.diagram_blocks.specs.declared.Kind.{Kind}
use Rattle.diagram_blocks.specs.declared.Kind.TheVariants.{Outport}
use Rattle.diagram_blocks.specs.Meaning.{has_value}
use Rattle.diagram_blocks.specs.Kinds.{is_outport, port_of}
use Rattle.modules_profile.specs.declared.local.LocalRow.{LocalRow}
use Rattle.modules_profile.specs.LocalSystem.{LocalSystem}
use Rattle.modules_profile.specs.LawfulLocals.{IsLocal}
use Rattle.modules_profile.specs.Locals.{outports}
use Rattle.modules_profile.specs.NodeFacts.{LocalsAreLawful}
use Rattle.modules_profile.proofs.lemmas.Members.{of-filter, of-filter_map, found-in}
use Rattle.modules_schedule.specs.SystemSchedule.{SystemSchedule}
use Rattle.emit_shape.specs.Slots.{value, AreOutputPlaces}
use Rattle.emit_system_spec.specs.Fields.{value_field, code_slots}
use Rattle.right_system_shape.specs.Formed.{OutputsHavePlaces}
use Rattle.right_system_shape.proofs.FieldPlaces.{value-at, zip-map}

pub outport-valued : (kind : Kind) → is_outport kind ≡ true → has_value kind ≡ true
outport-valued (Outport port reset initial) h = refl
outport-valued _ h = absurd (true≢false (sym h))

pub outport-row : (local : LocalSystem) (o : LocalRow) → Contains (outports local) o → Contains local.rows o × (is_outport o.kind ≡ true)
outport-row local o h =
    let rows : List LocalRow = filter (λ (r : LocalRow). is_outport r.kind) local.rows in
    let f = of-filter_map (λ k. find (λ (r : LocalRow). port_of r.kind == k) rows) (range_with_len 1 (length rows)) o h in
    of-filter (λ (r : LocalRow). is_outport r.kind) local.rows o (found-in (λ (r : LocalRow). port_of r.kind == f.0) rows o f.2).0

outputs-at : (local : LocalSystem) (schedule : SystemSchedule) → IsLocal local → AreOutputPlaces local (code_slots local schedule)
    (map (λ (o : LocalRow). value_field local o.row) (outports local))
outputs-at local schedule lawful =
    zip-map (λ (o : LocalRow) k. slice_get (code_slots local schedule) k ≡ Some (value o)) (λ (o : LocalRow). value_field local o.row)
    (outports local)
    (λ o h. let own = outport-row local o h in value-at local schedule lawful o own.0 (outport-valued o.kind own.1))

pub outputs_have_places : LocalsAreLawful → OutputsHavePlaces
outputs_have_places lawful local profile schedule is =
    outputs-at local schedule (lawful is.resolved local.row local is.is_resolved is.is_local)
