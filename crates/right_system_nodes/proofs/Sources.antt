-- What the leaves of a system's wires read in a tick, and in which types that lies.
use Rattle.std.specs.Prelude.{◌≡◌, ◌⊎◌, ℕ, zero, suc, ◌+◌, ◌==◌, true, List, [], ◌∷◌, map, flat_map, slice_get, Contains, Option, Some, None, ℤ, pos, refl}
use Rattle.std.specs.List.{position_from, enumerate_from, AllByRecursion}
use Rattle.std.specs.Option.{option_map_or, option_and_then}
use Rattle.std.proofs.Common.{sym, ap, subst, ◌∙◌, arith, inl, inr}
use Rattle.std.proofs.lemmas.List.Elements.{Contains-append_cases}
use Rattle.std.proofs.lemmas.Option.{same_Some, none-some}
use Rattle.base_fixed_point.specs.declared.types.FixType.{FixType}
use Rattle.base_fixed_point.specs.Conversion.{InType}
use Rattle.diagram_blocks.specs.Meaning.{has_value}
use Rattle.diagram_blocks.specs.Value.{input}
use Rattle.modules_profile.specs.declared.local.ChildUse.{ChildUse}
use Rattle.modules_profile.specs.declared.local.LocalRow.{LocalRow}
use Rattle.modules_profile.specs.LocalSystem.{LocalSystem}
use Rattle.modules_profile.specs.LawfulLocals.{IsLocal}
use Rattle.modules_profile.proofs.lemmas.Members.{in-first, in-rest, in-at, at-in, at-map, map-at, of-map, of-filter}
use Rattle.modules_profile.proofs.lemmas.OwnRows.{of-flat_map}
use Rattle.modules_schedule.specs.SystemSchedule.{SystemSchedule}
use Rattle.c_syntax.specs.declared.code.Leaf.{Leaf}
use Rattle.c_syntax.specs.declared.code.Leaf.TheVariants.{Own, Child}
use Rattle.c_syntax.specs.Tree.{ParamTree}
use Rattle.c_semantics.specs.Cells.{Cells, number_at, fields_at}
use Rattle.c_semantics.specs.Values.{leaf_reads}
use Rattle.c_semantics.specs.Machine.{Scope}
use Rattle.emit_shape.specs.Relocation.{Relocation, moved_leaf}
use Rattle.emit_shape.specs.Slots.{Slot}
use Rattle.right_relation.specs.LocalTicks.{LocalTick, IsTypedTick}
use Rattle.right_relation.specs.Instances.{InstanceTick, Offer}
use Rattle.right_relation.specs.NodeStatements.{HoldsWire}
use Rattle.right_relation.specs.Relation.{place_in_child, behind_offers}
use Rattle.emit_system_spec.specs.declared.source.Source.{Source}
use Rattle.emit_system_spec.specs.Fields.{value_rows, value_field, child_field, code_slots}
use Rattle.emit_system_spec.specs.Groups.{own_count}
use Rattle.emit_system_spec.specs.Sources.{output_source, child_sources, value_source, sources, source_of, wire_leaf, known_types, wire_types}
use Rattle.right_system_nodes.proofs.Facts.{IsSourced}
use Rattle.right_system_nodes.proofs.lemmas.SlotLists.{at-enumerate, finds-first, each-member, each-kept, index-or-at}
use Rattle.right_system_nodes.proofs.lemmas.SlotPlaces.{value-at, instance-at}

-- ---- What a source is

-- an output of a child
pub record IsOutput (local : LocalSystem) (s : Source) : Type 0 where
  pub place : ℕ
  pub child : ChildUse
  pub output : ℕ
  pub is_child : slice_get local.children place ≡ Some child
  pub is_output : slice_get child.header.outputs output ≡ Some (s.row, s.number)
  pub leaf : s.leaf ≡ Child (child_field local place) output

-- the value of an own row
pub record IsValue (local : LocalSystem) (s : Source) : Type 0 where
  pub row : LocalRow
  pub own : Contains local.rows row
  pub has : has_value row.kind ≡ true
  pub is_row : row.row ≡ s.row
  pub leaf : s.leaf ≡ Own (value_field local row.row)
  pub number : row.out ≡ s.number

source-is : (local : LocalSystem) (s : Source) → Contains (sources local) s → IsOutput local s ⊎ IsValue local s
source-is local s h =
    elim (Contains-append_cases (flat_map (child_sources local) (enumerate_from 0 local.children))
    (map (value_source local) (value_rows local)) s h) [
      | inl inner ↦
          let m = of-flat_map (child_sources local) (enumerate_from 0 local.children) s inner in
          let e = at-in (enumerate_from 0 local.children) m.0 m.1 in
          let child = at-enumerate 0 local.children e.0 m.0 e.1 in
          let o = of-map (output_source (child_field local m.0.0)) (enumerate_from 0 m.0.1.header.outputs) s m.2 in
          let place = at-in (enumerate_from 0 m.0.1.header.outputs) o.0 o.1 in
          let output = at-enumerate 0 m.0.1.header.outputs place.0 o.0 place.1 in
          inl (subst (IsOutput local) o.2 (record {
            place = m.0.0;
            child = m.0.1;
            output = o.0.0;
            is_child = subst (λ k. slice_get local.children k ≡ Some m.0.1)
                ((let same : e.0 ≡ 0 + e.0 = omega arith in same) ∙ child.0) child.1;
            is_output = subst (λ k. slice_get m.0.1.header.outputs k ≡ Some o.0.1)
                ((let same : place.0 ≡ 0 + place.0 = omega arith in same) ∙ output.0) output.1;
            leaf = refl;
          }))
      | inr own ↦
          let m = of-map (value_source local) (value_rows local) s own in
          let f = of-filter (λ (r : LocalRow). has_value r.kind) local.rows m.0 m.1 in
          inr (subst (IsValue local) m.2 (record { row = m.0; own = f.0; has = f.1; is_row = refl; leaf = refl; number = refl }))
    ]

-- the source that is found for a wire
pub record HasSource (local : LocalSystem) (c : ℕ) : Type 0 where
  pub source : Source
  pub found : source_of local c ≡ Some source
  pub is_row : source.row ≡ c
  pub among : Contains (sources local) source

pub has-source : (local : LocalSystem) (c : ℕ) → IsSourced local c → HasSource local c
has-source local c (s, among, is_row) =
    let number : Source → ℕ = λ (s : Source). s.row in
    let f = finds-first number 0 (sources local) s among in
    let there : slice_get (sources local) (0 + f.0) ≡ Some f.1 =
    (let same : 0 + f.0 ≡ f.0 = omega arith in ap (slice_get (sources local)) same) ∙ f.3 in
    record {
      source = f.1;
      found = ap (λ k. option_and_then (slice_get (sources local)) (position_from (λ key. key == k) 0 (map number (sources local))))
          (sym is_row)
          ∙ ap (option_and_then (slice_get (sources local))) f.2 ∙ there;
      is_row = f.4 ∙ is_row;
      among = in-at (sources local) f.0 f.1 f.3;
    }

-- ---- What it reads

module _ (local : LocalSystem) (schedule : SystemSchedule) (lawful : IsLocal local) (offers : List Offer)
    (children : List InstanceTick) (cycle : ℕ) (m : LocalTick) (params : List ParamTree) (scope : List ℤ → Scope) (values : List ℤ)
    (cells : Cells) where
  abbrev slots : List Slot
  slots = code_slots local schedule

  abbrev away : Relocation
  away = behind_offers slots offers (own_count schedule)

  abbrev Holds : ℕ → Type 0
  Holds = HoldsWire local slots offers children cycle m params scope cells

  abbrev pub read_there : Leaf → ℤ
  read_there l = leaf_reads values cells (moved_leaf away l)

  pub wire-reads : (c : ℕ) → IsSourced local c → Holds c → read_there (wire_leaf local c) ≡ m.tick.value c
  wire-reads c sourced holds =
      ap (λ o. read_there (option_map_or (λ (s : Source). s.leaf) o (Own 0))) has.found ∙ by (source-is local has.source has.among)
    where
      has : HasSource local c
      has = has-source local c sourced

      by : IsOutput local has.source ⊎ IsValue local has.source → read_there has.source.leaf ≡ m.tick.value c
      by (inl is) =
          let slot = instance-at local schedule lawful is.place is.child is.is_child in
          let f = child_field local is.place in
          ap read_there is.leaf
          ∙ ap (λ o. number_at (fields_at cells f) (option_map_or (place_in_child offers is.output) o 0)) slot
          ∙ holds.inner f is.place is.output is.child has.source.number slot
          (is.is_output ∙ ap (λ b. Some (b, has.source.number)) has.is_row)
      by (inr is) =
          let slot = value-at local schedule lawful is.row is.own is.has in
          ap read_there is.leaf ∙ holds.own (value_field local is.row.row) is.row slot (is.is_row ∙ has.is_row)

  pub wires-read : (wires : List ℕ) → ((c : ℕ) → Contains wires c → IsSourced local c) → AllByRecursion Holds wires →
      map read_there (map (wire_leaf local) wires) ≡ map m.tick.value wires
  wires-read [] sourced hold = refl
  wires-read (c ∷ wires) sourced hold =
      let first = wire-reads c (sourced c (in-first c wires)) hold.0 in
      let rest = wires-read wires (λ d h. sourced d (in-rest c d wires h)) hold.1 in
      λ i. first i ∷ rest i

-- ---- In which types that lies

module _ (local : LocalSystem) (m : LocalTick) (typed : IsTypedTick local m) where
  source-typed : (s : Source) → IsOutput local s ⊎ IsValue local s → InType s.number (m.tick.value s.row)
  source-typed s (inl is) =
      each-member (λ (o : ℕ × FixType). InType o.1 (m.tick.value o.0)) is.child.header.outputs (s.row, s.number)
      (each-member (λ (u : ChildUse). AllByRecursion
      (λ (o : ℕ × FixType). InType o.1 (m.tick.value o.0)) u.header.outputs) local.children is.child typed.outputs
      (in-at local.children is.place is.child is.is_child))
      (in-at is.child.header.outputs is.output (s.row, s.number) is.is_output)
  source-typed s (inr is) =
      subst (λ t. InType t (m.tick.value s.row)) is.number
      (subst (λ b. InType is.row.out (m.tick.value b)) is.is_row
      (each-kept (λ (r : LocalRow). InType r.out (m.tick.value r.row))
      (λ (r : LocalRow). has_value r.kind) local.rows is.row typed.values is.own is.has))

  known-at : (found : List (Option Source)) (i : ℕ) (t : FixType) → slice_get (known_types found) i ≡ Some t →
      (s : Source) × (slice_get found i ≡ Some (Some s)) × (s.number ≡ t)
  known-at [] i t at = absurd (none-some t at)
  known-at (None ∷ found) i t at = absurd (none-some t at)
  known-at (Some s ∷ found) zero t at = (s, refl, same_Some s.number t at)
  known-at (Some s ∷ found) (suc i) t at = known-at found i t at

  -- an input whose type is known lies in it
  pub inputs-typed : (wires : List ℕ) → ((c : ℕ) → Contains wires c → IsSourced local c) → (i : ℕ) (t : FixType) →
      slice_get (wire_types local wires) i ≡ Some t → InType t (input (map m.tick.value wires) i)
  inputs-typed wires sourced i t at =
      let k = known-at (map (source_of local) wires) i t at in
      let c = map-at (source_of local) wires i (Some k.0) k.1 in
      let has = has-source local c.0 (sourced c.0 (in-at wires i c.0 c.1)) in
      let same : has.source ≡ k.0 = same_Some has.source k.0 (sym has.found ∙ c.2) in
      let there = source-typed has.source (source-is local has.source has.among) in
      let value_is : input (map m.tick.value wires) i ≡ m.tick.value c.0 =
      index-or-at (map m.tick.value wires) i (pos 0) (m.tick.value c.0) (at-map m.tick.value wires i c.0 c.1) in
      subst (InType t) (sym value_is)
      (subst (λ b. InType t (m.tick.value b)) has.is_row
      (subst (λ number. InType number (m.tick.value has.source.row)) (ap (λ (s : Source). s.number) same ∙ k.2) there))
