-- The struct of a system and those of its children, as its code sees them, are lawful.
use Rattle.std.specs.Prelude.{◌≡◌, ℕ, ◌+◌, ◌<◌, Bool, true, false, cond, if◌then◌else◌, List, [], ◌∷◌, ◌++◌, map, flat_map, length, Contains, Option, Some, None, codes, bytes_eq}
use Rattle.std.specs.List.{AllByRecursion, enumerate_from}
use Rattle.std.proofs.Common.{refl, sym, ap, subst, ◌∙◌, arith, true≢false}
use Rattle.std.proofs.lemmas.Fmt.{decimal_injective}
use Rattle.base_fixed_point.specs.declared.types.FixType.{FixType}
use Rattle.diagram_blocks.specs.declared.Op.{Op}
use Rattle.diagram_blocks.specs.declared.Op.TheVariants.{Line}
use Rattle.diagram_meaning.specs.Rows.{is_triggered}
use Rattle.diagram_blocks.specs.Kinds.{is_delay}
use Rattle.modules_profile.specs.declared.local.ChildUse.{ChildUse}
use Rattle.modules_profile.specs.declared.local.LocalRow.{LocalRow}
use Rattle.modules_profile.specs.LocalSystem.{LocalSystem}
use Rattle.modules_profile.specs.SystemProfile.{SystemProfile}
use Rattle.modules_profile.specs.Systems.{system_name}
use Rattle.modules_profile.proofs.lemmas.Members.{in-first, in-rest, of-filter, at-below, of-enumerate}
use Rattle.modules_schedule.specs.SystemSchedule.{SystemSchedule}
use Rattle.c_syntax.specs.declared.FieldKind.TheVariants.{Number}
use Rattle.c_syntax.specs.Tree.{FieldTree}
use Rattle.c_syntax.specs.Lawful.{AreDistinct, IsLawfulKind, IsLawfulStruct, AreStructs}
use Rattle.emit_shape.specs.Delays.{is_line}
use Rattle.emit_shape.specs.Names.{container, value_name}
use Rattle.emit_shape.specs.Slots.{Slot, value, memory, trigger, instance, slot_field, ring_slots, own_slots, or_filler}
use Rattle.right_claim.specs.Alone.{or_filler_field, bare_struct, alone}
use Rattle.emit_system_spec.specs.EmittedCode.{system_code}
use Rattle.emit_system_spec.specs.Fields.{value_rows, single_rows, line_rows, shared_groups, counter_slot, code_slots}
use Rattle.right_system_rules.proofs.NameTexts.{later_bytes, letter-name}
use Rattle.right_system_rules.proofs.Lists.{each-mapped}
use Rattle.right_system_rules.proofs.Different.{all-append}
use Rattle.right_system_rules.proofs.DifferentNames.{distinct-map}
use Rattle.right_system_rules.proofs.StructNames.{fields-distinct}
use Rattle.right_system_rules.proofs.SystemFacts.{SystemFacts, ChildFacts}

-- no system is named as the root of a program
not-root : (s : Option ℕ) → bytes_eq (system_name s) (codes "root") ≡ false
not-root None = refl
not-root (Some e) = refl

-- ---- A child

module _ (local : LocalSystem) (u : ChildUse) (facts : ChildFacts local u) where
  abbrev field_of : ℕ × FixType → FieldTree
  field_of o = record { name = value_name o.0; kind = Number (container o.1) }

  output-names : (os : List (ℕ × FixType)) →
      map (λ (f : FieldTree). f.name) (map field_of os) ≡ map (λ (o : ℕ × FixType). value_name o.0) os
  output-names [] = refl
  output-names (o ∷ os) = ap (λ rest. value_name o.0 ∷ rest) (output-names os)

  filled-names : (fields : List FieldTree) → AreDistinct (map (λ (f : FieldTree). f.name) fields) →
      AreDistinct (map (λ (f : FieldTree). f.name) (or_filler_field fields))
  filled-names [] distinct = (refl, refl, tt)
  filled-names (f ∷ fields) distinct = distinct

  filled-some : (fields : List FieldTree) → 0 < length (or_filler_field fields)
  filled-some [] = omega arith
  filled-some (f ∷ fields) = omega arith

  numbers : (count : ℕ) (os : List (ℕ × FixType)) → AllByRecursion (λ (f : FieldTree). IsLawfulKind count f.kind) (map field_of os)
  numbers count [] = tt
  numbers count (o ∷ os) = (tt, numbers count os)

  filled-kinds : (count : ℕ) (fields : List FieldTree) → AllByRecursion (λ (f : FieldTree). IsLawfulKind count f.kind) fields →
      AllByRecursion (λ (f : FieldTree). IsLawfulKind count f.kind) (or_filler_field fields)
  filled-kinds count [] all = (tt, tt)
  filled-kinds count (f ∷ fields) all = all

  bare-lawful : (count : ℕ) → IsLawfulStruct count (bare_struct u)
  bare-lawful count =
      let outputs = u.header.outputs in record {
        fields = filled-names (map field_of outputs) (subst AreDistinct (sym (output-names outputs))
            (distinct-map (λ (o : ℕ × FixType). o.0) (λ (o : ℕ × FixType). value_name o.0) outputs (λ o h. letter-name 118 o.0 refl)
            (λ o p h k same.
            let small = facts.outputs o h in
            let few = facts.outputs p k in
            decimal_injective o.0 p.0 (omega (arith, small)) (omega (arith, few)) (ap later_bytes same)) facts.outputs_apart));
        some = filled-some (map field_of outputs);
        kinds = filled-kinds count (map field_of outputs) (numbers count outputs);
        outputs = λ root. absurd (true≢false (sym root ∙ not-root u.header.row));
      }

-- ---- The system

pub line-delays : (op : Op) → is_line op ≡ true → is_delay op ≡ true
line-delays (Line samples start) is = refl
line-delays _ is = absurd (true≢false (sym is))

module _ (local : LocalSystem) (profile : SystemProfile) (schedule : SystemSchedule) (facts : SystemFacts local profile schedule) where
  abbrev IsKind : Slot → Type 0
  IsKind s = IsLawfulKind (length local.children) (slot_field s).kind

  ring-kinds : (rows : List LocalRow) → ((r : LocalRow) → Contains rows r → Contains (line_rows local) r) →
      AllByRecursion IsKind (flat_map ring_slots rows)
  ring-kinds [] inside = tt
  ring-kinds (r ∷ rows) inside =
      let line = of-filter (λ (q : LocalRow). is_line q.op) local.rows r (inside r (in-first r rows)) in
      ((facts.rows r line.0).samples (line-delays r.op line.1), (tt, (tt, ring-kinds rows (λ q h. inside q (in-rest r q rows h)))))

  trigger-kinds : (t : Bool) → AllByRecursion IsKind (cond t (trigger ∷ []) [])
  trigger-kinds true = (tt, tt)
  trigger-kinds false = tt

  child-kinds : AllByRecursion IsKind (map (λ (e : ℕ × ChildUse). instance e.0 e.1) (enumerate_from 0 local.children))
  child-kinds =
      each-mapped IsKind (λ (e : ℕ × ChildUse). instance e.0 e.1) (enumerate_from 0 local.children)
      (λ e h. let m = of-enumerate 0 local.children e h in
      let below = at-below local.children m.0 e.1 m.2 in
      let place = m.1 in
      omega (arith, below, place))

  own-kinds : AllByRecursion IsKind (own_slots local ++ map counter_slot (shared_groups schedule))
  own-kinds =
      let values = map value (value_rows local) in
      let singles = map memory (single_rows local) in
      let rings = flat_map ring_slots (line_rows local) in
      let triggers = if is_triggered local.control then trigger ∷ [] else [] in
      let instances = map (λ (e : ℕ × ChildUse). instance e.0 e.1) (enumerate_from 0 local.children) in
      all-append IsKind (own_slots local) (map counter_slot (shared_groups schedule))
      (all-append IsKind (values ++ singles ++ rings ++ triggers) instances
      (all-append IsKind (values ++ singles ++ rings) triggers
      (all-append IsKind (values ++ singles) rings
      (all-append IsKind values singles (each-mapped IsKind value (value_rows local) (λ r h. tt))
      (each-mapped IsKind memory (single_rows local) (λ r h. tt)))
      (ring-kinds (line_rows local) (λ r h. h)))
      (trigger-kinds (is_triggered local.control)))
      child-kinds)
      (each-mapped IsKind counter_slot (shared_groups schedule) (λ g h. tt))

  filled-slots : (slots : List Slot) → AllByRecursion IsKind slots → AllByRecursion IsKind (or_filler slots)
  filled-slots [] all = (tt, tt)
  filled-slots (s ∷ slots) all = all

  some-slot : (slots : List Slot) → 0 < length (map slot_field (or_filler slots))
  some-slot [] = omega arith
  some-slot (s ∷ slots) = omega arith

  field-kinds : (slots : List Slot) → AllByRecursion IsKind slots →
      AllByRecursion (λ (f : FieldTree). IsLawfulKind (length local.children) f.kind) (map slot_field slots)
  field-kinds [] all = tt
  field-kinds (s ∷ slots) all = (all.0, field-kinds slots all.1)

  own-lawful : (count : ℕ) → count ≡ length local.children → IsLawfulStruct count (system_code local profile schedule).structure
  own-lawful count same = record {
    fields = fields-distinct local profile schedule facts;
    some = some-slot (own_slots local ++ map counter_slot (shared_groups schedule));
    kinds = subst (λ n. AllByRecursion (λ (f : FieldTree). IsLawfulKind n f.kind) (map slot_field (code_slots local schedule))) (sym same)
        (field-kinds (code_slots local schedule) (filled-slots (own_slots local ++ map counter_slot (shared_groups schedule)) own-kinds));
    outputs = λ root. absurd (true≢false (sym root ∙ not-root local.row));
  }

  structs-from : (count : ℕ) (us : List ChildUse) → ((u : ChildUse) → Contains us u → ChildFacts local u) →
      count + length us ≡ length local.children →
      AreStructs count (map bare_struct us ++ (system_code local profile schedule).structure ∷ [])
  structs-from count [] are many = (own-lawful count (let same : count ≡ length local.children = omega (arith, many) in same), tt)
  structs-from count (u ∷ us) are many = (
    bare-lawful local u (are u (in-first u us)) count,
    structs-from (count + 1) us (λ v h. are v (in-rest u v us h))
        (omega (arith, many)),
  )

  pub structs_are_lawful : AreStructs 0 (alone local (system_code local profile schedule) []).structs
  structs_are_lawful = structs-from 0 local.children facts.children (omega arith)
