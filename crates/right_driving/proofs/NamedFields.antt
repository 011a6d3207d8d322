-- Fields of a struct, by what they are declared as.
use Rattle.std.specs.Prelude.{◌≡◌, ℕ, List, [], ◌∷◌, ◌++◌, slice_get, Contains, Option, Some, option_and_then, unwrap_or, refl}
use Rattle.std.proofs.Common.{sym, ap, ap₂, ◌∙◌}
use Rattle.modules_profile.specs.Systems.{system_name}
use Rattle.modules_profile.proofs.lemmas.Members.{of-map, at-in}
use Rattle.c_syntax.specs.declared.CType.{CType}
use Rattle.c_syntax.specs.declared.FieldKind.{FieldKind}
use Rattle.c_syntax.specs.declared.FieldKind.TheVariants.{Number, Array, Struct}
use Rattle.c_syntax.specs.Tree.{FieldTree, struct_fields, ProgramTree}
use Rattle.c_syntax.specs.Lawful.{IsLawful}
use Rattle.c_syntax.specs.RootFields.{field_position}
use Rattle.c_interpreter.specs.Instances.{StructInstance, field_named, field_child, child_named}
use Rattle.emit_shape.specs.CodeNames.{CodeNames, NamedField, named_kind, named_fields}
use Rattle.c_syntax.specs.Kinds.{number_kind, struct_kind}
use Rattle.emit_shape.specs.Programs.{names_in, struct_place}
use Rattle.tool_driver.specs.Drivable.{HasNumberField}
use Rattle.right_driving.proofs.Lists.{name-place}
use Rattle.right_driving.proofs.Structs.{system-some, struct-found, fields-differ}

-- ---- Kinds

is-number : (n : CodeNames) (kind : FieldKind) (type : CType) → named_kind n kind ≡ number_kind type → (of : CType) × (kind ≡ Number of)
is-number n (Number of) type is = (of, refl)
is-number n (Array of count) type is = absurd (let wrong : ⊥ = cc is in wrong)
is-number n (Struct k) type is = absurd (let wrong : ⊥ = cc is in wrong)

is-struct : (n : CodeNames) (kind : FieldKind) (name : List ℕ) → named_kind n kind ≡ struct_kind name →
    (k : ℕ) × (kind ≡ Struct k) × (n.struct k ≡ name)
is-struct n (Number of) name is = absurd (let wrong : ⊥ = cc is in wrong)
is-struct n (Array of count) name is = absurd (let wrong : ⊥ = cc is in wrong)
is-struct n (Struct k) name is = (k, refl, cc is)

module _ (p : ProgramTree) (of : ℕ) (lawful : IsLawful p) where
  abbrev fields : List FieldTree
  fields = struct_fields p.structs of

  abbrev pub declared_fields : List NamedField
  declared_fields = named_fields (names_in p of) fields

  -- a field of this name is declared so
  record Stands (wanted : NamedField) : Type 0 where
    pub place : ℕ
    pub field : FieldTree
    pub there : slice_get fields place ≡ Some field
    pub named : field_named fields wanted.name ≡ Some place
    pub kind : named_kind (names_in p of) field.kind ≡ wanted.kind

  stands : (wanted : NamedField) → Contains declared_fields wanted → Stands wanted
  stands wanted has =
      let declared : FieldTree → NamedField = λ (f : FieldTree). record { name = f.name; kind = named_kind (names_in p of) f.kind } in
      let made = of-map declared fields wanted has in
      let at = at-in fields made.0 made.1 in
      record {
        place = at.0;
        field = made.0;
        there = at.1;
        named = name-place (λ (f : FieldTree). f.name) fields at.0 made.0 wanted.name (fields-differ p of lawful) at.1
            (ap (λ (z : NamedField). z.name) made.2);
        kind = ap (λ (z : NamedField). z.kind) made.2;
      }

  -- ---- Numbers

  pub number-field : (name : List ℕ) (type : CType) → Contains declared_fields (record { name = name; kind = number_kind type }) →
      HasNumberField p of name
  number-field name type has =
      let s = stands (record { name = name; kind = number_kind type }) has in
      let n = is-number (names_in p of) s.field.kind type s.kind in
      record { position = s.place; named = s.named; field = s.field; there = s.there; type = n.0; is_number = n.1 }

  -- ---- Instances

  -- the field of a system leads to the instance of its struct
  pub child-field : (s : Option ℕ) (path : List ℕ) →
      Contains declared_fields (record { name = system_name s; kind = struct_kind (system_name s) }) →
      child_named p (system_name s) (record { path = path; struct = of })
      ≡ Some (record { path = path ++ field_position fields (system_name s) ∷ []; struct = struct_place p s })
  child-field s path has =
      let f = stands (record { name = system_name s; kind = struct_kind (system_name s) }) has in
      let n = is-struct (names_in p of) f.field.kind (system_name s) f.kind in
      let here : StructInstance = record { path = path; struct = of } in
      let place : f.place ≡ field_position fields (system_name s) = sym (ap (λ o. unwrap_or o 0) f.named) in
      let struct_is : n.0 ≡ struct_place p s =
      sym (ap (λ o. unwrap_or o 0) (struct-found p n.0 (system_name s) lawful (system-some s) n.2)) in
      ap (option_and_then (λ k. option_and_then (λ x. field_child here k x.kind) (slice_get fields k))) f.named
      ∙ ap (option_and_then (λ x. field_child here f.place x.kind)) f.there ∙ ap (field_child here f.place) n.1
      ∙ ap₂ (λ (k j : ℕ). Some (record { path = path ++ k ∷ []; struct = j })) place struct_is
