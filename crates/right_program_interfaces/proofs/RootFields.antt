-- The fields of the root's struct in the program, by name.
use Rattle.std.specs.Prelude.{◌≡◌, ℕ, suc, ◌+◌, List, [], ◌∷◌, ◌++◌, map, length, slice_get, slice_index_or, IsPermutation, Some, None, refl}
use Rattle.std.specs.List.{enumerate_from}
use Rattle.std.specs.Option.{option_map_or}
use Rattle.std.proofs.Common.{sym, ap, ap₂, subst, ◌∙◌, arith}
use Rattle.std.proofs.lemmas.Option.{get_or_from_slice_get}
use Rattle.diagram_meaning.specs.Rows.{row_at, inports_of, outports_of}
use Rattle.diagram_blocks.specs.Kinds.{port_of, is_inport, is_outport}
use Rattle.diagram_meaning.specs.Diagram.{type_at}
use Rattle.modules_profile.specs.declared.LocalRow.{LocalRow}
use Rattle.modules_profile.specs.Locals.{local_row, inports, outports}
use Rattle.modules_profile.specs.Systems.{system_name}
use Rattle.modules_profile.proofs.lemmas.Members.{at-left, at-right, at-map}
use Rattle.modules_profile.proofs.lemmas.OwnRows.{by_port_mapped}
use Rattle.c_syntax.specs.declared.CType.TheVariants.{I32}
use Rattle.c_syntax.specs.declared.FieldKind.{FieldKind}
use Rattle.c_syntax.specs.declared.FieldKind.TheVariants.{Number, Struct}
use Rattle.c_syntax.specs.RootFields.{root_struct}
use Rattle.c_syntax.specs.Tree.{FieldTree, StructTree, no_struct, struct_fields}
use Rattle.emit_shape.specs.CodeNames.{NamedField, named_kind, named_fields}
use Rattle.c_syntax.specs.Kinds.{number_kind, struct_kind}
use Rattle.emit_shape.specs.LocalShape.{slot_name}
use Rattle.emit_shape.specs.Names.{container, now_name, value_name}
use Rattle.c_syntax.specs.Outputs.{output_name}
use Rattle.emit_shape.specs.Programs.{struct_at, no_field, kind_fields, field_in, names_in}
use Rattle.emit_shape.specs.RootCode.{root_fields_of}
use Rattle.emit_shape.specs.Slots.{value}
use Rattle.emit_shape.specs.SystemTree.{SystemTree}
use Rattle.emit_shape.specs.Assembled.{code_at, struct_position, moved_struct, root_structure}
use Rattle.right_linking.specs.Parts.{Parts, program_of, diagram, Views}
use Rattle.right_linking.specs.Places.{SystemsHavePlaces, RootHasPlaces}
use Rattle.right_linking.proofs.lemmas.AssembledNames.{struct-name}
use Rattle.right_linking.proofs.lemmas.AssembledPlaces.{down, length-down, mapped-length, code-is, structs-down}
use Rattle.right_program_interfaces.proofs.Lists.{map-map}
use Rattle.right_program_interfaces.proofs.PortedRows.{port-at}
use Rattle.right_program_interfaces.proofs.StandingCode.{struct-here, own-same}

module _ (places : SystemsHavePlaces) (root_places : RootHasPlaces) (a : Parts) (v : Views a) where
  -- the root's ports, and each by what its code is made from
  abbrev pub bs : List ℕ
  bs = outports_of (diagram a).rows None

  abbrev pub is : List ℕ
  is = inports_of (diagram a).rows None

  abbrev pub made_row : ℕ → LocalRow
  made_row = local_row (diagram a) a.model.times.delays

  abbrev pub size : ℕ
  size = length (outports a.root)

  pub outs-are : outports a.root ≡ map made_row bs
  outs-are = ap outports a.can.is_root ∙ by_port_mapped (diagram a) a.model.times.delays None a.can.root_view.headers is_outport

  pub ins-are : inports a.root ≡ map made_row is
  ins-are = ap inports a.can.is_root ∙ by_port_mapped (diagram a) a.model.times.delays None a.can.root_view.headers is_inport

  pub top-outs : outports (v.at None).local ≡ map made_row bs
  top-outs =
      let known = (v.each 0 None refl).local in
      ap outports known.is_local ∙ by_port_mapped (diagram a) a.model.times.delays None known.headers is_outport

  size-is : size ≡ length bs
  size-is = ap length outs-are ∙ mapped-length made_row bs

  pub out-port : (k b : ℕ) → slice_get bs k ≡ Some b → port_of (row_at (diagram a).rows b).kind ≡ k + 1
  out-port = port-at (diagram a).rows None is_outport (a.can.resolved.tree.table.outports None)

  pub in-port : (k b : ℕ) → slice_get is k ≡ Some b → port_of (row_at (diagram a).rows b).kind ≡ k + 1
  in-port = port-at (diagram a).rows None is_inport (a.can.resolved.tree.table.inports None)

  -- ---- The struct

  abbrev moved_at : ℕ → StructTree
  moved_at i = moved_struct a.codes (code_at a.codes i)

  abbrev root_tree : StructTree
  root_tree = root_structure a.codes a.root a.hyper

  pub root-here : struct_at (program_of a) (length a.codes) ≡ root_tree
  root-here =
      let long : length a.codes ≡ length (map moved_at (down (length a.codes))) + 0 = omega
      (arith, mapped-length moved_at (down (length a.codes)), length-down (length a.codes)) in
      ap (struct_at (program_of a)) long
      ∙ ap (λ (ss : List StructTree). slice_index_or ss (length (map moved_at (down (length a.codes))) + 0) no_struct) (structs-down a)
      ∙ get_or_from_slice_get (map moved_at (down (length a.codes)) ++ root_tree ∷ []) (length (map moved_at (down (length a.codes))) + 0)
      root_tree no_struct
      (at-right (map moved_at (down (length a.codes))) (root_tree ∷ []) 0 root_tree refl)

  abbrev now_field : FieldTree
  now_field = record { name = now_name; kind = Number I32 }

  abbrev out_field : ℕ → FieldTree
  out_field b = record {
    name = output_name (port_of (row_at (diagram a).rows b).kind);
    kind = Number
        (container (type_at (diagram a).types b));
  }

  abbrev top_field : FieldTree
  top_field = record { name = system_name None; kind = Struct (struct_position a.codes 0) }

  abbrev field_of : LocalRow → FieldTree
  field_of o = record { name = output_name (port_of o.kind); kind = Number (container o.out) }

  fields-are : root_tree.fields ≡ now_field ∷ (map out_field bs ++ (top_field ∷ []))
  fields-are = ap (λ rs. now_field ∷ (map field_of rs ++ (top_field ∷ []))) outs-are ∙ ap (λ fs. now_field ∷ (fs ++ (top_field ∷ [])))
      (map-map field_of made_row bs)

  fields-here : struct_fields (program_of a).structs (length a.codes) ≡ now_field ∷ (map out_field bs ++ (top_field ∷ []))
  fields-here = ap (λ (st : StructTree). st.fields) root-here ∙ fields-are

  -- ---- Fields by place

  pub own-now : (field_in (program_of a) (length a.codes) 0).name ≡ now_name
  own-now = ap (λ (fs : List FieldTree). (slice_index_or fs 0 no_field).name) fields-here

  pub own-out : (k b : ℕ) → slice_get bs k ≡ Some b → (field_in (program_of a) (length a.codes) (k + 1)).name ≡ output_name (k + 1)
  own-out k b at =
      let next : k + 1 ≡ suc k = omega arith in
      ap (λ (fs : List FieldTree). (slice_index_or fs (k + 1) no_field).name) fields-here
      ∙ ap (λ n. (slice_index_or (now_field ∷ (map out_field bs ++ (top_field ∷ []))) n no_field).name) next
      ∙ ap (λ (f : FieldTree). f.name) (get_or_from_slice_get (map out_field bs ++ (top_field ∷ [])) k (out_field b) no_field
      (at-left (map out_field bs) (top_field ∷ []) k (out_field b) (at-map out_field bs k b at)))
      ∙ ap output_name (out-port k b at)

  top-here : field_in (program_of a) (length a.codes) (size + 1) ≡ top_field
  top-here =
      let place : size + 1 ≡ suc (length (map out_field bs) + 0) = omega (arith, size-is, mapped-length out_field bs) in
      ap (λ (fs : List FieldTree). slice_index_or fs (size + 1) no_field) fields-here
      ∙ ap (λ n. slice_index_or (now_field ∷ (map out_field bs ++ (top_field ∷ []))) n no_field) place
      ∙ get_or_from_slice_get (map out_field bs ++ (top_field ∷ [])) (length (map out_field bs) + 0) top_field no_field
      (at-right (map out_field bs) (top_field ∷ []) 0 top_field refl)

  pub own-top : (field_in (program_of a) (length a.codes) (size + 1)).name ≡ system_name None
  own-top = ap (λ (f : FieldTree). f.name) top-here

  -- what is read of `top` is an output's value
  pub value-top : (k b : ℕ) → slice_get (v.at None).slots k ≡ Some (value (made_row b)) →
      (names_in (program_of a) (length a.codes)).inner (size + 1) k ≡ value_name b
  value-top k b at =
      ap (λ (z : FieldKind). (slice_index_or (kind_fields (program_of a) z) k no_field).name)
      (ap (λ (f : FieldTree). f.kind) top-here ∙ ap Struct (sym (places a v 0 None refl).struct))
      ∙ own-same places a v 0 None refl k ∙ ap (λ z. option_map_or slot_name z []) at

  -- ---- All fields

  top-named : (struct_at (program_of a) (struct_position a.codes 0)).name ≡ system_name None
  top-named =
      ap (λ k. (struct_at (program_of a) k).name) (sym (places a v 0 None refl).struct)
      ∙ ap (λ (st : StructTree). st.name) (struct-here places a v 0 None refl)
      ∙ ap (λ (z : SystemTree). z.structure.name) (sym (code-is a 0 None (v.at None) (v.each 0 None refl)))
      ∙ struct-name a 0 None (v.at None) (v.each 0 None refl)

  abbrev named_at : FieldTree → NamedField
  named_at f = record { name = f.name; kind = named_kind (names_in (program_of a) (length a.codes)) f.kind }

  abbrev output_field : ℕ × ℕ → NamedField
  output_field e = record { name = output_name e.0; kind = number_kind (container (type_at (diagram a).types e.1)) }

  outs-named : (n : ℕ) (cs : List ℕ) → ((k b : ℕ) → slice_get cs k ≡ Some b → port_of (row_at (diagram a).rows b).kind ≡ n + k) →
      map output_field (enumerate_from n cs) ++ (record { name = system_name None; kind = struct_kind (system_name None) } ∷ [])
      ≡ map named_at (map out_field cs ++ (top_field ∷ []))
  outs-named n [] ports = ap (λ name. record { name = system_name None; kind = struct_kind name } ∷ []) (sym top-named)
  outs-named n (c ∷ cs) ports =
      let none_more : n + 0 ≡ n = omega arith in
      ap₂ (λ x xs. x ∷ xs)
      (ap (λ k. record { name = output_name k; kind = number_kind (container (type_at (diagram a).types c)) })
      (sym (ports 0 c refl ∙ none_more)))
      (outs-named (n + 1) cs (λ k b at. ports (suc k) b at ∙ (let next : n + suc k ≡ n + 1 + k = omega arith in next)))

  root-at : root_struct (program_of a) ≡ length a.codes
  root-at = (root_places a).struct

  pub root-fields : IsPermutation (root_fields_of (diagram a)) (named_fields (names_in (program_of a) (root_struct (program_of a)))
      (struct_at (program_of a) (root_struct (program_of a))).fields)
  root-fields =
      subst (λ k. IsPermutation (root_fields_of (diagram a))
      (named_fields (names_in (program_of a) k) (struct_at (program_of a) k).fields)) (sym root-at)
      (record {
        moves = [];
        below = tt;
        is = ap (λ (fs : List FieldTree). named_fields (names_in (program_of a) (length a.codes)) fs) fields-here
            ∙ ap (λ fs. record { name = now_name; kind = number_kind I32 } ∷ fs)
            (sym (outs-named 1 bs (λ k b at. out-port k b at ∙ (let turned : k + 1 ≡ 1 + k = omega arith in turned))));
      })
