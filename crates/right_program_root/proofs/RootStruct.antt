-- The fields of the root's struct: the number of the tick, the outputs by port, and `top`.
use Rattle.std.specs.Prelude.{◌≡◌, ℕ, zero, suc, ◌+◌, ◌<◌, ◌≤◌, ◌-◌, Bool, List, [], ◌∷◌, ◌++◌, map, filter, length, slice_get, Contains, Some, None, unwrap_or, bytes_eq, codes as text, refl}
use Rattle.std.specs.List.{range_with_len, prefix_len}
use Rattle.std.proofs.Common.{sym, ap, ap₂, ◌∙◌, arith}
use Rattle.std.proofs.lemmas.List.{length-append}
use Rattle.std.proofs.lemmas.List.FromFn.{length-map-range_with_len}
use Rattle.std.proofs.lemmas.Option.{get_or_from_slice_get}
use Rattle.diagram_blocks.specs.Kinds.{port_of}
use Rattle.modules_profile.specs.declared.LocalRow.{LocalRow}
use Rattle.modules_profile.specs.Systems.{system_name}
use Rattle.modules_profile.proofs.lemmas.Members.{in-rest, of-map, of-range, in-range, in-map, at-left, at-map}
use Rattle.c_syntax.specs.declared.CType.TheVariants.{I32, I64}
use Rattle.c_syntax.specs.declared.FieldKind.TheVariants.{Number, Struct}
use Rattle.c_syntax.specs.Outputs.{has_name, numbers_from, output_count, output_name}
use Rattle.c_syntax.specs.RootFields.{is_number, number_names, field_position, output_fields}
use Rattle.c_syntax.specs.Tree.{FieldTree, field_types, kind_type, type_at}
use Rattle.emit_shape.specs.Names.{container, now_name}
use Rattle.right_program_root.proofs.NumberedNames.{TellsApart, front-tells, bytes-same, bytes-apart, any-of, none-of, prefix-exact, numbers-range, position-by-number, position-behind}
use Rattle.right_program_root.proofs.PortedRows.{map-map, mapped-length}

abbrev pub now_field : FieldTree
now_field = record { name = now_name; kind = Number I32 }

abbrev pub out_field : LocalRow → FieldTree
out_field o = record { name = output_name (port_of o.kind); kind = Number (container o.out) }

abbrev pub top_field : ℕ → FieldTree
top_field k = record { name = system_name None; kind = Struct k }

outputs-tell : TellsApart output_name
outputs-tell = front-tells (text "y")

same-again : (g : List ℕ → ℕ) (f : ℕ → List ℕ) (a n : ℕ) → ((k : ℕ) → a ≤ k → k < a + n → g (f k) ≡ k) →
    map g (map f (range_with_len a n)) ≡ range_with_len a n
same-again g f a zero each = refl
same-again g f a (suc n) each =
    ap₂ (λ k ks. k ∷ ks) (each a (omega arith) (omega arith))
    (same-again g f (a + 1) n (λ k low high. each k (omega (arith, low)) (omega (arith, high))))

module _ (os : List LocalRow) (k : ℕ) (ports : map (λ (o : LocalRow). port_of o.kind) os ≡ range_with_len 1 (length os))
    (few : length os ≤ 32) where
  abbrev pub fields : List FieldTree
  fields = now_field ∷ map out_field os ++ top_field k ∷ []

  out-names : map (λ (f : FieldTree). f.name) (map out_field os) ≡ map output_name (range_with_len 1 (length (map out_field os)))
  out-names =
      map-map (λ (f : FieldTree). f.name) out_field os ∙ sym (map-map output_name (λ (o : LocalRow). port_of o.kind) os)
      ∙ ap (map output_name) ports ∙ ap (λ n. map output_name (range_with_len 1 n)) (sym (mapped-length out_field os))

  pub count-fields : length fields ≡ length os + 2
  count-fields = let long = length-append (map out_field os) (top_field k ∷ []) in let same = mapped-length out_field os in
      omega (arith, long, same)

  pub now-at : field_position fields now_name ≡ 0
  now-at = refl

  pub top-at : field_position fields (system_name None) ≡ length os + 1
  top-at =
      ap (λ o. unwrap_or o 0) (position-behind (λ (f : FieldTree). bytes_eq f.name (system_name None)) (map out_field os)
      (top_field k ∷ []) 1
      (λ f has.
      let made = of-map out_field os f has in
      ap (λ (z : FieldTree). bytes_eq z.name (system_name None)) (sym made.2)))
      ∙ (let same = mapped-length out_field os in let sum : 1 + length (map out_field os) ≡ length os + 1 = omega (arith, same) in sum)

  pub output-at : (j : ℕ) → j < length os → field_position fields (output_name (1 + j)) ≡ 1 + j
  output-at j below =
      let same = mapped-length out_field os in
      ap (λ o. unwrap_or o 0) (position-by-number (λ (f : FieldTree). f.name) output_name outputs-tell (map out_field os)
      (top_field k ∷ []) 1 1 j out-names (omega (arith, few, same)) (omega (arith, below, same)))

  names-are : number_names fields ≡ now_name ∷ map output_name (range_with_len 1 (length os))
  names-are = ap (λ names. now_name ∷ names)
      (numbers os ∙ sym (map-map output_name (λ (o : LocalRow). port_of o.kind) os) ∙ ap (map output_name) ports)
    where
      numbers : (rs : List LocalRow) → map (λ (f : FieldTree). f.name) (filter is_number (map out_field rs ++ top_field k ∷ [])) ≡ map
          (λ (o : LocalRow). output_name (port_of o.kind)) rs
      numbers [] = refl
      numbers (r ∷ rs) = ap (λ names. output_name (port_of r.kind) ∷ names) (numbers rs)

  counted : output_count (number_names fields) ≡ length os
  counted =
      ap output_count names-are ∙ ap (prefix_len passes) (numbers-range 1 (length names))
      ∙ prefix-exact passes 1 (length os) (length names) (let long = length-map-range_with_len output_name 1 (length os) in
      omega (arith, long))
      (λ j low high.
      any-of (bytes_eq (output_name j)) names (output_name j) (in-later j low high) (bytes-same (output_name j) (output_name j) refl))
      (none-of (bytes_eq (output_name (1 + length os))) (map output_name (range_with_len 1 (length os)))
      (λ name has.
      let made = of-map output_name (range_with_len 1 (length os)) name has in
      let within = of-range 1 (length os) made.0 made.1 in
      ap (bytes_eq (output_name (1 + length os))) (sym made.2)
      ∙ bytes-apart (output_name (1 + length os)) (output_name made.0)
      (λ same. let one = outputs-tell (1 + length os) made.0 (omega (arith, few)) (omega (arith, within.1, few)) same in
      omega (arith, within.1, one))))
    where
      names : List (List ℕ)
      names = now_name ∷ map output_name (range_with_len 1 (length os))

      passes : ℕ → Bool
      passes j = has_name names (output_name j)

      in-later : (j : ℕ) → 1 ≤ j → j < 1 + length os → Contains names (output_name j)
      in-later j low high = in-rest now_name (output_name j) (map output_name (range_with_len 1 (length os)))
          (in-map output_name (range_with_len 1 (length os)) j (in-range 1 (length os) j low high))

  pub outputs-are : output_fields fields ≡ range_with_len 1 (length os)
  outputs-are =
      ap (λ n. map (field_position fields) (map output_name (numbers_from 1 n))) counted
      ∙ ap (λ ns. map (field_position fields) (map output_name ns)) (numbers-range 1 (length os))
      ∙ same-again (field_position fields) output_name 1 (length os)
      (λ j low high.
      let at = output-at (j - 1) (omega (arith, low, high)) in
      let number : 1 + (j - 1) ≡ j = omega (arith, low) in
      ap (λ n. field_position fields (output_name n)) (sym number) ∙ at ∙ number)

  pub now-type : type_at (field_types fields) 0 ≡ I32
  now-type = refl

  pub output-type : (j : ℕ) (o : LocalRow) → slice_get os j ≡ Some o → type_at (field_types fields) (j + 1) ≡ container o.out
  output-type j o at =
      let next : j + 1 ≡ suc j = omega arith in
      ap (type_at (field_types fields)) next
      ∙ get_or_from_slice_get (map (λ (f : FieldTree). kind_type f.kind) (map out_field os ++ top_field k ∷ [])) j (container o.out) I64
      (at-map (λ (f : FieldTree). kind_type f.kind) (map out_field os ++ top_field k ∷ []) j (out_field o)
      (at-left (map out_field os) (top_field k ∷ []) j (out_field o) (at-map out_field os j o at)))
