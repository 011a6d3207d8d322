-- The struct of the root is lawful: the tick, the outputs from 1 on, and the instance of `top`.
use Rattle.std.specs.Prelude.{◌≡◌, ℕ, zero, suc, ◌+◌, ◌<◌, ◌≤◌, Bool, true, not, cond, List, [], ◌∷◌, ◌++◌, map, filter, length, slice_get, Contains, Some, None, bytes_eq}
use Rattle.std.specs.List.{AllByRecursion, prefix_len, range_with_len}
use Rattle.std.proofs.Common.{refl, sym, ap, subst, ◌∙◌, arith, inl, inr}
use Rattle.std.proofs.lemmas.Bool.{or_left, or_right, cases_lt}
use Rattle.std.proofs.lemmas.List.{map-append}
use Rattle.std.proofs.lemmas.List.Elements.{Contains-append_cases}
use Rattle.std.proofs.lemmas.List.FromFn.{length-range_with_len}
use Rattle.std.proofs.lemmas.Option.{get_or_from_slice_get}
use Rattle.diagram_blocks.specs.Kinds.{is_outport, port_of}
use Rattle.modules_profile.specs.declared.LocalRow.{LocalRow}
use Rattle.modules_profile.specs.Locals.{outports}
use Rattle.modules_profile.specs.Systems.{system_name}
use Rattle.modules_profile.proofs.lemmas.Members.{in-none, in-first, in-rest, in-cases, in-map, of-map, of-range, in-range, at-left, at-right, at-map}
use Rattle.c_syntax.specs.declared.CType.TheVariants.{I32}
use Rattle.c_syntax.specs.declared.FieldKind.TheVariants.{Number, Struct}
use Rattle.c_syntax.specs.Tree.{FieldTree, StructTree, no_struct, struct_fields}
use Rattle.c_syntax.specs.Outputs.{has_name, numbers_from, output_count, output_names, may_be_named, looks_like_output, output_name}
use Rattle.c_syntax.specs.RootFields.{is_number, number_names}
use Rattle.c_syntax.specs.Lawful.{AreDistinct, IsNumberAt, IsStructAt, IsLawfulKind, IsLawfulStruct}
use Rattle.emit_shape.specs.Names.{container, now_name}
use Rattle.emit_shape.specs.Assembled.{code_at, struct_position, moved_struct, root_structure}
use Rattle.right_linking.specs.Parts.{Parts, program_of, Views}
use Rattle.right_linking.proofs.lemmas.AssembledNames.{bytes-same}
use Rattle.right_linking.proofs.lemmas.AssembledPlaces.{down, length-down, mapped-length, all-made, below-codes, structs-down}
use Rattle.right_program_rules.proofs.Lists.{all-append, none-has, distinct-append}
use Rattle.right_program_rules.proofs.Ports.{row_port, root-few, root-ports, numbers-differ}

abbrev bytes_first : List ℕ → ℕ
bytes_first [] = 0
bytes_first (b ∷ bs) = b

-- ---- Names that are there

pub in-has : (names : List (List ℕ)) (name : List ℕ) → Contains names name → has_name names name ≡ true
in-has [] name has = absurd (in-none name has)
in-has (other ∷ names) name has = elim (in-cases other name names has) [
  | inl same ↦ or_left (bytes_eq name other) (has_name names name) (bytes-same name other (sym same))
  | inr more ↦ or_right (bytes_eq name other) (has_name names name) (in-has names name more)
]

prefix-long : (p : ℕ → Bool) (first many count : ℕ) → ((k : ℕ) → first ≤ k → k < first + many → p k ≡ true) → many ≤ count →
    many ≤ prefix_len p (numbers_from first count)
prefix-long p first zero count passes few = omega arith
prefix-long p first (suc many) zero passes few = absurd (omega (arith, few))
prefix-long p first (suc many) (suc count) passes few =
    let here = passes first (omega arith) (omega arith) in
    let rest = prefix-long p (first + 1) many count (λ k low high. passes k (omega (arith, low)) (omega (arith, high)))
    (omega (arith, few)) in
    let is : prefix_len p (numbers_from first (suc count)) ≡ 1 + prefix_len p (numbers_from (first + 1) count) =
    ap (λ b. cond b (1 + prefix_len p (numbers_from (first + 1) count)) 0) here in
    omega (arith, is, rest)

in-numbers : (first count k : ℕ) → first ≤ k → k < first + count → Contains (numbers_from first count) k
in-numbers first zero k low high = absurd (omega (arith, low, high))
in-numbers first (suc count) k low high = elim (cases_lt first k) [
  | inl less ↦ in-rest first k (numbers_from (first + 1) count) (in-numbers (first + 1) count k (omega (arith, less)) (omega (arith, high)))
  | inr more ↦ let same : first ≡ k = omega (arith, low, more) in
      subst (Contains (first ∷ numbers_from (first + 1) count)) same (in-first first (numbers_from (first + 1) count))
]

-- ---- Its fields

abbrev pub output_field : LocalRow → FieldTree
output_field o = record { name = output_name (port_of o.kind); kind = Number (container o.out) }

abbrev pub now_field : FieldTree
now_field = record { name = now_name; kind = Number I32 }

module _ (a : Parts) (v : Views a) where
  abbrev pub outs : List LocalRow
  outs = outports a.root

  abbrev pub top_field : FieldTree
  top_field = record { name = system_name None; kind = Struct (struct_position a.codes 0) }

  abbrev pub fields : List FieldTree
  fields = now_field ∷ map output_field outs ++ top_field ∷ []

  abbrev field_name : FieldTree → List ℕ
  field_name f = f.name

  output-names : (rows : List LocalRow) → map field_name (map output_field rows) ≡ map output_name (map row_port rows)
  output-names [] = refl
  output-names (r ∷ rows) = ap (λ more. output_name (row_port r) ∷ more) (output-names rows)

  abbrev many : ℕ
  many = length outs

  outputs-are : map field_name (map output_field outs) ≡ map output_name (range_with_len 1 many)
  outputs-are = output-names outs ∙ ap (map output_name) (root-ports a v is_outport (a.can.resolved.tree.table.outports None))

  few : many ≤ 32
  few = root-few a v is_outport (a.can.resolved.tree.table.outports None)

  names-are : map field_name fields ≡ now_name ∷ (map output_name (range_with_len 1 many) ++ system_name None ∷ [])
  names-are = ap (λ more. now_name ∷ more)
      (map-append field_name (map output_field outs) (top_field ∷ []) ∙ ap (λ l. l ++ system_name None ∷ []) outputs-are)

  other-name : (name other : List ℕ) (k : ℕ) → output_name k ≡ other → name ≡ other → bytes_first name ≡ 121
  other-name name other k is same = ap bytes_first (same ∙ sym is)

  names-differ : AreDistinct (map field_name fields)
  names-differ =
      subst AreDistinct (sym names-are) (
        refl,
        none-has (map output_name (range_with_len 1 many) ++ system_name None ∷ []) now_name
            (λ other has same. elim (Contains-append_cases (map output_name (range_with_len 1 many)) (system_name None ∷ []) other has) [
              | inl one ↦
                  let from = of-map output_name (range_with_len 1 many) other one in
                  let wrong : 110 ≡ 121 = other-name now_name other from.0 from.2 same in omega (arith, wrong)
              | inr last ↦ elim (in-cases (system_name None) other [] last) [
                | inl is ↦ let wrong : 110 ≡ 116 = ap bytes_first (same ∙ sym is) in omega (arith, wrong)
                | inr none ↦ in-none other none
              ]
            ]),
        distinct-append (map output_name (range_with_len 1 many)) (system_name None ∷ [])
            (numbers-differ 121 1 many refl (omega (arith, few))) (refl, refl, tt)
            (λ name one last.
            let from = of-map output_name (range_with_len 1 many) name one in
            elim (in-cases (system_name None) name [] last) [
              | inl is ↦ let wrong : 116 ≡ 121 = other-name (system_name None) name from.0 from.2 is in omega (arith, wrong)
              | inr none ↦ in-none name none
            ]),
      )

  -- ---- The outputs among them

  abbrev numbers : List (List ℕ)
  numbers = number_names fields

  number-rest : (rows : List LocalRow) → filter is_number (map output_field rows ++ top_field ∷ []) ≡ map output_field rows
  number-rest [] = refl
  number-rest (r ∷ rows) = ap (λ more. output_field r ∷ more) (number-rest rows)

  numbers-are : numbers ≡ now_name ∷ map output_name (range_with_len 1 many)
  numbers-are = ap (λ fs. now_name ∷ map field_name fs) (number-rest outs) ∙ ap (λ more. now_name ∷ more) outputs-are

  is-output : (k : ℕ) → 1 ≤ k → k < 1 + many → has_name numbers (output_name k) ≡ true
  is-output k low high =
      in-has numbers (output_name k)
      (subst (λ ns. Contains ns (output_name k)) (sym numbers-are)
      (in-rest now_name (output_name k) (map output_name (range_with_len 1 many))
      (in-map output_name (range_with_len 1 many) k (in-range 1 many k low high))))

  enough : many ≤ output_count numbers
  enough =
      prefix-long (λ k. has_name numbers (output_name k)) 1 many (length numbers) is-output
      (let long = ap length numbers-are in let made = mapped-length output_name (range_with_len 1 many) in
      let range = length-range_with_len 1 many in omega (arith, long, made, range))

  counted : (k : ℕ) → 1 ≤ k → k < 1 + many → has_name (output_names numbers) (output_name k) ≡ true
  counted k low high =
      let most = enough in
      in-has (output_names numbers) (output_name k)
      (in-map output_name (numbers_from 1 (output_count numbers)) k (in-numbers 1 (output_count numbers) k low (omega (arith, high, most))))

  abbrev MayBe : FieldTree → Type 0
  MayBe f = may_be_named numbers (is_number f) f.name ≡ true

  outputs-may : AllByRecursion MayBe fields
  outputs-may = (
    refl,
    all-append MayBe (map output_field outs) (top_field ∷ [])
        (all-made MayBe (map output_field outs)
        (λ f has.
        let from = of-map output_field outs f has in
        let port = subst (λ ns. Contains ns (row_port from.0)) (root-ports a v is_outport (a.can.resolved.tree.table.outports None))
        (in-map row_port outs from.0 from.1) in
        let range = of-range 1 many (row_port from.0) port in
        subst MayBe from.2 (or_right (not (looks_like_output (output_name (row_port from.0))))
        (has_name (output_names numbers) (output_name (row_port from.0))) (counted (row_port from.0) range.0 range.1))))
        (refl, tt),
  )

  some-codes : 0 < length a.codes
  some-codes = below-codes a v 0 None refl

  pub root-struct-lawful : IsLawfulStruct (length a.codes) (root_structure a.codes a.root a.hyper)
  root-struct-lawful = record {
    fields = names-differ;
    some = omega arith;
    kinds = (
      tt,
      all-append (λ (f : FieldTree). IsLawfulKind (length a.codes) f.kind) (map output_field outs) (top_field ∷ [])
          (all-made (λ (f : FieldTree). IsLawfulKind (length a.codes) f.kind) (map output_field outs)
          (λ f has. let from = of-map output_field outs f has in subst (λ (z : FieldTree). IsLawfulKind (length a.codes) z.kind) from.2 tt))
          ((let some = some-codes in omega (arith, some)), tt),
    );
    outputs = λ root. outputs-may;
  }

  -- ---- Where it is

  abbrev g : ℕ → StructTree
  g i = moved_struct a.codes (code_at a.codes i)

  pub root-struct-at : slice_get (program_of a).structs (length a.codes) ≡ Some (root_structure a.codes a.root a.hyper)
  root-struct-at =
      let made = mapped-length g (down (length a.codes)) in
      let long = length-down (length a.codes) in
      let place : length (map g (down (length a.codes))) + 0 ≡ length a.codes = omega (arith, made, long) in
      ap (λ structs. slice_get structs (length a.codes)) (structs-down a)
      ∙ subst (λ k. slice_get (map g (down (length a.codes)) ++ root_structure a.codes a.root a.hyper ∷ []) k ≡ Some
      (root_structure a.codes a.root a.hyper)) place
      (at-right (map g (down (length a.codes))) (root_structure a.codes a.root a.hyper ∷ []) 0 (root_structure a.codes a.root a.hyper) refl)

  pub root-fields : struct_fields (program_of a).structs (length a.codes) ≡ fields
  root-fields =
      ap (λ (st : StructTree). st.fields)
      (get_or_from_slice_get (program_of a).structs (length a.codes) (root_structure a.codes a.root a.hyper) no_struct root-struct-at)

  -- the tick, the outputs and the instance
  pub now-number : IsNumberAt fields 0
  now-number = (now_field, refl, refl)

  pub output-number : (k : ℕ) (r : LocalRow) → slice_get outs k ≡ Some r → IsNumberAt fields (k + 1)
  output-number k r at =
      let next : suc k ≡ k + 1 = omega arith in
      subst (IsNumberAt fields) next
      (output_field r, at-left (map output_field outs) (top_field ∷ []) k (output_field r) (at-map output_field outs k r at), refl)

  pub top-struct : IsStructAt fields (many + 1) (struct_position a.codes 0)
  top-struct =
      let made = mapped-length output_field outs in
      let place : suc (length (map output_field outs) + 0) ≡ many + 1 = omega (arith, made) in
      subst (λ k. IsStructAt fields k (struct_position a.codes 0)) place
      (top_field, at-right (map output_field outs) (top_field ∷ []) 0 top_field refl, refl)
