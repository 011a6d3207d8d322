-- What positions stand for in a system's procedures in the program is what they stand for in its code by itself.
use Rattle.std.specs.Prelude.{◌≡◌, ℕ, zero, suc, ◌+◌, ◌-◌, ◌<◌, ◌≤◌, ◌==◌, Bool, true, false, if◌then◌else◌, List, [], ◌∷◌, ◌++◌, map, flat_map, filter, length, slice_get, slice_index, slice_index_or, Contains, Option, Some, None, refl}
use Rattle.std.specs.List.{AllByRecursion}
use Rattle.std.specs.Option.{option_map_or}
use Rattle.std.proofs.Common.{sym, ap, ap₂, subst, ◌∙◌, arith, inl, inr, eq-eqb, true≢false}
use Rattle.std.proofs.lemmas.Bool.{ne_eqb, lt-ltb, le-ltb, cases_lt}
use Rattle.std.proofs.lemmas.List.{length-append}
use Rattle.std.proofs.lemmas.List.Elements.{filter-append}
use Rattle.std.proofs.lemmas.Option.{get_or_from_slice_get}
use Rattle.base_fixed_point.specs.declared.FixType.{FixType}
use Rattle.modules_profile.specs.declared.ChildUse.{ChildUse}
use Rattle.modules_profile.specs.declared.LocalRow.{LocalRow}
use Rattle.modules_profile.specs.LocalSystem.{LocalSystem}
use Rattle.modules_profile.specs.Locals.{outports}
use Rattle.modules_profile.specs.NodeFacts.{LocalsAreLawful}
use Rattle.modules_profile.specs.SystemHeader.{SystemHeader}
use Rattle.modules_profile.specs.Systems.{system_name}
use Rattle.modules_profile.proofs.lemmas.LawfulSteps.{of-flat_map}
use Rattle.modules_profile.proofs.lemmas.Members.{in-map, in-at, at-map, map-at, at-left, at-right, below-at}
use Rattle.c_syntax.specs.declared.FieldKind.{FieldKind}
use Rattle.c_syntax.specs.declared.FieldKind.TheVariants.{Struct}
use Rattle.c_syntax.specs.declared.Leaf.{Leaf}
use Rattle.c_syntax.specs.declared.Leaf.TheVariants.{Param, Own, Child}
use Rattle.c_syntax.specs.Tree.{FieldTree, StructTree, no_struct, struct_fields, ParamTree, ProcedureTree}
use Rattle.emit_shape.specs.NamedLeaf.{own, child}
use Rattle.emit_shape.specs.Names.{value_name}
use Rattle.emit_shape.specs.CodeNames.{CodeNames, named_leaf}
use Rattle.emit_shape.specs.Heads.{Head, head_of, public_heads}
use Rattle.emit_shape.specs.Slots.{Slot, value, memory, ring_items, ring_place, ring_taken, trigger, counter, instance, filler, slot_field}
use Rattle.emit_shape.specs.SystemTree.{SystemTree}
use Rattle.emit_shape.specs.Relocation.{Relocation, moved_number, moved_leaf, moved_procedure}
use Rattle.emit_shape.specs.LocalShape.{no_head, callable, slot_name, output_in, local_names, own_position}
use Rattle.emit_shape.specs.Programs.{struct_at, no_field, no_procedure, procedure_at, kind_fields, field_in, names_in, procedures_of, procedure_place, struct_place}
use Rattle.emit_shape.specs.Assembled.{code_at, code_named, struct_position, first_procedure, relocation_of, moved_kind, moved_struct, root_structure, root_procedures}
use Rattle.right_linking.specs.Parts.{Parts, program_of, all_systems, coded_header, IsCodedAs, Views}
use Rattle.right_linking.specs.Places.{SystemsHavePlaces}
use Rattle.right_linking.proofs.lemmas.AssembledNames.{own-place, head-there}
use Rattle.right_linking.proofs.lemmas.AssembledPlaces.{down, mapped-length, code-is, structs-down, procedures-down, below-codes, own-procedure, positions}
use Rattle.right_linking.proofs.lemmas.AssembledChildren.{at-down, of-child, behind, child-found}
use Rattle.right_program_interfaces.proofs.AllowedReads.{has_bytes, IsNamed}
use Rattle.right_program_interfaces.proofs.Lists.{filter-all, filter-none, zip-at}

-- ---- Procedures of a struct

module _ (a : Parts) where
  abbrev many : ℕ
  many = length a.codes

  abbrev procedures_at : ℕ → List ProcedureTree
  procedures_at i = map (moved_procedure (relocation_of a.codes i)) (code_at a.codes i).procedures

  abbrev is_of : ℕ → ProcedureTree → Bool
  is_of of q = q.of == of

  part-is : (i : ℕ) (qs : List ProcedureTree) → filter (is_of (struct_position a.codes i))
      (map (moved_procedure (relocation_of a.codes i)) qs) ≡ map (moved_procedure (relocation_of a.codes i)) qs
  part-is i qs = filter-all (is_of (struct_position a.codes i)) (map (moved_procedure (relocation_of a.codes i)) qs) (by qs)
    where
      by : (qs : List ProcedureTree) → AllByRecursion (λ q. is_of (struct_position a.codes i) q ≡ true)
          (map (moved_procedure (relocation_of a.codes i)) qs)
      by [] = tt
      by (q ∷ qs) = (eq-eqb (struct_position a.codes i) (struct_position a.codes i) refl, by qs)

  part-none : (i of : ℕ) → (struct_position a.codes i ≡ of → ⊥) → (qs : List ProcedureTree) →
      filter (is_of of) (map (moved_procedure (relocation_of a.codes i)) qs) ≡ []
  part-none i of apart qs = filter-none (is_of of) (map (moved_procedure (relocation_of a.codes i)) qs) (by qs)
    where
      by : (qs : List ProcedureTree) → AllByRecursion (λ q. is_of of q ≡ false) (map (moved_procedure (relocation_of a.codes i)) qs)
      by [] = tt
      by (q ∷ qs) = (ne_eqb (struct_position a.codes i) of apart, by qs)

  none-before : (place k : ℕ) → place < many → k ≤ place → filter (is_of (struct_position a.codes place))
      (flat_map procedures_at (down k)) ≡ []
  none-before place zero within few = refl
  none-before place (suc k) within few =
      filter-append (is_of (struct_position a.codes place)) (procedures_at k) (flat_map procedures_at (down k))
      ∙ ap₂ (λ xs ys. xs ++ ys) (part-none k (struct_position a.codes place) (λ same. omega arith) (code_at a.codes k).procedures)
      (none-before place k within (omega arith))

  one-part : (place k : ℕ) → place < k → k ≤ many →
      filter (is_of (struct_position a.codes place)) (flat_map procedures_at (down k)) ≡ procedures_at place
  one-part place zero less few = absurd (omega arith)
  one-part place (suc k) less few =
      filter-append (is_of (struct_position a.codes place)) (procedures_at k) (flat_map procedures_at (down k))
      ∙ elim (cases_lt place k) [
        | inl below ↦ ap₂ (λ xs ys. xs ++ ys) (part-none k (struct_position a.codes place) (λ same. omega arith)
            (code_at a.codes k).procedures) (one-part place k below (omega arith))
        | inr above ↦
            let same : place ≡ k = omega arith in
            ap₂ (λ xs ys. xs ++ ys) (ap (λ i. filter (is_of (struct_position a.codes i)) (procedures_at k)) same
            ∙ part-is k (code_at a.codes k).procedures) (none-before place k (omega arith) (omega arith))
            ∙ append-none (procedures_at k) ∙ ap procedures_at (sym same)
      ]
    where
      append-none : (xs : List ProcedureTree) → xs ++ [] ≡ xs
      append-none [] = refl
      append-none (x ∷ xs) = ap (λ more. x ∷ more) (append-none xs)

  -- the procedures of a system's struct are those of its code
  pub procedures-here : (place : ℕ) → place < many → procedures_of (program_of a) (struct_position a.codes place) ≡ procedures_at place
  procedures-here place within =
      ap (filter (is_of (struct_position a.codes place))) (procedures-down a many refl)
      ∙ filter-append (is_of (struct_position a.codes place)) (flat_map procedures_at (down many)) (root_procedures a.codes a.root a.hyper)
      ∙ ap₂ (λ xs ys. xs ++ ys) (one-part place many within (omega arith))
      (filter-none (is_of (struct_position a.codes place)) (root_procedures a.codes a.root a.hyper) (other, (other, tt)))
      ∙ none (procedures_at place)
    where
      other : (many == struct_position a.codes place) ≡ false
      other = ne_eqb many (struct_position a.codes place) (λ same. omega arith)

      none : (xs : List ProcedureTree) → xs ++ [] ≡ xs
      none [] = refl
      none (x ∷ xs) = ap (λ more. x ∷ more) (none xs)

  all-none : (k : ℕ) → k ≤ many → filter (is_of many) (flat_map procedures_at (down k)) ≡ []
  all-none zero few = refl
  all-none (suc k) few =
      filter-append (is_of many) (procedures_at k) (flat_map procedures_at (down k))
      ∙ ap₂ (λ xs ys. xs ++ ys) (part-none k many (λ same. omega arith) (code_at a.codes k).procedures) (all-none k (omega arith))

  -- and those of the root's struct its own two
  pub procedures-root : procedures_of (program_of a) many ≡ root_procedures a.codes a.root a.hyper
  procedures-root =
      ap (filter (is_of many)) (procedures-down a many refl)
      ∙ filter-append (is_of many) (flat_map procedures_at (down many)) (root_procedures a.codes a.root a.hyper)
      ∙ ap₂ (λ xs ys. xs ++ ys) (all-none many (omega arith))
      (filter-all (is_of many) (root_procedures a.codes a.root a.hyper) (eq-eqb many many refl, (eq-eqb many many refl, tt)))

-- ---- Fields by name

module _ (codes : List SystemTree) where
  abbrev pub moved_field : FieldTree → FieldTree
  moved_field f = record { name = f.name; kind = moved_kind codes f.name f.kind }

  field-named : (slots : List Slot) (f : ℕ) →
      (slice_index_or (map moved_field (map slot_field slots)) f no_field).name ≡ option_map_or slot_name (slice_get slots f) []
  field-named [] f = refl
  field-named (x ∷ slots) zero = refl
  field-named (x ∷ slots) (suc f) = field-named slots f

-- the children's outputs alone have names
named-output : (slot : Slot) (o : ℕ) → has_bytes (output_in o slot) ≡ true →
    (k : ℕ) × (u : ChildUse) × (e : ℕ × FixType) × (slot ≡ instance k u) × (slice_get u.header.outputs o ≡ Some e)
named-output (instance k u) o named = by (slice_get u.header.outputs o) refl named
  where
    by : (z : Option (ℕ × FixType)) → slice_get u.header.outputs o ≡ z →
        has_bytes (option_map_or (λ (e : ℕ × FixType). value_name e.0) z []) ≡ true →
        (i : ℕ) × (w : ChildUse) × (e : ℕ × FixType) × (instance k u ≡ instance i w) × (slice_get w.header.outputs o ≡ Some e)
    by None at named = absurd (true≢false (sym named))
    by (Some e) at named = (k, u, e, refl, at)
named-output _ o named = absurd (true≢false (sym named))

module _ (places : SystemsHavePlaces) (a : Parts) (v : Views a) where
  module _ (place : ℕ) (s : Option ℕ) (stands : slice_get (all_systems a) place ≡ Some s) where
    known : IsCodedAs a place s (v.at s)
    known = v.each place s stands

    abbrev code : SystemTree
    code = (v.at s).code

    abbrev slots : List Slot
    slots = (v.at s).slots

    abbrev here : Relocation
    here = relocation_of a.codes place

    pub names : CodeNames
    names = names_in (program_of a) (struct_place (program_of a) s)

    -- the struct
    pub struct-here : struct_at (program_of a) (struct_place (program_of a) s) ≡ moved_struct a.codes code
    struct-here =
        ap (struct_at (program_of a)) (places a v place s stands).struct
        ∙ ap (λ (ss : List StructTree). slice_index_or ss (struct_position a.codes place) no_struct) (structs-down a)
        ∙ at-down (λ i. moved_struct a.codes (code_at a.codes i)) (root_structure a.codes a.root a.hyper ∷ []) no_struct
        (length a.codes) place (below-codes a v place s stands)
        ∙ ap (moved_struct a.codes) (code-is a place s (v.at s) known)

    pub fields-here : struct_fields (program_of a).structs (struct_place (program_of a) s) ≡ map (moved_field a.codes)
        (map slot_field slots)
    fields-here = (places a v place s stands).fields ∙ ap (λ (st : StructTree). map (moved_field a.codes) st.fields) known.shape.structure

    -- own fields
    pub own-same : (f : ℕ) → (field_in (program_of a) (struct_place (program_of a) s) f).name ≡ option_map_or slot_name
        (slice_get slots f) []
    own-same f = ap (λ (fs : List FieldTree). (slice_index_or fs f no_field).name) fields-here ∙ field-named a.codes slots f

    -- the procedures
    pub own-procedures : procedures_of (program_of a) (struct_place (program_of a) s) ≡ map (moved_procedure here) code.procedures
    own-procedures =
        ap (procedures_of (program_of a)) (places a v place s stands).struct
        ∙ procedures-here a place (below-codes a v place s stands)
        ∙ ap (λ (z : SystemTree). map (moved_procedure here) z.procedures) (code-is a place s (v.at s) known)

    pub procedure-here : (j : ℕ) (q : ProcedureTree) → slice_get code.procedures j ≡ Some q →
        procedure_at (program_of a) (first_procedure a.codes place + j) ≡ moved_procedure here q
    procedure-here j q at =
        get_or_from_slice_get (program_of a).procedures (first_procedure a.codes place + j) (moved_procedure here q) no_procedure
        (own-procedure a v place s stands j q at)

    -- each public head is that of an own procedure, which is found by the head's name
    pub public-there : (head : Head) → Contains (public_heads (coded_header (v.at s))) head →
        (j : ℕ) × (q : ProcedureTree) × (slice_get code.procedures j ≡ Some q) × (head_of q ≡ head)
        × (procedure_place (program_of a) head.name ≡ first_procedure a.codes place + j)
    public-there head has =
        let (j, q, at, is) = head-there a v place s stands head has in
        let name : q.name ≡ head.name = ap (λ (z : Head). z.name) is in (
          j,
          q,
          at,
          is,
          (places a v place s stands).procedure head.name
              (subst (Contains (map (λ (z : ProcedureTree). z.name) code.procedures)) name
              (in-map (λ (z : ProcedureTree). z.name) code.procedures q (in-at code.procedures j q at)))
              ∙ ap (λ n. first_procedure a.codes place + n) (ap (own_position code) (sym name) ∙ own-place a v place s stands j q at),
        )

    pub public-head : (head : Head) → Contains (public_heads (coded_header (v.at s))) head →
        head_of (procedure_at (program_of a) (procedure_place (program_of a) head.name)) ≡ head
    public-head head has =
        let (j, q, at, is, found) = public-there head has in
        ap (λ k. head_of (procedure_at (program_of a) k)) found ∙ ap head_of (procedure-here j q at) ∙ is

  module _ (place : ℕ) (s : Option ℕ) (stands : slice_get (all_systems a) place ≡ Some s) where
    abbrev local : LocalSystem
    local = (v.at s).local

    abbrev own_code : SystemTree
    own_code = (v.at s).code

    abbrev local_of_code : CodeNames
    local_of_code = local_names local (v.at s).slots own_code

    abbrev in_program : CodeNames
    in_program = names_in (program_of a) (struct_place (program_of a) s)

    abbrev going : Relocation
    going = relocation_of a.codes place

    -- ---- Outputs of children

    inner-same : (f o : ℕ) → has_bytes (local_of_code.inner f o) ≡ true → in_program.inner f (going.output f o) ≡ local_of_code.inner f o
    inner-same f o named = by (slice_get (v.at s).slots f) refl named
      where
        output : (k : ℕ) (u : ChildUse) (e : ℕ × FixType) → slice_get (v.at s).slots f ≡ Some (instance k u) →
            slice_get u.header.outputs o ≡ Some e →
            in_program.inner f (going.output f o) ≡ value_name e.0
        output k u e slot given =
            let of_child = in-at local.children k u (of-child local (v.at s).slots (known place s stands).shape.slots_right (instance k u)
            (in-at (v.at s).slots f (instance k u) slot)) in
            let inner = behind a v place s stands u of_child in
            let row = u.header.row in
            let theirs = known inner.inner_place row inner.stands in
            let outer : SystemHeader = coded_header (v.at row) in
            let (r, at_row, is) = map-at (λ (r : LocalRow). (r.row, r.out)) (outports (v.at row).local) o e
            (ap (λ (h : SystemHeader). slice_get h.outputs o) (sym inner.header) ∙ given) in
            let (j, at_place, at_slot) = zip-at (λ (r : LocalRow) i. slice_get (v.at row).slots i ≡ Some (value r))
            (outports (v.at row).local) (v.at row).code.outputs o r theirs.shape.places at_row in
            let name : slice_index_or (map (λ (g : FieldTree). g.name) (code_at a.codes place).structure.fields) f [] ≡ system_name row =
            ap (λ (z : SystemTree). slice_index_or (map (λ (g : FieldTree). g.name) z.structure.fields) f [])
            (code-is a place s (v.at s) (known place s stands))
            ∙ ap (λ (st : StructTree). slice_index_or (map (λ (g : FieldTree). g.name) st.fields) f [])
            (known place s stands).shape.structure
            ∙ get_or_from_slice_get (map (λ (g : FieldTree). g.name) (map slot_field (v.at s).slots)) f (system_name row) []
            (at-map (λ (g : FieldTree). g.name) (map slot_field (v.at s).slots) f (slot_field (instance k u))
            (at-map slot_field (v.at s).slots f (instance k u) slot)) in
            let code_is : code_at a.codes (code_named a.codes (system_name row)) ≡ (v.at row).code =
            ap (code_at a.codes) (child-found a v place s stands u of_child) ∙ code-is a inner.inner_place row (v.at row) theirs in
            let goes : going.output f o ≡ j =
            ap (λ n. slice_index (code_at a.codes (code_named a.codes n)).outputs o) name
            ∙ ap (λ (z : SystemTree). slice_index z.outputs o) code_is
            ∙ get_or_from_slice_get (v.at row).code.outputs o j 0 at_place in
            let kind : (field_in (program_of a) (struct_place (program_of a) s) f).kind ≡ Struct (struct_place (program_of a) row) =
            ap (λ (fs : List FieldTree). (slice_index_or fs f no_field).kind) (fields-here place s stands)
            ∙ ap (λ (g : FieldTree). g.kind) (get_or_from_slice_get (map (moved_field a.codes) (map slot_field (v.at s).slots)) f
            (moved_field a.codes (slot_field (instance k u))) no_field
            (at-map (moved_field a.codes) (map slot_field (v.at s).slots) f (slot_field (instance k u))
            (at-map slot_field (v.at s).slots f (instance k u) slot)))
            ∙ ap (λ n. Struct (struct_position a.codes n)) (child-found a v place s stands u of_child)
            ∙ ap Struct (sym (places a v inner.inner_place row inner.stands).struct) in
            ap (λ (z : FieldKind). (slice_index_or (kind_fields (program_of a) z) (going.output f o) no_field).name) kind
            ∙ ap (λ n. (field_in (program_of a) (struct_place (program_of a) row) n).name) goes
            ∙ own-same inner.inner_place row inner.stands j
            ∙ ap (λ z. option_map_or slot_name z []) at_slot
            ∙ ap (λ (z : ℕ × FixType). value_name z.0) is

        by : (z : Option Slot) → slice_get (v.at s).slots f ≡ z → has_bytes (option_map_or (output_in o) z []) ≡ true →
            in_program.inner f (going.output f o) ≡ local_of_code.inner f o
        by None at named = absurd (true≢false (sym named))
        by (Some slot) at named =
            let (k, u, e, is, given) = named-output slot o named in
            output k u e (at ∙ ap Some is) given
            ∙ sym (ap (λ z. option_map_or (output_in o) z []) (at ∙ ap Some is)
            ∙ ap (λ z. option_map_or (λ (e : ℕ × FixType). value_name e.0) z []) given)

    pub leaf-same : (params : List ParamTree) (leaf : Leaf) → IsNamed (named_leaf local_of_code params leaf) →
        named_leaf in_program params (moved_leaf going leaf) ≡ named_leaf local_of_code params leaf
    leaf-same params (Param k) named = refl
    leaf-same params (Own f) named = ap own (own-same place s stands f)
    leaf-same params (Child f o) named = ap₂ child (own-same place s stands f) (inner-same f o named)

    -- ---- Procedures that are called

    abbrev heads : List Head
    heads = flat_map (λ (u : ChildUse). public_heads u.header) local.children

    module _ (locals : LocalsAreLawful) where
      offered-head : (head : Head) → Contains heads head →
          head_of (procedure_at (program_of a) (procedure_place (program_of a) head.name)) ≡ head
      offered-head head has =
          let (u, of_child, there) = of-flat_map (λ (u : ChildUse). public_heads u.header) local.children head has in
          let inner = behind a v place s stands u of_child in
          public-head inner.inner_place u.header.row inner.stands head
          (subst (λ (h : SystemHeader). Contains (public_heads h) head) inner.header there)

      offered-callee : (i : ℕ) → i < length heads → head_of (procedure_at (program_of a) (going.offered i)) ≡ slice_index_or heads i no_head
      offered-callee i less =
          let (head, at) = below-at heads i less in
          let goes : going.offered i ≡ procedure_place (program_of a) head.name =
          ap (λ ns. slice_index ns i) (positions a v place s stands locals places)
          ∙ get_or_from_slice_get (map (λ (h : Head). procedure_place (program_of a) h.name) heads) i
          (procedure_place (program_of a) head.name) 0
          (at-map (λ (h : Head). procedure_place (program_of a) h.name) heads i head at) in
          ap (λ k. head_of (procedure_at (program_of a) k)) goes ∙ offered-head head (in-at heads i head at)
          ∙ sym (get_or_from_slice_get heads i head no_head at)

      own-is : going.own ≡ length own_code.procedures
      own-is = ap (λ (z : SystemTree). length z.procedures) (code-is a place s (v.at s) (known place s stands))

      pub callee-same : (k : ℕ) → k < length (callable local own_code) → in_program.callee (moved_number going k) ≡ local_of_code.callee k
      callee-same k within = elim (cases_lt k (length own_code.procedures)) [
        | inl less ↦
            let (q, at) = below-at own_code.procedures k less in
            let goes : moved_number going k ≡ first_procedure a.codes place + k =
            ap (λ b. if b then first_procedure a.codes place + k else going.offered (k - going.own))
            (lt-ltb k going.own (omega (arith, own-is, less))) in
            ap (λ n. head_of (procedure_at (program_of a) n)) goes ∙ ap head_of (procedure-here place s stands k q at)
            ∙ sym (get_or_from_slice_get (callable local own_code) k (head_of q) no_head
            (at-left (map head_of own_code.procedures) heads k (head_of q) (at-map head_of own_code.procedures k q at)))
        | inr more ↦
            let long = mapped-length head_of own_code.procedures in
            let i : ℕ = k - length own_code.procedures in
            let less : i < length heads = omega (arith, more, within, long, length-append (map head_of own_code.procedures) heads) in
            let (head, at) = below-at heads i less in
            let same : length (map head_of own_code.procedures) + i ≡ k = omega (arith, more, long) in
            let goes : moved_number going k ≡ going.offered i =
            ap (λ b. if b then first_procedure a.codes place + k else going.offered (k - going.own))
            (le-ltb k going.own (omega (arith, own-is, more)))
            ∙ ap (λ n. going.offered (k - n)) own-is in
            ap (λ n. head_of (procedure_at (program_of a) n)) goes ∙ offered-callee i less ∙ get_or_from_slice_get heads i head no_head at
            ∙ sym (ap (λ n. slice_index_or (callable local own_code) n no_head) (sym same)
            ∙ get_or_from_slice_get (callable local own_code) (length (map head_of own_code.procedures) + i) head no_head
            (at-right (map head_of own_code.procedures) heads i head at))
      ]
