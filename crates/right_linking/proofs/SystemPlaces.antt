-- The struct and the procedures of each system are where its code is among the codes.
use Rattle.std.specs.Prelude.{◌≡◌, ◌≢◌, ℕ, suc, ◌+◌, ◌-◌, ◌<◌, Bool, true, false, not, ◌&&◌, MatchBool, List, [], ◌∷◌, ◌++◌, map, flat_map, filter, length, slice_get, Contains, Option, Some, None, unwrap_or, codes as text, decimal, bytes_eq, refl, ⊤}
use Rattle.std.specs.List.{AllByRecursion, AllZip, position_from, range_with_len}
use Rattle.std.proofs.Common.{sym, ap, subst, ◌∙◌, arith, inl, inr}
use Rattle.std.proofs.lemmas.Option.{get_or_from_slice_get}
use Rattle.std.proofs.lemmas.List.Elements.{Contains-append_cases}
use Rattle.std.proofs.lemmas.List.Sorted.{Contains-permutation, IsPermutation-sym}
use Rattle.diagram_meaning.specs.Rows.{row_at, row_numbers, is_inside}
use Rattle.diagram_blocks.specs.Kinds.{is_subsystem}
use Rattle.modules_profile.specs.SystemHeader.{SystemHeader}
use Rattle.modules_profile.specs.Headers.{header_functions}
use Rattle.modules_profile.specs.Systems.{system_name, systems_inside}
use Rattle.c_syntax.specs.Tree.{StructTree, no_struct, struct_fields, ProcedureTree}
use Rattle.emit_shape.specs.Names.{group_name}
use Rattle.emit_shape.specs.Heads.{Head, head_of, public_heads, out_head, out_heads, update_head, start_head, reset_head}
use Rattle.emit_shape.specs.SystemTree.{SystemTree}
use Rattle.emit_shape.specs.Relocation.{moved_procedure}
use Rattle.emit_shape.specs.Programs.{struct_place, procedure_place}
use Rattle.emit_shape.specs.Assembled.{no_code, code_at, first_procedure, moved_struct, relocation_of, root_structure, root_procedures}
use Rattle.emit_shape.specs.LocalShape.{own_position}
use Rattle.modules_profile.proofs.lemmas.Members.{in-first, in-rest, in-cases, in-none, in-map, of-map, in-filter, of-filter, of-range, in-at, at-below, below-at}
use Rattle.right_claim.specs.Assembly.{IsCodeOf}
use Rattle.right_linking.specs.Parts.{Parts, program_of, diagram, all_systems, CodedSystem, coded_header, IsCodedAs, Views}
use Rattle.right_linking.specs.Places.{SystemsHavePlaces}
use Rattle.right_linking.proofs.SystemOrder.{stands-once}
use Rattle.right_linking.proofs.SystemNames.{IsNumbered, bytes-same, bytes-apart, procedures-apart, system-one}
use Rattle.right_linking.proofs.FirstPlaces.{down, from-last, append-append, IsFirst, NonePass, first-position, first-of, first-down, at-down, first-map, mapped-length, sum_below, sum_below-same, first-in-parts, sum-behind}

-- ---- Names

-- a text that begins with the system's name and a line
abbrev pub BelongsTo : Option ℕ → List ℕ → Type 0
BelongsTo s name = (rest : List ℕ) × (name ≡ system_name s ++ 95 ∷ rest)

longer : (s : Option ℕ) (mid : List ℕ) (digits : List ℕ) → BelongsTo s ((system_name s ++ 95 ∷ mid) ++ digits)
longer s mid digits = (mid ++ digits, append-append (system_name s) (95 ∷ mid) digits)

-- all members pass, so this one does
pub member : {A : Type 0} (P : A → Type 0) (xs : List A) (x : A) → AllByRecursion P xs → Contains xs x → P x
member P [] x all has = absurd (in-none x has)
member P (y ∷ ys) x all has = elim (in-cases y x ys has) [ inl same ↦ subst P same all.0 | inr more ↦ member P ys x all.1 more ]

pub all-made : {A : Type 0} (P : A → Type 0) (xs : List A) → ((x : A) → Contains xs x → P x) → AllByRecursion P xs
all-made P [] all = tt
all-made P (x ∷ xs) all = (all x (in-first x xs), all-made P xs (λ y has. all y (in-rest x y xs has)))

-- so do the names of public procedures
public-belongs : (h : SystemHeader) (head : Head) → Contains (public_heads h) head → BelongsTo h.row head.name
public-belongs h head has = elim (Contains-append_cases (out_heads h) (update_head h ∷ start_head h ∷ reset_head h ∷ []) head has) [
  | inl out ↦
      let made = of-map (out_head h) (range_with_len 1 (length (header_functions h))) head out in
      subst (λ (z : Head). BelongsTo h.row z.name) made.2 (longer h.row (text "out") (decimal made.0))
  | inr other ↦ rest other
]
  where
    ended : (z : Head) (mid : List ℕ) → z ≡ head → z.name ≡ system_name h.row ++ 95 ∷ mid → BelongsTo h.row head.name
    ended z mid same is = subst (λ (y : Head). BelongsTo h.row y.name) same (mid, is)

    rest : Contains (update_head h ∷ start_head h ∷ reset_head h ∷ []) head → BelongsTo h.row head.name
    rest other = elim (in-cases (update_head h) head (start_head h ∷ reset_head h ∷ []) other) [
      | inl same ↦ ended (update_head h) (text "update") same refl
      | inr more ↦ elim (in-cases (start_head h) head (reset_head h ∷ []) more) [
        | inl same ↦ ended (start_head h) (text "start") same refl
        | inr last ↦ elim (in-cases (reset_head h) head [] last) [
          | inl same ↦ ended (reset_head h) (text "reset") same refl
          | inr none ↦ absurd (in-none head none)
        ]
      ]
    ]

module _ (a : Parts) where
  -- rows are few enough
  pub numbered : (place : ℕ) (s : Option ℕ) → slice_get (all_systems a) place ≡ Some s → IsNumbered s
  numbered place None stands = tt
  numbered place (Some e) stands =
      elim (in-cases None (Some e) (map Some (systems_inside (diagram a).rows None))
      (in-at (all_systems a) place (Some e) stands)) [
        | inl same ↦ absurd (let wrong : ⊥ = cc same in wrong)
        | inr more ↦
            let made = of-map Some (systems_inside (diagram a).rows None) (Some e) more in
            let row : made.0 ≡ e = cc made.2 in
            let kept = of-filter (λ c. is_subsystem (row_at (diagram a).rows c).kind && is_inside (diagram a).rows None c)
            (row_numbers (diagram a).rows) made.0 made.1 in
            let below = (of-range 0 (length (diagram a).rows) made.0 kept.0).1 in
            let few = a.can.resolved.tree.table.nested.at_most in omega arith
      ]

  module _ (place : ℕ) (s : Option ℕ) (c : CodedSystem) (known : IsCodedAs a place s c) where
    pub row-is : c.local.row ≡ s
    row-is = ap (λ l. l.row) known.local.is_local

    -- each procedure's name begins so
    pub procedure-belongs : (q : ProcedureTree) → Contains c.code.procedures q → BelongsTo s q.name
    procedure-belongs q has =
        subst (λ o. BelongsTo o q.name) row-is
        (by q.private refl (member _ c.code.procedures q known.shape.rules has).private_name)
      where
        by : (t : Bool) → q.private ≡ t → MatchBool t ((g : ℕ) × (q.name ≡ group_name c.local.row g)) ⊤ → BelongsTo c.local.row q.name
        by true e named = subst (BelongsTo c.local.row) (sym named.1) (longer c.local.row (text "g") (decimal named.0))
        by false e named =
            let shown =
            in-filter (λ (z : Head). not z.private) (map head_of c.code.procedures) (head_of q)
            (in-map head_of c.code.procedures q has) (ap not e) in
            public-belongs (coded_header c) (head_of q)
            (Contains-permutation (filter (λ (z : Head). not z.private) (map head_of c.code.procedures))
            (public_heads (coded_header c)) (head_of q)
            (IsPermutation-sym (public_heads (coded_header c))
            (filter (λ (z : Head). not z.private) (map head_of c.code.procedures)) known.shape.heads) shown)

    pub code-is : code_at a.codes place ≡ c.code
    code-is = get_or_from_slice_get a.codes place c.code no_code known.stands

    pub struct-name : (code_at a.codes place).structure.name ≡ system_name s
    struct-name = ap (λ (z : SystemTree). z.structure.name) code-is
        ∙ ap (λ (z : StructTree). z.name) known.shape.structure ∙ ap system_name row-is

  -- as many codes as systems
  zipped : {A B : Type 0} (P : A → B → Type 0) (xs : List A) (ys : List B) → AllZip P xs ys → length xs ≡ length ys
  zipped P [] [] all = refl
  zipped P [] (y ∷ ys) all = absurd all
  zipped P (x ∷ xs) [] all = absurd all
  zipped P (x ∷ xs) (y ∷ ys) all = ap suc (zipped P xs ys all.1)

  pub system-of : (i : ℕ) → i < length a.codes → (t : Option ℕ) × (slice_get (all_systems a) i ≡ Some t)
  system-of i below = below-at (all_systems a) i (let same = zipped (IsCodeOf a.model) (all_systems a) a.codes a.can.each in omega arith)

  pub structs-down : (program_of a).structs
      ≡ map (λ i. moved_struct a.codes (code_at a.codes i)) (down (length a.codes))
      ++ root_structure a.codes a.root a.hyper ∷ []
  structs-down =
      ap (λ is. map (λ i. moved_struct a.codes (code_at a.codes i)) is ++ root_structure a.codes a.root a.hyper ∷ [])
      (from-last (length a.codes))

  pub procedures-down : (n : ℕ) → n ≡ length a.codes →
      (program_of a).procedures
      ≡ flat_map (λ i. map (moved_procedure (relocation_of a.codes i)) (code_at a.codes i).procedures) (down n)
      ++ root_procedures a.codes a.root a.hyper
  procedures-down n same =
      ap (λ is. flat_map (λ i. map (moved_procedure (relocation_of a.codes i)) (code_at a.codes i).procedures) is
      ++ root_procedures a.codes a.root a.hyper) (from-last (length a.codes))
      ∙ ap (λ m. flat_map (λ i. map (moved_procedure (relocation_of a.codes i)) (code_at a.codes i).procedures) (down m)
      ++ root_procedures a.codes a.root a.hyper) (sym same)

  module _ (v : Views a) (place : ℕ) (s : Option ℕ) (stands : slice_get (all_systems a) place ≡ Some s) where
    known : IsCodedAs a place s (v.at s)
    known = v.each place s stands

    pub below-codes : place < length a.codes
    below-codes = at-below a.codes place (v.at s).code known.stands

    -- another place is another system's
    other : (i : ℕ) (t : Option ℕ) → place < i → slice_get (all_systems a) i ≡ Some t → s ≢ t
    other i t later at same = let one = stands-once (diagram a).rows place i s stands (at ∙ ap Some (sym same)) in omega arith

    struct-at : struct_place (program_of a) s ≡ length a.codes - (place + 1)
    struct-at =
        ap (λ structs. unwrap_or (position_from (λ (st : StructTree). bytes_eq st.name (system_name s)) 0 structs) 0) structs-down
        ∙ ap (λ o. unwrap_or o 0)
        (first-position (λ (st : StructTree). bytes_eq st.name (system_name s))
        (map (λ i. moved_struct a.codes (code_at a.codes i)) (down (length a.codes))
        ++ root_structure a.codes a.root a.hyper ∷ []) 0 (length a.codes - (place + 1))
        (first-down (λ (st : StructTree). bytes_eq st.name (system_name s))
        (λ i. moved_struct a.codes (code_at a.codes i)) (root_structure a.codes a.root a.hyper ∷ [])
        (length a.codes) place below-codes
        (bytes-same (code_at a.codes place).structure.name (system_name s) (struct-name place s (v.at s) known))
        (λ i later below.
        let t = system-of i below in
        bytes-apart (code_at a.codes i).structure.name (system_name s)
        (λ same.
        other i t.0 later t.1
        (system-one s t.0 (numbered place s stands) (numbered i t.0 t.1)
        (sym (sym (struct-name i t.0 (v.at t.0) (v.each i t.0 t.1)) ∙ same))))))
        )
        ∙ none-more
      where
        none-more : 0 + (length a.codes - (place + 1)) ≡ length a.codes - (place + 1)
        none-more = omega arith

    fields-are : struct_fields (program_of a).structs (struct_place (program_of a) s) ≡ (moved_struct a.codes (v.at s).code).fields
    fields-are =
        ap (λ k. struct_fields (program_of a).structs k) struct-at
        ∙ ap (λ structs. struct_fields structs (length a.codes - (place + 1))) structs-down
        ∙ ap (λ (st : StructTree). st.fields)
        (at-down (λ i. moved_struct a.codes (code_at a.codes i)) (root_structure a.codes a.root a.hyper
        ∷ []) no_struct (length a.codes) place below-codes)
        ∙ ap (λ code. (moved_struct a.codes code).fields) (code-is place s (v.at s) known)

    procedure-at : (name : List ℕ) → Contains (map (λ q. q.name) (v.at s).code.procedures) name →
        procedure_place (program_of a) name ≡ first_procedure a.codes place + own_position (v.at s).code name
    procedure-at name has =
        let made = of-map (λ (q : ProcedureTree). q.name) (v.at s).code.procedures name has in
        let own = first-of (λ (q : ProcedureTree). bytes_eq q.name name) (v.at s).code.procedures made.0 made.1
        (bytes-same made.0.name name made.2) in
        let belongs = subst (BelongsTo s) made.2 (procedure-belongs place s (v.at s) known made.0 made.1) in
        let many = length a.codes - suc place in
        let count : many + suc place ≡ length a.codes = let below = below-codes in omega arith in
        let found =
        first-in-parts (λ (q : ProcedureTree). bytes_eq q.name name)
        (λ i. map (moved_procedure (relocation_of a.codes i)) (code_at a.codes i).procedures)
        (root_procedures a.codes a.root a.hyper) many place own.0
        (first-map (λ (q : ProcedureTree). bytes_eq q.name name) (moved_procedure (relocation_of a.codes place))
        (code_at a.codes place).procedures own.0
        (subst (λ (code : SystemTree). IsFirst (λ (q : ProcedureTree). bytes_eq q.name name) code.procedures own.0)
        (sym (code-is place s (v.at s) known)) own.1))
        (λ i later below. elsewhere name belongs i later (omega arith)) in
        ap (λ ps. unwrap_or (position_from (λ (q : ProcedureTree). bytes_eq q.name name) 0 ps) 0) (procedures-down (many + suc place) count)
        ∙ ap (λ o. unwrap_or o 0) (first-position (λ (q : ProcedureTree). bytes_eq q.name name) _ 0 _ found)
        ∙ sums many own.0 refl
        (ap (λ o. unwrap_or o 0)
        (first-position (λ (q : ProcedureTree). bytes_eq q.name name) (v.at s).code.procedures 0 own.0 own.1))
      where
        elsewhere : (name : List ℕ) → BelongsTo s name → (i : ℕ) → place < i → i < length a.codes →
            NonePass (λ (q : ProcedureTree). bytes_eq q.name name)
            (map (moved_procedure (relocation_of a.codes i)) (code_at a.codes i).procedures)
        elsewhere name belongs i later below =
            let t = system-of i below in
            let inner = v.each i t.0 t.1 in
            all-made (λ (q : ProcedureTree). bytes_eq q.name name ≡ false)
            (map (moved_procedure (relocation_of a.codes i)) (code_at a.codes i).procedures)
            (λ q is.
            let from = of-map (moved_procedure (relocation_of a.codes i)) (code_at a.codes i).procedures q is in
            let theirs =
            procedure-belongs i t.0 (v.at t.0) inner from.0
            (subst (λ (code : SystemTree). Contains code.procedures from.0)
            (code-is i t.0 (v.at t.0) inner) from.1) in
            subst (λ (z : ProcedureTree). bytes_eq z.name name ≡ false) from.2
            (bytes-apart from.0.name name
            (λ same. procedures-apart s t.0 belongs.0 theirs.0 (numbered place s stands) (numbered i t.0 t.1)
            (other i t.0 later t.1) (sym belongs.1 ∙ sym same ∙ theirs.1))))

        sums : (many j : ℕ) → many ≡ length a.codes - suc place → own_position (v.at s).code name ≡ 0 + j →
            0 + (sum_below
            (λ i. length
            (map (moved_procedure (relocation_of a.codes (suc place + i)))
            (code_at a.codes (suc place + i)).procedures)) many + j)
            ≡ first_procedure a.codes place + own_position (v.at s).code name
        sums many j same own =
            let one : sum_below
            (λ i. length
            (map (moved_procedure (relocation_of a.codes (suc place + i)))
            (code_at a.codes (suc place + i)).procedures)) many ≡ first_procedure a.codes place =
            sum_below-same
            (λ i. length
            (map (moved_procedure (relocation_of a.codes (suc place + i)))
            (code_at a.codes (suc place + i)).procedures))
            (λ i. length (code_at a.codes (suc place + i)).procedures) many
            (λ i less. mapped-length (moved_procedure (relocation_of a.codes (suc place + i))) (code_at a.codes (suc place + i)).procedures)
            ∙ ap (sum_below (λ i. length (code_at a.codes (suc place + i)).procedures)) same
            ∙ sym (sum-behind (λ (z : SystemTree). length z.procedures) no_code a.codes place) in
            omega (arith, one, own)

pub systems_have_places : SystemsHavePlaces
systems_have_places a v place s stands =
    record {
      struct = struct-at a v place s stands;
      fields = fields-are a v place s stands;
      procedure = procedure-at a v place s stands;
    }
