-- The code of `top`: its public procedures by name, and how many functions it has.
use Rattle.std.specs.Prelude.{◌≡◌, ℕ, suc, ◌+◌, ◌^◌, ◌<◌, ◌≤◌, Bool, true, false, not, MatchBool, List, [], ◌∷◌, ◌++◌, map, filter, length, find, slice_get, Contains, Option, Some, None, unwrap_or, option_map, codes as text, decimal, bytes_eq, refl, ⊤, ◌⊎◌, cond}
use Rattle.std.specs.List.{prefix_len, range_with_len, position_from}
use Rattle.std.proofs.Common.{sym, ap, subst, ◌∙◌, arith, inl, inr}
use Rattle.std.proofs.lemmas.List.{length-append}
use Rattle.std.proofs.lemmas.List.FromFn.{length-map-range_with_len}
use Rattle.std.proofs.lemmas.List.Elements.{Contains-append_left, Contains-append_right, Contains-append_cases}
use Rattle.std.proofs.lemmas.List.Sorted.{Contains-permutation, IsPermutation-sym, length_permutation}
use Rattle.std.proofs.lemmas.Option.{get_or_from_slice_get}
use Rattle.modules_profile.specs.SystemHeader.{SystemHeader}
use Rattle.modules_profile.specs.Headers.{header_functions}
use Rattle.modules_profile.specs.Systems.{system_name}
use Rattle.modules_profile.proofs.lemmas.Members.{in-none, in-first, in-rest, in-cases, in-map, of-map, in-filter, of-filter, in-range, of-range, in-at, at-in, at-below}
use Rattle.c_syntax.specs.Tree.{ProcedureTree, StructTree}
use Rattle.c_syntax.specs.Lawful.{AreDistinct, pure_names, procedure_names}
use Rattle.c_syntax.proofs.lemmas.NameFacts.{AreDistinct-back}
use Rattle.emit_shape.specs.Names.{out_name, update_name, start_name, group_name}
use Rattle.emit_shape.specs.Heads.{Head, head_of, public_heads, out_head, out_heads, update_head, start_head, reset_head}
use Rattle.emit_shape.specs.SystemTree.{SystemTree}
use Rattle.emit_shape.specs.Relocation.{moved_procedure}
use Rattle.emit_shape.specs.Programs.{procedure_place}
use Rattle.emit_shape.specs.Assembled.{no_code, code_at, has_procedure, out_names, procedure_position, first_procedure}
use Rattle.right_claim.specs.Alone.{alone, bare_procedures, behind_bare}
use Rattle.right_linking.specs.Parts.{Parts, program_of, CodedSystem, coded_header, IsCodedAs, Views}
use Rattle.right_linking.specs.Places.{SystemsHavePlaces}
use Rattle.right_program_root.proofs.NumberedNames.{bytes-same, bytes-apart, front-tells, of-each, any-of, none-of, prefix-exact, position-less, found-by-name}

-- ---- Any system's code

module _ (a : Parts) (place : ℕ) (s : Option ℕ) (c : CodedSystem) (known : IsCodedAs a place s c) where
  pub row-is : c.local.row ≡ s
  row-is = ap (λ l. l.row) known.local.is_local

  -- a procedure is one of a group, or has a public head
  pub shown-or-group : (q : ProcedureTree) → Contains c.code.procedures q → ((g : ℕ) × (q.name ≡ group_name s g)) ⊎ Contains
      (public_heads (coded_header c)) (head_of q)
  shown-or-group q has = by q.private refl (of-each _ c.code.procedures q known.shape.rules has).private_name
    where
      by : (t : Bool) → q.private ≡ t → MatchBool t ((g : ℕ) × (q.name ≡ group_name c.local.row g)) ⊤ →
          ((g : ℕ) × (q.name ≡ group_name s g)) ⊎ Contains (public_heads (coded_header c)) (head_of q)
      by true e named = inl (named.0, named.1 ∙ ap (λ o. group_name o named.0) row-is)
      by false e named =
          let shown = in-filter (λ (z : Head). not z.private) (map head_of c.code.procedures) (head_of q)
          (in-map head_of c.code.procedures q has) (ap not e) in
          inr (Contains-permutation (filter (λ (z : Head). not z.private) (map head_of c.code.procedures)) (public_heads (coded_header c))
          (head_of q)
          (IsPermutation-sym (public_heads (coded_header c)) (filter (λ (z : Head). not z.private) (map head_of c.code.procedures))
          known.shape.heads) shown)

  -- each public head is that of a procedure
  pub head-there : (head : Head) → Contains (public_heads (coded_header c)) head →
      (j : ℕ) × (q : ProcedureTree) × (slice_get c.code.procedures j ≡ Some q) × (head_of q ≡ head)
  head-there head has =
      let shown = of-filter (λ (z : Head). not z.private) (map head_of c.code.procedures) head
      (Contains-permutation (public_heads (coded_header c)) (filter (λ (z : Head). not z.private) (map head_of c.code.procedures))
      head known.shape.heads has) in
      let made = of-map head_of c.code.procedures head shown.0 in
      let at = at-in c.code.procedures made.0 made.1 in
      (at.0, made.0, at.1, made.2)

  alone-names : (qs : List ProcedureTree) → map (λ (q : ProcedureTree). q.name) (map (moved_procedure (behind_bare c.local c.code)) qs)
      ≡ map (λ (q : ProcedureTree). q.name) qs
  alone-names [] = refl
  alone-names (q ∷ qs) = ap (λ names. q.name ∷ names) (alone-names qs)

  names-append : (qs others : List ProcedureTree) → procedure_names (qs ++ others) ≡ procedure_names qs ++ procedure_names others
  names-append [] others = refl
  names-append (q ∷ qs) others = ap (λ names. q.name ∷ names) (names-append qs others)

  own-names-differ : AreDistinct (map (λ (q : ProcedureTree). q.name) c.code.procedures)
  own-names-differ =
      subst AreDistinct (alone-names c.code.procedures)
      (AreDistinct-back (procedure_names (bare_procedures c.local))
      (procedure_names (map (moved_procedure (behind_bare c.local c.code)) c.code.procedures))
      (subst AreDistinct (names-append (bare_procedures c.local) (map (moved_procedure (behind_bare c.local c.code)) c.code.procedures))
      (AreDistinct-back (pure_names a.pures) (procedure_names (alone c.local c.code a.pures).procedures)
      (known.lawful.names a.pures a.prelude))))

  -- as many public heads as that are no more than procedures
  shown-few : length (filter (λ (z : Head). not z.private) (map head_of c.code.procedures)) ≤ length c.code.procedures
  shown-few = few c.code.procedures
    where
      few : (qs : List ProcedureTree) → length (filter (λ (z : Head). not z.private) (map head_of qs)) ≤ length qs
      few [] = omega arith
      few (q ∷ qs) = by (not q.private) (few qs)
        where
          by : (t : Bool) → length (filter (λ (z : Head). not z.private) (map head_of qs)) ≤ length qs →
              length (cond t (head_of q ∷ filter (λ (z : Head). not z.private) (map head_of qs))
              (filter (λ (z : Head). not z.private) (map head_of qs))) ≤ suc (length qs)
          by true less = omega (arith, less)
          by false less = omega (arith, less)

-- ---- The code of `top`

module _ (a : Parts) (v : Views a) (row : (coded_header (v.at None)).row ≡ None)
    (few : length (header_functions (coded_header (v.at None))) < 2 ^ 63) where
  abbrev c : CodedSystem
  c = v.at None

  abbrev h : SystemHeader
  h = coded_header c

  abbrev count : ℕ
  count = length (header_functions h)

  known : IsCodedAs a 0 None c
  known = v.each 0 None refl

  pub code-is : code_at a.codes 0 ≡ c.code
  code-is = get_or_from_slice_get a.codes 0 c.code no_code known.stands

  pub struct-name : (code_at a.codes 0).structure.name ≡ system_name None
  struct-name = ap (λ (z : SystemTree). z.structure.name) code-is ∙ ap (λ (z : StructTree). z.name) known.shape.structure
      ∙ ap system_name (row-is a 0 None c known)

  -- the procedure of a public head is found by its name, with its parameters
  pub params-found : (head : Head) → Contains (public_heads h) head →
      unwrap_or (option_map (λ (q : ProcedureTree). q.params) (find (λ q. bytes_eq q.name head.name) (code_at a.codes 0).procedures)) []
      ≡ head.params
  params-found head has =
      let there = head-there a 0 None c known head has in
      let q = there.1 in
      let is = there.3 in
      ap (λ (z : SystemTree). unwrap_or (option_map (λ (q : ProcedureTree). q.params)
      (find (λ q. bytes_eq q.name head.name) z.procedures)) []) code-is
      ∙ ap (λ name. unwrap_or (option_map (λ (q : ProcedureTree). q.params) (find (λ q. bytes_eq q.name name) c.code.procedures)) [])
      (ap (λ (z : Head). z.name) (sym is))
      ∙ ap (λ o. unwrap_or (option_map (λ (q : ProcedureTree). q.params) o) [])
      (found-by-name (λ (z : ProcedureTree). z.name) c.code.procedures there.0 q (own-names-differ a 0 None c known) there.2)
      ∙ ap (λ (z : Head). z.params) is

  -- and is in the program
  pub position-is : SystemsHavePlaces → (head : Head) → Contains (public_heads h) head →
      procedure_position a.codes 0 head.name ≡ procedure_place (program_of a) head.name
  position-is places head has =
      let there = head-there a 0 None c known head has in
      let named = subst (Contains (map (λ (z : ProcedureTree). z.name) c.code.procedures)) (ap (λ (z : Head). z.name) there.3)
      (in-map (λ (z : ProcedureTree). z.name) c.code.procedures there.1 (in-at c.code.procedures there.0 there.1 there.2)) in
      ap (λ (z : SystemTree). first_procedure a.codes 0 + unwrap_or (position_from (λ q. bytes_eq q.name head.name) 0 z.procedures) 0)
      code-is
      ∙ sym ((places a v 0 None refl).procedure head.name named)

  -- among those of the systems
  pub place-below : SystemsHavePlaces → (head : Head) → Contains (public_heads h) head →
      procedure_place (program_of a) head.name < length c.code.procedures + first_procedure a.codes 0
  place-below places head has =
      let there = head-there a 0 None c known head has in
      let named = subst (Contains (map (λ (z : ProcedureTree). z.name) c.code.procedures)) (ap (λ (z : Head). z.name) there.3)
      (in-map (λ (z : ProcedureTree). z.name) c.code.procedures there.1 (in-at c.code.procedures there.0 there.1 there.2)) in
      let found = (places a v 0 None refl).procedure head.name named in
      let some = at-below c.code.procedures there.0 there.1 there.2 in
      let less = position-less (λ (q : ProcedureTree). bytes_eq q.name head.name) c.code.procedures 0 (length c.code.procedures)
      (omega arith) (omega (arith, some)) in
      omega (arith, found, less)

  -- ---- How many functions

  pub out-shown : (j : ℕ) → 0 < j → j ≤ count → Contains (public_heads h) (out_head h j)
  out-shown j some most =
      Contains-append_left (out_heads h) (update_head h ∷ start_head h ∷ reset_head h ∷ []) (out_head h j)
      (in-map (out_head h) (range_with_len 1 count) j (in-range 1 count j (omega (arith, some)) (omega (arith, most))))

  pub update-shown : Contains (public_heads h) (update_head h)
  update-shown = Contains-append_right (out_heads h) (update_head h ∷ start_head h ∷ reset_head h ∷ []) (update_head h)
      (in-first (update_head h) (start_head h ∷ reset_head h ∷ []))

  pub start-shown : Contains (public_heads h) (start_head h)
  start-shown =
      Contains-append_right (out_heads h) (update_head h ∷ start_head h ∷ reset_head h ∷ []) (start_head h)
      (in-rest (update_head h) (start_head h) (start_head h ∷ reset_head h ∷ []) (in-first (start_head h) (reset_head h ∷ [])))

  -- a procedure of each function is there
  pub out-there : (j : ℕ) → 0 < j → j ≤ count → (q : ProcedureTree) × Contains c.code.procedures q × (q.name ≡ out_name None j)
  out-there j some most =
      let there = head-there a 0 None c known (out_head h j) (out-shown j some most) in
      (there.1, in-at c.code.procedures there.0 there.1 there.2, ap (λ (z : Head). z.name) there.3 ∙ ap (λ o. out_name o j) row)

  -- no procedure is that of a further function
  pub no-further : (q : ProcedureTree) → Contains c.code.procedures q → bytes_eq q.name (out_name None (1 + count)) ≡ false
  no-further q has = elim (shown-or-group a 0 None c known q has) [
    | inl group ↦ ap (λ n. bytes_eq n (out_name None (1 + count))) group.1
    | inr shown ↦ elim (Contains-append_cases (out_heads h) (update_head h ∷ start_head h ∷ reset_head h ∷ []) (head_of q) shown) [
      | inl out ↦
          let made = of-map (out_head h) (range_with_len 1 count) (head_of q) out in
          let within = of-range 1 count made.0 made.1 in
          ap (λ (z : Head). bytes_eq z.name (out_name None (1 + count))) (sym made.2)
          ∙ ap (λ o. bytes_eq (out_name o made.0) (out_name None (1 + count))) row
          ∙ bytes-apart (out_name None made.0) (out_name None (1 + count))
          (λ same. let one = front-tells (system_name None ++ text "_out") made.0 (1 + count) (omega (arith, within.1, few))
          (omega (arith, few)) same in omega (arith, within.1, one))
      | inr other ↦ elim (in-cases (update_head h) (head_of q) (start_head h ∷ reset_head h ∷ []) other) [
        | inl same ↦ ap (λ (z : Head). bytes_eq z.name (out_name None (1 + count))) (sym same)
            ∙ ap (λ o. bytes_eq (update_name o) (out_name None (1 + count))) row
        | inr more ↦ elim (in-cases (start_head h) (head_of q) (reset_head h ∷ []) more) [
          | inl same ↦ ap (λ (z : Head). bytes_eq z.name (out_name None (1 + count))) (sym same)
              ∙ ap (λ o. bytes_eq (start_name o) (out_name None (1 + count))) row
          | inr last ↦ elim (in-cases (reset_head h) (head_of q) [] last) [
            | inl same ↦ ap (λ (z : Head). bytes_eq z.name (out_name None (1 + count))) (sym same)
                ∙ ap (λ o. bytes_eq (system_name o ++ text "_reset") (out_name None (1 + count))) row
            | inr none ↦ absurd (in-none (head_of q) none)
          ]
        ]
      ]
    ]
  ]

  pub enough : count + 3 ≤ length c.code.procedures
  enough =
      let same = length_permutation (public_heads h) (filter (λ (z : Head). not z.private) (map head_of c.code.procedures))
      known.shape.heads in
      let long = length-append (out_heads h) (update_head h ∷ start_head h ∷ reset_head h ∷ []) in
      let outs = length-map-range_with_len (out_head h) 1 count in
      let less = shown-few a 0 None c known in
      omega (arith, same, long, outs, less)

  pub out-names : out_names (code_at a.codes 0) ≡ map (out_name None) (range_with_len 1 count)
  out-names =
      ap (λ (name : List ℕ). map (λ j. name ++ text "_out" ++ decimal j)
      (range_with_len 1 (prefix_len (λ j. has_procedure (code_at a.codes 0) (name ++ text "_out" ++ decimal j))
      (range_with_len 1 (length (code_at a.codes 0).procedures))))) struct-name
      ∙ ap (λ (z : SystemTree). map (out_name None)
      (range_with_len 1 (prefix_len (λ j. has_procedure z (out_name None j)) (range_with_len 1 (length z.procedures))))) code-is
      ∙ ap (λ n. map (out_name None) (range_with_len 1 n))
      (prefix-exact (λ j. has_procedure c.code (out_name None j)) 1 count (length c.code.procedures)
      (let long = enough in omega (arith, long))
      (λ k low high.
      let there = out-there k (omega (arith, low)) (omega (arith, high)) in
      any-of (λ (q : ProcedureTree). bytes_eq q.name (out_name None k)) c.code.procedures there.0 there.1
      (bytes-same there.0.name (out_name None k) there.2))
      (none-of (λ (q : ProcedureTree). bytes_eq q.name (out_name None (1 + count))) c.code.procedures no-further))
