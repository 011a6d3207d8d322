-- The procedures of a system in a program: each comes after the first of them as in its code, and takes what the header says.
use Rattle.std.specs.Prelude.{◌≡◌, ℕ, zero, suc, ◌+◌, ◌-◌, not, List, [], ◌∷◌, ◌++◌, map, flat_map, filter, length, slice_get, slice_index_or, Contains, Option, Some, unwrap_or, bytes_eq, refl}
use Rattle.std.specs.List.{AllZip, position_from, range_with_len}
use Rattle.std.proofs.Common.{sym, ap, subst, ◌∙◌, arith}
use Rattle.std.proofs.lemmas.Option.{get_or_from_slice_get}
use Rattle.std.proofs.lemmas.List.Elements.{Contains-append_left, Contains-append_right}
use Rattle.std.proofs.lemmas.List.Sorted.{Contains-permutation}
use Rattle.modules_profile.specs.SystemHeader.{SystemHeader}
use Rattle.modules_profile.specs.Headers.{header_functions}
use Rattle.c_syntax.specs.Tree.{ProcedureTree}
use Rattle.c_syntax.specs.Lawful.{AreDistinct, pure_names, procedure_names}
use Rattle.c_syntax.proofs.lemmas.NameFacts.{AreDistinct-back}
use Rattle.c_syntax.proofs.lemmas.NamePlaces.{position_from-named}
use Rattle.c_semantics.specs.Values.{functions_of}
use Rattle.c_semantics.specs.Machine.{routine_at, program_routines}
use Rattle.c_semantics.specs.NumberingLaws.{ProceduresStandInOrder}
use Rattle.emit_shape.specs.Heads.{Head, head_of, public_heads, out_head, out_heads, update_head, start_head, reset_head}
use Rattle.emit_shape.specs.SystemTree.{SystemTree}
use Rattle.emit_shape.specs.Relocation.{moved_procedure}
use Rattle.emit_shape.specs.Names.{value_name}
use Rattle.emit_shape.specs.Programs.{procedure_place}
use Rattle.emit_shape.specs.Assembled.{no_code, code_at, first_procedure, relocation_of, root_procedures}
use Rattle.emit_shape.specs.LocalShape.{own_position}
use Rattle.right_relation.specs.Serving.{Takes}
use Rattle.right_claim.specs.Paths.{place_in}
use Rattle.right_claim.specs.Alone.{alone, bare_procedures, behind_bare}
use Rattle.modules_profile.proofs.lemmas.Members.{in-first, in-rest, in-map, of-map, of-filter, in-at, at-in, at-left, at-right, at-map, at-below}
use Rattle.right_linking.specs.Parts.{Parts, program_of, all_systems, coded_header, IsCodedAs, Views}
use Rattle.right_linking.specs.Places.{SystemsHavePlaces}
use Rattle.right_linking.specs.Offers.{offered_by, OffersAreOfHeaders}
use Rattle.right_linking.proofs.FirstPlaces.{down, append-append, sum_below, sum_below-same, sum-behind, mapped-length}
use Rattle.right_linking.proofs.SystemPlaces.{procedures-down, code-is, below-codes}

-- ---- Places in parts from the last to the first

at-in-parts : {A : Type 0} (f : ℕ → List A) (rest : List A) (many k j : ℕ) (x : A) → slice_get (f k) j ≡ Some x →
    slice_get (flat_map f (down (many + suc k)) ++ rest) (sum_below (λ i. length (f (suc k + i))) many + j) ≡ Some x
at-in-parts f rest zero k j x at =
    let same : 0 + j ≡ j = omega arith in
    let one : 0 + suc k ≡ suc k = omega arith in
    ap (λ n. slice_get (flat_map f (down n) ++ rest) (0 + j)) one
    ∙ ap (slice_get ((f k ++ flat_map f (down k)) ++ rest)) same
    ∙ at-left (f k ++ flat_map f (down k)) rest j x (at-left (f k) (flat_map f (down k)) j x at)
at-in-parts f rest (suc many) k j x at =
    let later = at-in-parts f rest many k j x at in
    let step : suc many + suc k ≡ suc (many + suc k) = omega arith in
    let top : many + suc k ≡ suc k + many = omega arith in
    let count : sum_below (λ i. length (f (suc k + i))) (suc many) + j ≡ length (f (suc k + many))
    + (sum_below (λ i. length (f (suc k + i))) many + j) = omega arith in
    ap (λ n. slice_get (flat_map f (down n) ++ rest) (sum_below (λ i. length (f (suc k + i))) (suc many) + j)) step
    ∙ ap (λ n. slice_get ((f n ++ flat_map f (down (many + suc k))) ++ rest) (sum_below (λ i. length (f (suc k + i))) (suc many) + j)) top
    ∙ ap (λ xs. slice_get xs (sum_below (λ i. length (f (suc k + i))) (suc many) + j))
    (append-append (f (suc k + many)) (flat_map f (down (many + suc k))) rest)
    ∙ ap (slice_get (f (suc k + many) ++ (flat_map f (down (many + suc k)) ++ rest))) count
    ∙ at-right (f (suc k + many)) (flat_map f (down (many + suc k)) ++ rest) (sum_below (λ i. length (f (suc k + i))) many + j) x later

module _ (a : Parts) (v : Views a) (place : ℕ) (s : Option ℕ) (stands : slice_get (all_systems a) place ≡ Some s) where
  known : IsCodedAs a place s (v.at s)
  known = v.each place s stands

  -- an own procedure is moved to its place after the first of them
  pub own-procedure : (j : ℕ) (q : ProcedureTree) → slice_get (v.at s).code.procedures j ≡ Some q →
      slice_get (program_of a).procedures (first_procedure a.codes place + j) ≡ Some (moved_procedure (relocation_of a.codes place) q)
  own-procedure j q at =
      let many = length a.codes - suc place in
      let below = below-codes a v place s stands in
      let count : many + suc place ≡ length a.codes = omega arith in
      let sum : sum_below
      (λ i. length
      (map (moved_procedure (relocation_of a.codes (suc place + i))) (code_at a.codes (suc place + i)).procedures))
      many ≡ first_procedure a.codes place =
      sum_below-same
      (λ i. length
      (map (moved_procedure (relocation_of a.codes (suc place + i))) (code_at a.codes (suc place + i)).procedures))
      (λ i. length (code_at a.codes (suc place + i)).procedures) many
      (λ i less. mapped-length (moved_procedure (relocation_of a.codes (suc place + i))) (code_at a.codes (suc place + i)).procedures)
      ∙ sym (sum-behind (λ (z : SystemTree). length z.procedures) no_code a.codes place) in
      ap (λ ps. slice_get ps (first_procedure a.codes place + j)) (procedures-down a (many + suc place) count)
      ∙ ap (λ n.
      slice_get (flat_map (λ i. map (moved_procedure (relocation_of a.codes i)) (code_at a.codes i).procedures)
      (down (many + suc place)) ++ root_procedures a.codes a.root a.hyper) (n + j)) (sym sum)
      ∙ at-in-parts (λ i. map (moved_procedure (relocation_of a.codes i)) (code_at a.codes i).procedures)
      (root_procedures a.codes a.root a.hyper) many place j (moved_procedure (relocation_of a.codes place) q)
      (at-map (moved_procedure (relocation_of a.codes place)) (code_at a.codes place).procedures j q
      (ap (λ (z : SystemTree). slice_get z.procedures j) (code-is a place s (v.at s) known) ∙ at))

  -- ---- Names of own procedures

  alone-names : (qs : List ProcedureTree) →
      map (λ (q : ProcedureTree). q.name) (map (moved_procedure (behind_bare (v.at s).local (v.at s).code)) qs)
      ≡ map (λ (q : ProcedureTree). q.name) qs
  alone-names [] = refl
  alone-names (q ∷ qs) = ap (λ names. q.name ∷ names) (alone-names qs)

  map-append : (qs others : List ProcedureTree) → procedure_names (qs ++ others) ≡ procedure_names qs ++ procedure_names others
  map-append [] others = refl
  map-append (q ∷ qs) others = ap (λ names. q.name ∷ names) (map-append qs others)

  pub own-names-differ : AreDistinct (map (λ (q : ProcedureTree). q.name) (v.at s).code.procedures)
  own-names-differ =
      subst AreDistinct (alone-names (v.at s).code.procedures)
      (AreDistinct-back (procedure_names (bare_procedures (v.at s).local))
      (procedure_names (map (moved_procedure (behind_bare (v.at s).local (v.at s).code)) (v.at s).code.procedures))
      (subst AreDistinct
      (map-append (bare_procedures (v.at s).local)
      (map (moved_procedure (behind_bare (v.at s).local (v.at s).code)) (v.at s).code.procedures))
      (AreDistinct-back (pure_names a.pures) (procedure_names (alone (v.at s).local (v.at s).code a.pures).procedures)
      (known.lawful.names a.pures a.prelude))))

  -- a procedure is found by its name
  pub own-place : (j : ℕ) (q : ProcedureTree) → slice_get (v.at s).code.procedures j ≡ Some q → own_position (v.at s).code q.name ≡ j
  own-place j q at =
      let named = at-map (λ (z : ProcedureTree). z.name) (v.at s).code.procedures j q at in
      let here : slice_index_or (map (λ (z : ProcedureTree). z.name) (v.at s).code.procedures) j [] ≡ q.name =
      get_or_from_slice_get (map (λ (z : ProcedureTree). z.name) (v.at s).code.procedures) j q.name [] named in
      let same : 0 + j ≡ j = omega arith in
      ap (λ n. unwrap_or (position_from (λ (z : ProcedureTree). bytes_eq z.name n) 0 (v.at s).code.procedures) 0) (sym here)
      ∙ ap (λ o. unwrap_or o 0)
      (position_from-named (λ (z : ProcedureTree). z.name) (v.at s).code.procedures 0 j own-names-differ
      (at-below (map (λ (z : ProcedureTree). z.name) (v.at s).code.procedures) j q.name named)) ∙ same

  -- each public head is that of one of them
  pub head-there : (head : Head) → Contains (public_heads (coded_header (v.at s))) head →
      (j : ℕ) × (q : ProcedureTree) × (slice_get (v.at s).code.procedures j ≡ Some q) × (head_of q ≡ head)
  head-there head has =
      let shown = of-filter (λ (z : Head). not z.private) (map head_of (v.at s).code.procedures) head
      (Contains-permutation (public_heads (coded_header (v.at s)))
      (filter (λ (z : Head). not z.private) (map head_of (v.at s).code.procedures)) head known.shape.heads has) in
      let made = of-map head_of (v.at s).code.procedures head shown.0 in
      let at = at-in (v.at s).code.procedures made.0 made.1 in
      (at.0, made.0, at.1, made.2)

  module _ (order : ProceduresStandInOrder) (places : SystemsHavePlaces) where
    -- so the procedure of that name takes what the head says
    pub takes : (head : Head) → Contains (public_heads (coded_header (v.at s))) head → Takes (offered_by (program_of a) head.name) head
    takes head has =
        let (j, q, at, is) = head-there head has in
        let name : q.name ≡ head.name = ap (λ (z : Head). z.name) is in
        let found : procedure_place (program_of a) head.name ≡ first_procedure a.codes place + j =
        (places a v place s stands).procedure head.name
        (subst (Contains (map (λ (z : ProcedureTree). z.name) (v.at s).code.procedures)) name
        (in-map (λ (z : ProcedureTree). z.name) (v.at s).code.procedures q (in-at (v.at s).code.procedures j q at)))
        ∙ ap (λ n. first_procedure a.codes place + n) (ap (own_position (v.at s).code) (sym name) ∙ own-place j q at) in
        let zero_more : first_procedure a.codes place + j ≡ 0 + (first_procedure a.codes place + j) = omega arith in
        let standing =
        (order (program_of a).structs (functions_of [] (program_of a).pures) [] (program_of a).procedures).routine
        (first_procedure a.codes place + j) (moved_procedure (relocation_of a.codes place) q)
        (own-procedure j q at) in
        ap (λ k. (routine_at (program_routines (program_of a)) k).params) (found ∙ zero_more)
        ∙ standing.params ∙ ap (λ (z : Head). map (λ p. p.type) z.params) is

zip-made : {A B C : Type 0} (P : B → C → Type 0) (f : A → B) (g : A → C) (xs : List A) →
    ((x : A) → Contains xs x → P (f x) (g x)) → AllZip P (map f xs) (map g xs)
zip-made P f g [] all = tt
zip-made P f g (x ∷ xs) all = (all x (in-first x xs), zip-made P f g xs (λ y has. all y (in-rest x y xs has)))

pub offers_are_of_headers : ProceduresStandInOrder → SystemsHavePlaces → OffersAreOfHeaders
offers_are_of_headers order places a v place s stands =
    let h : SystemHeader = coded_header (v.at s) in
    let rest : List Head = update_head h ∷ start_head h ∷ reset_head h ∷ [] in
    let take_head = λ (head : Head) (has : Contains (public_heads h) head). takes a v place s stands order places head has in
    record {
      outs = zip-made Takes (λ j. offered_by (program_of a) (out_head h j).name) (out_head h)
          (range_with_len 1 (length (header_functions h)))
          (λ j has.
          take_head (out_head h j)
          (Contains-append_left (out_heads h) rest (out_head h j)
          (in-map (out_head h) (range_with_len 1 (length (header_functions h))) j has)));
      update =
          take_head (update_head h)
          (Contains-append_right (out_heads h) rest (update_head h)
          (in-first (update_head h) (start_head h ∷ reset_head h ∷ [])));
      start = take_head (start_head h)
          (Contains-append_right (out_heads h) rest (start_head h)
          (in-rest (update_head h) (start_head h) (start_head h ∷ reset_head h ∷ [])
          (in-first (start_head h) (reset_head h ∷ []))));
      reset = take_head (reset_head h)
          (Contains-append_right (out_heads h) rest (reset_head h)
          (in-rest (update_head h) (reset_head h) (start_head h ∷ reset_head h ∷ [])
          (in-rest (start_head h) (reset_head h) (reset_head h ∷ []) (in-first (reset_head h) []))));
      places = mapped-length (λ o. place_in (program_of a) h.row (value_name o.0)) h.outputs;
    }
