-- The output procedures of a system in the program: as many as its functions, and no other has such a name.
use Rattle.std.specs.Prelude.{◌≡◌, ◌≢◌, ℕ, zero, suc, ◌+◌, ◌<◌, ◌≤◌, false, List, [], ◌∷◌, ◌++◌, map, flat_map, length, slice_get, Contains, Option, Some, codes as text, decimal, bytes_eq, refl}
use Rattle.std.specs.List.{list_any, range_with_len}
use Rattle.std.proofs.Common.{sym, ap, subst, ◌∙◌, arith, inl, inr, true≢false}
use Rattle.std.proofs.lemmas.Bool.{cases_eq}
use Rattle.std.proofs.lemmas.List.Elements.{Contains-append_left, Contains-append_cases}
use Rattle.std.proofs.lemmas.List.FromFn.{length-range_with_len}
use Rattle.std.proofs.lemmas.List.Sums.{prefix_len-le-length}
use Rattle.modules_profile.specs.Headers.{header_functions}
use Rattle.modules_profile.specs.SystemHeader.{SystemHeader}
use Rattle.modules_profile.specs.Systems.{system_name}
use Rattle.modules_profile.proofs.lemmas.LawfulSteps.{of-flat_map}
use Rattle.modules_profile.proofs.lemmas.Members.{in-map, of-map, in-range, in-at, at-below, below-at}
use Rattle.c_syntax.specs.Tree.{ProcedureTree}
use Rattle.emit_shape.specs.Faces.{out_count, out_places}
use Rattle.emit_shape.specs.Heads.{Head, head_of, out_head, out_heads, update_head, start_head, reset_head}
use Rattle.emit_shape.specs.Names.{root_name, out_name}
use Rattle.emit_shape.specs.Programs.{procedure_place}
use Rattle.emit_shape.specs.Relocation.{moved_procedure}
use Rattle.emit_shape.specs.SystemTree.{SystemTree}
use Rattle.emit_shape.specs.Assembled.{code_at, has_procedure, numbered_name, first_procedure, relocation_of, root_procedures}
use Rattle.right_linking.specs.Parts.{Parts, program_of, diagram, all_systems, coded_header, IsCodedAs, Views}
use Rattle.right_linking.specs.Places.{SystemsHavePlaces}
use Rattle.right_linking.proofs.lemmas.AssembledNames.{bytes-same, bytes-apart, front-one, system-plain, root-apart, procedures-apart, numbered, row-is, procedure-belongs}
use Rattle.right_linking.proofs.lemmas.AssembledPlaces.{append-append, member, down, in-down, code-is, stands-once, system-of, procedures-down, own-procedure}
use Rattle.right_linking.proofs.lemmas.AssembledChildren.{prefix-range, any-true, any-false, name-apart, prefix-is}
use Rattle.right_program_interfaces.proofs.Functions.{few-functions}
use Rattle.right_program_interfaces.proofs.StandingCode.{public-there}

module _ (places : SystemsHavePlaces) (a : Parts) (v : Views a) (place : ℕ) (s : Option ℕ)
    (stands : slice_get (all_systems a) place ≡ Some s) where
  known : IsCodedAs a place s (v.at s)
  known = v.each place s stands

  abbrev code : SystemTree
  code = (v.at s).code

  abbrev pub header : SystemHeader
  header = coded_header (v.at s)

  abbrev pub count : ℕ
  count = length (header_functions header)

  row : header.row ≡ s
  row = row-is a place s (v.at s) known

  -- function k has an own procedure, which is found by its name
  pub record HasOut (k : ℕ) : Type 0 where
    pub number : ℕ
    pub own : ProcedureTree
    pub at : slice_get code.procedures number ≡ Some own
    pub head : head_of own ≡ out_head header k
    pub found : procedure_place (program_of a) (out_name s k) ≡ first_procedure a.codes place + number

  pub out-there : (k : ℕ) → 1 ≤ k → k < 1 + count → HasOut k
  out-there k low high =
      let (j, q, at, is, found) = public-there places a v place s stands (out_head header k)
      (Contains-append_left (out_heads header) (update_head header ∷ start_head header ∷ reset_head header ∷ []) (out_head header k)
      (in-map (out_head header) (range_with_len 1 count) k (in-range 1 count k low high))) in
      record { number = j; own = q; at = at; head = is; found = ap (λ o. procedure_place (program_of a) (out_name o k)) (sym row) ∙ found }

  -- ---- No procedure of the program has the name of one function more

  abbrev next_name : List ℕ
  next_name = out_name s (1 + count)

  next-belongs : next_name ≡ system_name s ++ 95 ∷ (text "out" ++ decimal (1 + count))
  next-belongs = append-append (system_name s) (95 ∷ text "out") (decimal (1 + count))

  own-apart : (q : ProcedureTree) → Contains code.procedures q → bytes_eq q.name next_name ≡ false
  own-apart q has = bytes-apart q.name next_name (λ same. name-apart a v place s stands (few-functions a v place s stands) q has
      (same ∙ ap (λ o. out_name o (1 + count)) (sym row)))

  of-code : (i : ℕ) → i < length a.codes → (q : ProcedureTree) → Contains (code_at a.codes i).procedures q →
      bytes_eq q.name next_name ≡ false
  of-code i below q has = elim (cases_eq i place) [
    | inl same ↦ own-apart q (subst (λ (z : SystemTree). Contains z.procedures q) (ap (code_at a.codes) same
        ∙ code-is a place s (v.at s) known) has)
    | inr other ↦
        let t = system-of a i below in
        let theirs = procedure-belongs a i t.0 (v.at t.0) (v.each i t.0 t.1) q (subst (λ (z : SystemTree). Contains z.procedures q)
        (code-is a i t.0 (v.at t.0) (v.each i t.0 t.1)) has) in
        let apart : s ≢ t.0 = λ same. other (stands-once (diagram a).rows i place s (t.1 ∙ ap Some (sym same)) stands) in
        bytes-apart q.name next_name
        (λ same. procedures-apart s t.0 (text "out" ++ decimal (1 + count)) theirs.0 (numbered a place s stands)
        (numbered a i t.0 t.1) apart (sym next-belongs ∙ sym same ∙ theirs.1))
  ]

  root-other : (rest : List ℕ) → bytes_eq (root_name ++ 95 ∷ rest) next_name ≡ false
  root-other rest =
      bytes-apart (root_name ++ 95 ∷ rest) next_name
      (λ same. true≢false (sym (bytes-same (system_name s) root_name
      (front-one (system_name s) root_name (text "out" ++ decimal (1 + count)) rest (system-plain s (numbered a place s stands)) refl
      (sym next-belongs ∙ sym same))) ∙ root-apart s))

  abbrev procedures_at : ℕ → List ProcedureTree
  procedures_at i = map (moved_procedure (relocation_of a.codes i)) (code_at a.codes i).procedures

  any-other : (q : ProcedureTree) → Contains (program_of a).procedures q → bytes_eq q.name next_name ≡ false
  any-other q has = elim (Contains-append_cases (flat_map procedures_at (down (length a.codes))) (root_procedures a.codes a.root a.hyper) q
      (subst (λ qs. Contains qs q) (procedures-down a (length a.codes) refl) has)) [
        | inl inside ↦
            let (i, among, part) = of-flat_map procedures_at (down (length a.codes)) q inside in
            let from = of-map (moved_procedure (relocation_of a.codes i)) (code_at a.codes i).procedures q part in
            ap (λ (z : ProcedureTree). bytes_eq z.name next_name) (sym from.2) ∙ of-code i (in-down (length a.codes) i among) from.0 from.1
        | inr last ↦
            member (λ (z : ProcedureTree). bytes_eq z.name next_name ≡ false) (root_procedures a.codes a.root a.hyper) q
            (root-other (text "start"), (root-other (text "step"), tt)) last
      ]

  -- ---- How many

  few : count ≤ length (program_of a).procedures
  few =
      let own = prefix_len-le-length (λ j. has_procedure code (numbered_name code j)) (range_with_len 1 (length code.procedures)) in
      let is = prefix-is a v place s stands (few-functions a v place s stands) in
      let long = length-range_with_len 1 (length code.procedures) in
      let inside = within (length code.procedures) refl in
      omega (arith, own, is, long, inside)
    where
      within : (n : ℕ) → length code.procedures ≡ n → n ≤ length (program_of a).procedures
      within zero e = omega arith
      within (suc n) e =
          let (q, at) = below-at code.procedures n (omega (arith, e)) in
          let below = at-below (program_of a).procedures (first_procedure a.codes place + n)
          (moved_procedure (relocation_of a.codes place) q) (own-procedure a v place s stands n q at) in
          omega (arith, below)

  pub counted : out_count (program_of a) s ≡ count
  counted =
      prefix-range (λ j. list_any (λ (q : ProcedureTree). bytes_eq q.name (out_name s j)) (program_of a).procedures) 1
      (length (program_of a).procedures) count few
      (λ k low high.
      let out = out-there k low high in
      let moved = moved_procedure (relocation_of a.codes place) out.own in
      any-true (λ (q : ProcedureTree). bytes_eq q.name (out_name s k)) (program_of a).procedures moved
      (in-at (program_of a).procedures (first_procedure a.codes place + out.number) moved
      (own-procedure a v place s stands out.number out.own out.at))
      (bytes-same out.own.name (out_name s k) (ap (λ (z : Head). z.name) out.head ∙ ap (λ o. out_name o k) row)))
      (any-false (λ (q : ProcedureTree). bytes_eq q.name next_name) (program_of a).procedures any-other)

  pub places-are : out_places (program_of a) s ≡ map (λ k. procedure_place (program_of a) (out_name s k)) (range_with_len 1 count)
  places-are = ap (λ n. map (λ k. procedure_place (program_of a) (out_name s k)) (range_with_len 1 n)) counted
