-- As many output procedures of `top` are in the program without a gap as it has functions.
use Rattle.std.specs.Prelude.{◌≡◌, ℕ, suc, ◌+◌, ◌^◌, ◌<◌, ◌≤◌, false, List, [], ◌∷◌, ◌++◌, map, flat_map, reverse, length, slice_get, slice_index_or, Contains, Option, Some, None, bytes_eq, codes as text, decimal, refl}
use Rattle.std.specs.List.{AllZip, range_with_len, list_any}
use Rattle.std.proofs.Common.{sym, ap, subst, ◌∙◌, arith, inl, inr}
use Rattle.std.proofs.lemmas.List.{append_assoc, length-append, reverse-append}
use Rattle.std.proofs.lemmas.List.Elements.{Contains-append_left, Contains-append_right, Contains-append_cases}
use Rattle.std.proofs.lemmas.List.Sorted.{Contains-permutation, IsPermutation-sym, IsPermutation-reverse}
use Rattle.std.proofs.lemmas.Option.{get_or_from_slice_get}
use Rattle.std.proofs.lemmas.Grind.{flat_map-append}
use Rattle.modules_profile.specs.SystemHeader.{SystemHeader}
use Rattle.modules_profile.specs.Headers.{header_functions}
use Rattle.modules_profile.specs.Systems.{system_name}
use Rattle.modules_profile.proofs.lemmas.Members.{in-none, in-cases, in-map, of-map, in-range, of-range, below-at, at-below}
use Rattle.modules_profile.proofs.lemmas.OwnRows.{of-flat_map}
use Rattle.c_syntax.specs.Tree.{ProcedureTree}
use Rattle.emit_shape.specs.Names.{out_name}
use Rattle.emit_shape.specs.Heads.{Head, head_of, public_heads, out_head, out_heads, update_head, start_head, reset_head}
use Rattle.emit_shape.specs.Faces.{out_count}
use Rattle.emit_shape.specs.Programs.{no_procedure}
use Rattle.emit_shape.specs.SystemTree.{SystemTree}
use Rattle.emit_shape.specs.Relocation.{moved_procedure}
use Rattle.emit_shape.specs.Assembled.{no_code, code_at, from_last, relocation_of, root_procedures}
use Rattle.right_claim.specs.Assembly.{IsCodeOf}
use Rattle.right_linking.specs.Parts.{Parts, program_of, all_systems, CodedSystem, coded_header, IsCodedAs, Views}
use Rattle.right_program_root.proofs.NumberedNames.{bytes-same, any-of, none-of, prefix-exact}
use Rattle.right_program_root.proofs.PortedRows.{mapped-length}
use Rattle.right_program_root.proofs.TopCode.{row-is, shown-or-group, code-is, out-there, no-further, enough}

-- ---- Lengths of parts

reversed-length : {A B : Type 0} (f : A → List B) (xs : List A) → length (flat_map f (reverse xs)) ≡ length (flat_map f xs)
reversed-length f [] = refl
reversed-length f (x ∷ xs) =
    let rest = reversed-length f xs in
    let sum = length-append (flat_map f (reverse xs)) (f x ++ []) in
    let one = length-append (f x) [] in
    let both = length-append (f x) (flat_map f xs) in
    ap (λ ys. length (flat_map f ys)) (reverse-append (x ∷ []) xs) ∙ ap length (flat_map-append f (reverse xs) (x ∷ []))
    ∙ total (length (f x)) sum one both rest
  where
    total : (n : ℕ) → length (flat_map f (reverse xs) ++ (f x ++ [])) ≡ length (flat_map f (reverse xs)) + length (f x ++ []) →
        length (f x ++ []) ≡ n + 0 →
        length (f x ++ flat_map f xs) ≡ n + length (flat_map f xs) → length (flat_map f (reverse xs)) ≡ length (flat_map f xs) →
        length (flat_map f (reverse xs) ++ (f x ++ [])) ≡ length (f x ++ flat_map f xs)
    total n sum one both rest = omega (arith, sum, one, both, rest)

module _ (codes : List SystemTree) where
  abbrev pub moved_all : ℕ → List ProcedureTree
  moved_all i = map (moved_procedure (relocation_of codes i)) (code_at codes i).procedures

  ranged-length : (cs : List SystemTree) (k : ℕ) → ((j : ℕ) → code_at codes (k + j) ≡ code_at cs j) →
      length (flat_map moved_all (range_with_len k (length cs))) ≡ length (flat_map (λ (c : SystemTree). c.procedures) cs)
  ranged-length [] k same = refl
  ranged-length (c ∷ cs) k same =
      let here : k ≡ k + 0 = omega arith in
      let first = length-append (moved_all k) (flat_map moved_all (range_with_len (k + 1) (length cs))) in
      let second = length-append c.procedures (flat_map (λ (z : SystemTree). z.procedures) cs) in
      let moved = mapped-length (moved_procedure (relocation_of codes k)) (code_at codes k).procedures
      ∙ ap (λ (z : SystemTree). length z.procedures) (ap (code_at codes) here ∙ same 0) in
      let rest = ranged-length cs (k + 1) (λ j. let next : k + 1 + j ≡ k + suc j = omega arith in ap (code_at codes) next ∙ same (suc j)) in
      omega (arith, first, second, moved, rest)

  -- the systems' procedures are as many in the program as in the codes
  pub systems-procedures : length (flat_map moved_all (from_last codes)) ≡ length (flat_map (λ (c : SystemTree). c.procedures) codes)
  systems-procedures =
      reversed-length moved_all (range_with_len 0 (length codes))
      ∙ ranged-length codes 0 (λ j. let same : 0 + j ≡ j = omega arith in ap (code_at codes) same)

-- ---- Names

public-begins : (h : SystemHeader) (head : Head) → Contains (public_heads h) head →
    (rest : List ℕ) × (head.name ≡ system_name h.row ++ rest)
public-begins h head has = elim (Contains-append_cases (out_heads h) (update_head h ∷ start_head h ∷ reset_head h ∷ []) head has) [
  | inl out ↦
      let made = of-map (out_head h) (range_with_len 1 (length (header_functions h))) head out in (
        text "_out" ++ decimal made.0,
        ap (λ (z : Head). z.name) (sym made.2) ∙ append_assoc (system_name h.row) (text "_out")
            (decimal made.0),
      )
  | inr other ↦ elim (in-cases (update_head h) head (start_head h ∷ reset_head h ∷ []) other) [
    | inl same ↦ (text "_update", ap (λ (z : Head). z.name) (sym same))
    | inr more ↦ elim (in-cases (start_head h) head (reset_head h ∷ []) more) [
      | inl same ↦ (text "_start", ap (λ (z : Head). z.name) (sym same))
      | inr last ↦ elim (in-cases (reset_head h) head [] last) [
        | inl same ↦ (text "_reset", ap (λ (z : Head). z.name) (sym same))
        | inr none ↦ absurd (in-none head none)
      ]
    ]
  ]
]

-- no procedure of a subsystem has the name of one of `top`
other-name : (a : Parts) (place e : ℕ) (c : CodedSystem) (known : IsCodedAs a place (Some e) c) (k : ℕ) (q : ProcedureTree) →
    Contains c.code.procedures q → bytes_eq q.name (out_name None k) ≡ false
other-name a place e c known k q has = elim (shown-or-group a place (Some e) c known q has) [
  | inl group ↦ ap (λ n. bytes_eq n (out_name None k)) group.1
  | inr shown ↦
      let begins = public-begins (coded_header c) (head_of q) shown in
      ap (λ n. bytes_eq n (out_name None k)) (begins.1 ∙ ap (λ o. system_name o ++ begins.0) (row-is a place (Some e) c known))
]

module _ (a : Parts) (v : Views a) (row : (coded_header (v.at None)).row ≡ None)
    (few : length (header_functions (coded_header (v.at None))) < 2 ^ 63) where
  abbrev count : ℕ
  count = length (header_functions (coded_header (v.at None)))

  zipped : {A B : Type 0} (P : A → B → Type 0) (xs : List A) (ys : List B) → AllZip P xs ys → length xs ≡ length ys
  zipped P [] [] all = refl
  zipped P [] (y ∷ ys) all = absurd all
  zipped P (x ∷ xs) [] all = absurd all
  zipped P (x ∷ xs) (y ∷ ys) all = ap suc (zipped P xs ys all.1)

  below-codes : 0 < length a.codes
  below-codes = at-below a.codes 0 (v.at None).code (v.each 0 None refl).stands

  no-further-at : (i : ℕ) → i < length a.codes → (q : ProcedureTree) → Contains (code_at a.codes i).procedures q →
      bytes_eq q.name (out_name None (1 + count)) ≡ false
  no-further-at i below q has =
      let same = zipped (IsCodeOf a.model) (all_systems a) a.codes a.can.each in
      let system = below-at (all_systems a) i (omega (arith, below, same)) in
      by system.0 system.1
    where
      by : (s : Option ℕ) → slice_get (all_systems a) i ≡ Some s → bytes_eq q.name (out_name None (1 + count)) ≡ false
      by None at =
          let is = get_or_from_slice_get a.codes i (v.at None).code no_code (v.each i None at).stands in
          no-further a v row few q (subst (λ (z : SystemTree). Contains z.procedures q) is has)
      by (Some e) at =
          let is = get_or_from_slice_get a.codes i (v.at (Some e)).code no_code (v.each i (Some e) at).stands in
          other-name a i e (v.at (Some e)) (v.each i (Some e) at) (1 + count) q (subst (λ (z : SystemTree). Contains z.procedures q) is has)

  abbrev start : ProcedureTree
  start = slice_index_or (root_procedures a.codes a.root a.hyper) 0 no_procedure

  abbrev step : ProcedureTree
  step = slice_index_or (root_procedures a.codes a.root a.hyper) 1 no_procedure

  none-further : (q : ProcedureTree) → Contains (program_of a).procedures q → bytes_eq q.name (out_name None (1 + count)) ≡ false
  none-further q has = elim (Contains-append_cases (flat_map (moved_all a.codes) (from_last a.codes))
      (root_procedures a.codes a.root a.hyper) q has) [
        | inl own ↦
            let part = of-flat_map (moved_all a.codes) (from_last a.codes) q own in
            let listed = Contains-permutation (from_last a.codes) (range_with_len 0 (length a.codes)) part.0
            (IsPermutation-sym (range_with_len 0 (length a.codes)) (from_last a.codes)
            (IsPermutation-reverse (range_with_len 0 (length a.codes)))) part.1 in
            let within = of-range 0 (length a.codes) part.0 listed in
            let made = of-map (moved_procedure (relocation_of a.codes part.0)) (code_at a.codes part.0).procedures q part.2 in
            ap (λ (z : ProcedureTree). bytes_eq z.name (out_name None (1 + count))) (sym made.2)
            ∙ no-further-at part.0 (omega (arith, within.1)) made.0 made.1
        | inr root ↦ elim (in-cases start q (step ∷ []) root) [
          | inl same ↦ ap (λ (z : ProcedureTree). bytes_eq z.name (out_name None (1 + count))) (sym same)
          | inr more ↦ elim (in-cases step q [] more) [
            | inl same ↦ ap (λ (z : ProcedureTree). bytes_eq z.name (out_name None (1 + count))) (sym same)
            | inr none ↦ absurd (in-none q none)
          ]
        ]
      ]

  in-flat : {A B : Type 0} (f : A → List B) (xs : List A) (x : A) (y : B) → Contains xs x → Contains (f x) y → Contains (flat_map f xs) y
  in-flat f [] x y has at = absurd (in-none x has)
  in-flat f (z ∷ xs) x y has at = elim (in-cases z x xs has) [
    | inl same ↦ Contains-append_left (f z) (flat_map f xs) y (subst (λ w. Contains (f w) y) (sym same) at)
    | inr more ↦ Contains-append_right (f z) (flat_map f xs) y (in-flat f xs x y more at)
  ]

  -- each procedure of `top` is in the program, except for what it names
  pub top-there : (q : ProcedureTree) → Contains (v.at None).code.procedures q →
      Contains (program_of a).procedures (moved_procedure (relocation_of a.codes 0) q)
  top-there q has =
      Contains-append_left (flat_map (moved_all a.codes) (from_last a.codes)) (root_procedures a.codes a.root a.hyper)
      (moved_procedure (relocation_of a.codes 0) q)
      (in-flat (moved_all a.codes) (from_last a.codes) 0 (moved_procedure (relocation_of a.codes 0) q)
      (Contains-permutation (range_with_len 0 (length a.codes)) (from_last a.codes) 0
      (IsPermutation-reverse (range_with_len 0 (length a.codes)))
      (in-range 0 (length a.codes) 0 (omega arith) (let below = below-codes in omega (arith, below))))
      (in-map (moved_procedure (relocation_of a.codes 0)) (code_at a.codes 0).procedures q
      (subst (λ (z : SystemTree). Contains z.procedures q) (sym (code-is a v row few)) has)))

  -- the codes have as many procedures as that of `top`, and more
  pub top-first : (first : ℕ) → length (v.at None).code.procedures + first ≡ length (flat_map (λ (c : SystemTree). c.procedures) a.codes)
      → length (v.at None).code.procedures ≤ length (program_of a).procedures
  top-first first sum =
      let all = length-append (flat_map (moved_all a.codes) (from_last a.codes)) (root_procedures a.codes a.root a.hyper) in
      let systems = systems-procedures a.codes in
      omega (arith, sum, all, systems)

  pub counted : (first : ℕ) → length (v.at None).code.procedures + first ≡ length (flat_map (λ (c : SystemTree). c.procedures) a.codes) →
      out_count (program_of a) None ≡ count
  counted first sum =
      prefix-exact (λ j. list_any (λ (q : ProcedureTree). bytes_eq q.name (out_name None j)) (program_of a).procedures) 1 count
      (length (program_of a).procedures)
      (let long = top-first first sum in let some = enough a v row few in omega (arith, long, some))
      (λ k low high.
      let there = out-there a v row few k (omega (arith, low)) (omega (arith, high)) in
      any-of (λ (q : ProcedureTree). bytes_eq q.name (out_name None k)) (program_of a).procedures
      (moved_procedure (relocation_of a.codes 0) there.0) (top-there there.0 there.1)
      (bytes-same there.0.name (out_name None k) there.2))
      (none-of (λ (q : ProcedureTree). bytes_eq q.name (out_name None (1 + count))) (program_of a).procedures none-further)
