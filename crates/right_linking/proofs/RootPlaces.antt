-- The root's struct is after those of the systems, and its procedures after theirs.
use Rattle.std.specs.Prelude.{◌≡◌, ℕ, zero, suc, ◌+◌, ◌<◌, Bool, false, List, [], ◌∷◌, ◌++◌, map, flat_map, length, sum_by, Contains, Some, unwrap_or, codes as text, bytes_eq, refl}
use Rattle.std.specs.List.{position_from}
use Rattle.std.proofs.Common.{sym, ap, subst, ◌∙◌, arith, inl, inr, true≢false}
use Rattle.std.proofs.lemmas.List.{length-append}
use Rattle.std.proofs.lemmas.List.Sums.{sum_by-cons}
use Rattle.std.proofs.lemmas.Option.{get_or_from_slice_get}
use Rattle.modules_profile.specs.Systems.{system_name}
use Rattle.c_syntax.specs.Tree.{StructTree, no_struct, struct_fields, ProcedureTree}
use Rattle.c_syntax.specs.RootFields.{procedure_named, root_struct, root_fields}
use Rattle.emit_shape.specs.Names.{root_name}
use Rattle.emit_shape.specs.SystemTree.{SystemTree}
use Rattle.emit_shape.specs.Relocation.{moved_procedure}
use Rattle.emit_shape.specs.Assembled.{no_code, code_at, moved_struct, relocation_of, root_structure, root_procedures}
use Rattle.modules_profile.proofs.lemmas.Members.{in-none, in-cases, of-map, at-right}
use Rattle.right_linking.specs.Parts.{Parts, program_of, Views}
use Rattle.right_linking.specs.Places.{RootStandsLast}
use Rattle.right_linking.proofs.SystemNames.{bytes-same, bytes-apart, front-one, system-plain, root-apart}
use Rattle.right_linking.proofs.FirstPlaces.{down, IsFirst, NonePass, first-position, first-behind, mapped-length, sum_below, sum_below-same, sum-by-places}
use Rattle.right_linking.proofs.SystemPlaces.{all-made, numbered, system-of, procedure-belongs, code-is, struct-name, structs-down, procedures-down}

pub in-down : (n i : ℕ) → Contains (down n) i → i < n
in-down zero i has = absurd (in-none i has)
in-down (suc n) i has = elim (in-cases n i (down n) has) [ inl same ↦ omega arith | inr more ↦ let less = in-down n i more in omega arith ]

pub length-down : (n : ℕ) → length (down n) ≡ n
length-down zero = refl
length-down (suc n) = ap suc (length-down n)

none-both : {A : Type 0} (test : A → Bool) (xs ys : List A) → NonePass test xs → NonePass test ys → NonePass test (xs ++ ys)
none-both test [] ys one two = two
none-both test (x ∷ xs) ys one two = (one.0, none-both test xs ys one.1 two)

none-parts : {A : Type 0} (test : A → Bool) (f : ℕ → List A) (n : ℕ) → ((i : ℕ) → i < n → NonePass test (f i)) →
    NonePass test (flat_map f (down n))
none-parts test f zero none = tt
none-parts test f (suc n) none =
    none-both test (f n) (flat_map f (down n)) (none n (omega arith))
    (none-parts test f n (λ i less. none i (omega arith)))

length-parts : {A : Type 0} (f : ℕ → List A) (n : ℕ) → length (flat_map f (down n)) ≡ sum_below (λ i. length (f i)) n
length-parts f zero = refl
length-parts f (suc n) = length-append (f n) (flat_map f (down n)) ∙ ap (λ m. length (f n) + m) (length-parts f n)

length-all : (codes : List SystemTree) →
    length (flat_map (λ c. c.procedures) codes) ≡ sum_by (λ (c : SystemTree). length c.procedures) codes
length-all [] = refl
length-all (c ∷ codes) =
    length-append c.procedures (flat_map (λ z. z.procedures) codes) ∙ ap (λ m. length c.procedures + m) (length-all codes)
    ∙ sym (sum_by-cons (λ (z : SystemTree). length z.procedures) c codes)

module _ (a : Parts) (v : Views a) where
  -- what the last of the structs is
  abbrev root_tree : StructTree
  root_tree = root_structure a.codes a.root a.hyper

  abbrev moved_at : ℕ → StructTree
  moved_at i = moved_struct a.codes (code_at a.codes i)

  none-root : NonePass (λ (st : StructTree). bytes_eq st.name (text "root")) (map moved_at (down (length a.codes)))
  none-root = all-made (λ (st : StructTree). bytes_eq st.name (text "root") ≡ false) (map moved_at (down (length a.codes)))
      (λ st is.
      let from = of-map moved_at (down (length a.codes)) st is in
      let t = system-of a from.0 (in-down (length a.codes) from.0 from.1) in
      ap (λ (z : StructTree). bytes_eq z.name (text "root")) (sym from.2)
      ∙ ap (λ n. bytes_eq n (text "root")) (struct-name a from.0 t.0 (v.at t.0) (v.each from.0 t.0 t.1)) ∙ root-apart t.0)

  long : length (map moved_at (down (length a.codes))) ≡ length a.codes
  long = mapped-length moved_at (down (length a.codes)) ∙ length-down (length a.codes)

  struct-last : root_struct (program_of a) ≡ length a.codes
  struct-last =
      let first : IsFirst (λ (st : StructTree). bytes_eq st.name (text "root")) (root_tree ∷ []) 0 = refl in
      ap (λ structs. unwrap_or (position_from (λ (st : StructTree). bytes_eq st.name (text "root")) 0 structs) 0) (structs-down a)
      ∙ ap (λ o. unwrap_or o 0)
      (first-position (λ (st : StructTree). bytes_eq st.name (text "root")) (map moved_at (down (length a.codes))
      ++ root_tree ∷ []) 0 (length (map moved_at (down (length a.codes))) + 0)
      (first-behind (λ (st : StructTree). bytes_eq st.name (text "root")) (map moved_at (down (length a.codes)))
      (root_tree ∷ []) 0 none-root first))
      ∙ same
    where
      same : 0 + (length (map moved_at (down (length a.codes))) + 0) ≡ length a.codes
      same = omega (arith, long)

  fields-last : root_fields (program_of a) ≡ root_tree.fields
  fields-last =
      let same : length a.codes ≡ length (map moved_at (down (length a.codes))) + 0 = omega (arith, long) in
      ap (λ k. struct_fields (program_of a).structs k) (struct-last ∙ same)
      ∙ ap (λ structs. struct_fields structs (length (map moved_at (down (length a.codes))) + 0)) (structs-down a)
      ∙ ap (λ (st : StructTree). st.fields)
      (get_or_from_slice_get (map moved_at (down (length a.codes)) ++ root_tree ∷ [])
      (length (map moved_at (down (length a.codes))) + 0) root_tree no_struct
      (at-right (map moved_at (down (length a.codes))) (root_tree ∷ []) 0 root_tree refl))

  abbrev procedures_at : ℕ → List ProcedureTree
  procedures_at i = map (moved_procedure (relocation_of a.codes i)) (code_at a.codes i).procedures

  -- no system's procedure has a name that begins with that of the root
  none-of : (rest : List ℕ) (i : ℕ) → i < length a.codes →
      NonePass (λ (q : ProcedureTree). bytes_eq q.name (root_name ++ 95 ∷ rest)) (procedures_at i)
  none-of rest i below =
      let t = system-of a i below in
      let inner = v.each i t.0 t.1 in
      all-made (λ (q : ProcedureTree). bytes_eq q.name (root_name ++ 95 ∷ rest) ≡ false) (procedures_at i)
      (λ q is.
      let from = of-map (moved_procedure (relocation_of a.codes i)) (code_at a.codes i).procedures q is in
      let theirs =
      procedure-belongs a i t.0 (v.at t.0) inner from.0
      (subst (λ (code : SystemTree). Contains code.procedures from.0) (code-is a i t.0 (v.at t.0) inner) from.1) in
      subst (λ (z : ProcedureTree). bytes_eq z.name (root_name ++ 95 ∷ rest) ≡ false) from.2
      (bytes-apart from.0.name (root_name ++ 95 ∷ rest)
      (λ same.
      true≢false
      (sym (bytes-same (system_name t.0) root_name
      (front-one (system_name t.0) root_name theirs.0 rest (system-plain t.0 (numbered a i t.0 t.1)) refl
      (sym theirs.1 ∙ same))) ∙ root-apart t.0))))

  count : length (flat_map procedures_at (down (length a.codes))) ≡ length (flat_map (λ c. c.procedures) a.codes)
  count =
      length-parts procedures_at (length a.codes)
      ∙ sum_below-same (λ i. length (procedures_at i)) (λ i. length (code_at a.codes i).procedures) (length a.codes)
      (λ i less. mapped-length (moved_procedure (relocation_of a.codes i)) (code_at a.codes i).procedures)
      ∙ sym (sum-by-places (λ (c : SystemTree). length c.procedures) no_code a.codes) ∙ sym (length-all a.codes)

  named-last : (rest : List ℕ) (j : ℕ) →
      IsFirst (λ (q : ProcedureTree). bytes_eq q.name (root_name ++ 95 ∷ rest))
      (root_procedures a.codes a.root a.hyper) j →
      procedure_named (program_of a) (root_name ++ 95 ∷ rest) ≡ Some (length (flat_map (λ c. c.procedures) a.codes) + j)
  named-last rest j first =
      ap (position_from (λ (q : ProcedureTree). bytes_eq q.name (root_name ++ 95 ∷ rest)) 0) (procedures-down a (length a.codes) refl)
      ∙ first-position (λ (q : ProcedureTree). bytes_eq q.name (root_name ++ 95 ∷ rest))
      (flat_map procedures_at (down (length a.codes)) ++ root_procedures a.codes a.root a.hyper) 0
      (length (flat_map procedures_at (down (length a.codes))) + j)
      (first-behind (λ (q : ProcedureTree). bytes_eq q.name (root_name ++ 95 ∷ rest))
      (flat_map procedures_at (down (length a.codes))) (root_procedures a.codes a.root a.hyper) j
      (none-parts (λ (q : ProcedureTree). bytes_eq q.name (root_name ++ 95 ∷ rest)) procedures_at (length a.codes) (none-of rest)) first)
      ∙ ap Some same
    where
      same : 0 + (length (flat_map procedures_at (down (length a.codes))) + j) ≡ length (flat_map (λ c. c.procedures) a.codes) + j
      same = omega (arith, count)

  pub root_stands_last : RootStandsLast a
  root_stands_last =
      let none_more : length (flat_map (λ c. c.procedures) a.codes) + 0 ≡ length (flat_map (λ c. c.procedures) a.codes) = omega arith in
      record {
        struct = struct-last;
        fields = fields-last;
        start = named-last (text "start") 0 refl ∙ ap Some none_more;
        step = named-last (text "step") 1 (refl, refl);
      }
