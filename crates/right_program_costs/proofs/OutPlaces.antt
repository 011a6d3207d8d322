-- A system has as many output procedures in the program as its header has functions.
use Rattle.std.specs.Prelude.{◌≡◌, ◌≢◌, ℕ, zero, suc, ◌+◌, ◌<◌, ◌≤◌, ◌^◌, Bool, true, false, not, ◌||◌, ◌==◌, cond, List, [], ◌∷◌, map, flat_map, filter, length, reverse, slice_get, Contains, Option, Some, None, decimal, bytes_eq, refl}
use Rattle.std.specs.List.{list_any, prefix_len, range_with_len}
use Rattle.std.proofs.Common.{sym, ap, subst, ◌∙◌, arith, inl, inr, true≢false}
use Rattle.std.proofs.lemmas.Bool.{or_left, or_right}
use Rattle.std.proofs.lemmas.List.{length-append}
use Rattle.std.proofs.lemmas.List.Elements.{Contains-append_left, Contains-append_cases}
use Rattle.std.proofs.lemmas.List.Sorted.{Contains-permutation, IsPermutation-sym, IsPermutation-reverse, length_permutation}
use Rattle.diagram_meaning.specs.Rows.{same_system}
use Rattle.diagram_meaning.proofs.lemmas.RestsOnNeeds.{same_system-equal}
use Rattle.modules_profile.specs.Headers.{header_functions}
use Rattle.modules_profile.specs.SystemHeader.{SystemHeader}
use Rattle.modules_profile.specs.Systems.{system_name}
use Rattle.modules_profile.proofs.lemmas.Members.{in-none, in-first, in-rest, in-cases, in-map, of-map, of-filter, in-range, of-range, at-below, below-at}
use Rattle.modules_profile.proofs.lemmas.OwnRows.{of-flat_map}
use Rattle.modules_profile.proofs.lemmas.PortRows.{same-self}
use Rattle.modules_profile.proofs.lemmas.LawfulSteps.{short-filter}
use Rattle.c_syntax.specs.Tree.{ProcedureTree}
use Rattle.emit_shape.specs.Names.{root_start_name, root_step_name, out_name}
use Rattle.emit_shape.specs.Heads.{Head, head_of, out_head, out_heads, update_head, start_head, reset_head, public_heads}
use Rattle.emit_shape.specs.SystemTree.{SystemTree}
use Rattle.emit_shape.specs.Relocation.{moved_procedure}
use Rattle.emit_shape.specs.Assembled.{code_at, relocation_of, from_last, root_procedures}
use Rattle.emit_shape.specs.Faces.{out_count}
use Rattle.right_claim.specs.Assembly.{IsCodeOf}
use Rattle.right_linking.specs.Parts.{Parts, program_of, all_systems, coded_header, Views}
use Rattle.right_program_costs.proofs.ProgramNames.{bytes-same, bytes-apart, IsOther, front-one, system-plain, system-one, out-name, in-flat_map, zipped, numbered, known, row-is, code-is, own-other}

-- ---- Tests over lists

any-has : {A : Type 0} (p : A → Bool) (xs : List A) (x : A) → Contains xs x → p x ≡ true → list_any p xs ≡ true
any-has p [] x has is = absurd (in-none x has)
any-has p (y ∷ ys) x has is = elim (in-cases y x ys has) [
  | inl same ↦ or_left (p y) (list_any p ys) (ap p same ∙ is)
  | inr more ↦ or_right (p y) (list_any p ys) (any-has p ys x more is)
]

any-none : {A : Type 0} (p : A → Bool) (xs : List A) → ((x : A) → Contains xs x → p x ≡ false) → list_any p xs ≡ false
any-none p [] each = refl
any-none p (x ∷ xs) each = ap (λ t. t || list_any p xs) (each x (in-first x xs)) ∙ any-none p xs (λ y has. each y (in-rest x y xs has))

prefix-range : (p : ℕ → Bool) (a n k : ℕ) → k < n → ((j : ℕ) → a ≤ j → j < a + k → p j ≡ true) → p (a + k) ≡ false →
    prefix_len p (range_with_len a n) ≡ k
prefix-range p a zero k less pass stop = absurd (omega arith)
prefix-range p a (suc n) zero less pass stop =
    let here : a + 0 ≡ a = omega arith in
    ap (λ t. cond t (1 + prefix_len p (range_with_len (a + 1) n)) 0) (ap p (sym here) ∙ stop)
prefix-range p a (suc n) (suc k) less pass stop =
    let last : a + suc k ≡ a + 1 + k = omega arith in
    let rest = prefix-range p (a + 1) n k (omega arith) (λ j low high. pass j (omega arith) (omega arith)) (ap p (sym last) ∙ stop) in
    ap (λ t. cond t (1 + prefix_len p (range_with_len (a + 1) n)) 0) (pass a (omega arith) (omega arith)) ∙ (omega (arith, rest))

longer-flat : {A B : Type 0} (f : A → List B) (xs : List A) (x : A) → Contains xs x → length (f x) ≤ length (flat_map f xs)
longer-flat f [] x has = absurd (in-none x has)
longer-flat f (y ∷ ys) x has =
    let both = length-append (f y) (flat_map f ys) in
    elim (in-cases y x ys has) [
      | inl same ↦ let long = ap (λ z. length (f z)) same in omega (arith, both, long)
      | inr more ↦ let rest = longer-flat f ys x more in omega (arith, both, rest)
    ]

mapped-length : {A B : Type 0} (f : A → B) (xs : List A) → length (map f xs) ≡ length xs
mapped-length f [] = refl
mapped-length f (x ∷ xs) = ap suc (mapped-length f xs)

range-length : (a n : ℕ) → length (range_with_len a n) ≡ n
range-length a zero = refl
range-length a (suc n) = ap suc (range-length (a + 1) n)

module _ (a : Parts) (v : Views a) where
  in-from-last : (i : ℕ) → i < length a.codes → Contains (from_last a.codes) i
  in-from-last i below = Contains-permutation (range_with_len 0 (length a.codes)) (reverse (range_with_len 0 (length a.codes))) i
      (IsPermutation-reverse (range_with_len 0 (length a.codes))) (in-range 0 (length a.codes) i (omega arith) (omega arith))

  of-from-last : (i : ℕ) → Contains (from_last a.codes) i → i < length a.codes
  of-from-last i has =
      let range = of-range 0 (length a.codes) i
      (Contains-permutation (reverse (range_with_len 0 (length a.codes))) (range_with_len 0 (length a.codes)) i
      (IsPermutation-sym (range_with_len 0 (length a.codes)) (reverse (range_with_len 0 (length a.codes)))
      (IsPermutation-reverse (range_with_len 0 (length a.codes)))) has) in
      let high = range.1 in omega arith

  system-of : (i : ℕ) → i < length a.codes → (t : Option ℕ) × (slice_get (all_systems a) i ≡ Some t)
  system-of i below = below-at (all_systems a) i (let same = zipped (IsCodeOf a.model) (all_systems a) a.codes a.can.each in omega arith)

  -- the procedures of a code in the program
  abbrev moved : ℕ → List ProcedureTree
  moved i = map (moved_procedure (relocation_of a.codes i)) (code_at a.codes i).procedures

  module _ (place : ℕ) (s : Option ℕ) (stands : slice_get (all_systems a) place ≡ Some s) where
    abbrev h : SystemHeader
    h = coded_header (v.at s)

    abbrev functions : ℕ
    functions = length (header_functions h)

    below-codes : place < length a.codes
    below-codes = at-below a.codes place (v.at s).code (known a v place s stands).stands

    named : ℕ → ProcedureTree → Bool
    named j q = bytes_eq q.name (out_name s j)

    -- ---- Each function has a procedure

    head-there : (head : Head) → Contains (public_heads h) head →
        (q : ProcedureTree) × Contains (v.at s).code.procedures q × (head_of q ≡ head)
    head-there head has =
        let shown = of-filter (λ (z : Head). not z.private) (map head_of (v.at s).code.procedures) head
        (Contains-permutation (public_heads h) (filter (λ (z : Head). not z.private) (map head_of (v.at s).code.procedures)) head
        (known a v place s stands).shape.heads has) in
        of-map head_of (v.at s).code.procedures head shown.0

    has-out : (j : ℕ) → 0 < j → j ≤ functions → list_any (λ (q : ProcedureTree). bytes_eq q.name (out_name s j)) (program_of a).procedures
        ≡ true
    has-out j low high =
        let head = head-there (out_head h j)
        (Contains-append_left (out_heads h) (update_head h ∷ start_head h ∷ reset_head h ∷ []) (out_head h j)
        (in-map (out_head h) (range_with_len 1 functions) j (in-range 1 functions j (omega arith) (omega arith)))) in
        let q = head.0 in
        let name : q.name ≡ out_name s j = ap (λ (z : Head). z.name) head.2 ∙ ap (λ o. out_name o j) (row-is a v place s stands) in
        let own = subst (λ (c : SystemTree). Contains c.procedures q) (sym (code-is a v place s stands)) head.1 in
        any-has (λ (z : ProcedureTree). bytes_eq z.name (out_name s j)) (program_of a).procedures
        (moved_procedure (relocation_of a.codes place) q)
        (Contains-append_left (flat_map moved (from_last a.codes)) (root_procedures a.codes a.root a.hyper)
        (moved_procedure (relocation_of a.codes place) q)
        (in-flat_map moved (from_last a.codes) place (moved_procedure (relocation_of a.codes place) q) (in-from-last place below-codes)
        (in-map (moved_procedure (relocation_of a.codes place)) (code_at a.codes place).procedures q own)))
        (bytes-same q.name (out_name s j) name)

    -- ---- There is no other

    root-other : (j : ℕ) (name : List ℕ) → (rest : List ℕ) × (name ≡ 114 ∷ rest) → name ≢ out_name s j
    root-other j name (rest, is) same = by s (sym is ∙ same)
      where
        by : (o : Option ℕ) → 114 ∷ rest ≡ out_name o j → ⊥
        by None wrong = let letter : 114 ≡ 116 = cc wrong in true≢false (sym (ap (λ n. n == 116) letter))
        by (Some e) wrong = let letter : 114 ≡ 115 = cc wrong in true≢false (sym (ap (λ n. n == 115) letter))

    of-system : (j i : ℕ) (t : Option ℕ) (q : ProcedureTree) → functions < j → j < 2 ^ 64 → slice_get (all_systems a) i ≡ Some t →
        Contains (v.at t).code.procedures q → q.name ≢ out_name s j
    of-system j i t q few most at has same = by (same_system t s) refl
      where
        by : (b : Bool) → same_system t s ≡ b → ⊥
        by true is =
            let equal = same_system-equal t s is in
            let other = subst (λ o. IsOther o (length (header_functions (coded_header (v.at o)))) q.name) equal
            (own-other a v i t at q has).1 in
            other j few most same
        by false is =
            let belongs = (own-other a v i t at q has).0 in
            let small = numbered a v i t at in
            let little = numbered a v place s stands in
            let names = front-one (system_name t) (system_name s) belongs.0 (111 ∷ 117 ∷ 116 ∷ decimal j) (system-plain t small)
            (system-plain s little) (sym belongs.1 ∙ same ∙ out-name s j) in
            let equal = system-one t s small little names in
            true≢false (sym (same-self s) ∙ ap (λ o. same_system o s) (sym equal) ∙ is)

    no-more : (j : ℕ) → functions < j → j < 2 ^ 64 →
        list_any (λ (q : ProcedureTree). bytes_eq q.name (out_name s j)) (program_of a).procedures ≡ false
    no-more j few most = any-none (λ (q : ProcedureTree). bytes_eq q.name (out_name s j)) (program_of a).procedures
        (λ q has. bytes-apart q.name (out_name s j)
        (elim (Contains-append_cases (flat_map moved (from_last a.codes)) (root_procedures a.codes a.root a.hyper) q has) [
          | inl own ↦
              let part = of-flat_map moved (from_last a.codes) q own in
              let i = part.0 in
              let t = system-of i (of-from-last i part.1) in
              let from = of-map (moved_procedure (relocation_of a.codes i)) (code_at a.codes i).procedures q part.2 in
              let inner = subst (λ (c : SystemTree). Contains c.procedures from.0) (code-is a v i t.0 t.1) from.1 in
              (λ same. of-system j i t.0 from.0 few most t.1 inner (ap (λ (z : ProcedureTree). z.name) from.2 ∙ same))
          | inr root ↦ of-root q root
        ]))
      where
        of-root : (q : ProcedureTree) → Contains (root_procedures a.codes a.root a.hyper) q → q.name ≢ out_name s j
        of-root q has =
            let names = in-map (λ (z : ProcedureTree). z.name) (root_procedures a.codes a.root a.hyper) q has in
            elim (in-cases root_start_name q.name (root_step_name ∷ []) names) [
              | inl same ↦ root-other j q.name (_, sym same)
              | inr more ↦ elim (in-cases root_step_name q.name [] more) [
                | inl same ↦ root-other j q.name (_, sym same)
                | inr none ↦ absurd (in-none q.name none)
              ]
            ]

    -- ---- So there are as many

    enough : functions < length (program_of a).procedures
    enough =
        let heads = length-append (out_heads h) (update_head h ∷ start_head h ∷ reset_head h ∷ []) in
        let outs = mapped-length (out_head h) (range_with_len 1 functions) in
        let range = range-length 1 functions in
        let shown = length_permutation (public_heads h) (filter (λ (z : Head). not z.private) (map head_of (v.at s).code.procedures))
        (known a v place s stands).shape.heads in
        let kept = short-filter (λ (z : Head). not z.private) (map head_of (v.at s).code.procedures) in
        let made = mapped-length head_of (v.at s).code.procedures in
        let there = mapped-length (moved_procedure (relocation_of a.codes place)) (code_at a.codes place).procedures in
        let code = ap (λ (c : SystemTree). length c.procedures) (code-is a v place s stands) in
        let part = longer-flat moved (from_last a.codes) place (in-from-last place below-codes) in
        let whole = length-append (flat_map moved (from_last a.codes)) (root_procedures a.codes a.root a.hyper) in
        omega (arith, heads, outs, range, shown, kept, made, there, code, part, whole)

    pub count-is : suc functions < 2 ^ 64 → out_count (program_of a) s ≡ functions
    count-is small = prefix-range (λ j. list_any (λ (q : ProcedureTree). bytes_eq q.name (out_name s j)) (program_of a).procedures) 1
        (length (program_of a).procedures) functions enough
        (λ j low high. has-out j (omega arith) (omega arith)) (no-more (1 + functions) (omega arith) (omega arith))
