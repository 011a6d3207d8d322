-- A system's code by its name: where it is among the codes, and where its public procedures are in the program.
use Rattle.std.specs.Prelude.{◌≡◌, ℕ, zero, suc, ◌+◌, ◌<◌, ◌≤◌, ◌⊎◌, Bool, true, false, not, cond, ◌||◌, MatchBool, List, [], ◌∷◌, ◌++◌, map, filter, drop, length, sum_by, slice_get, Contains, Option, Some, unwrap_or, codes as text, decimal, bytes_eq, refl, ⊤}
use Rattle.std.specs.List.{list_any, prefix_len, range_with_len}
use Rattle.std.proofs.Common.{sym, ap, ap₂, subst, ◌∙◌, arith, inl, inr, true≢false}
use Rattle.std.proofs.lemmas.Fmt.{decimal_injective}
use Rattle.std.proofs.lemmas.List.{append_assoc, append_cancel_left, length-append}
use Rattle.std.proofs.lemmas.List.Elements.{Contains-append_left, Contains-append_cases}
use Rattle.std.proofs.lemmas.List.FromFn.{length-range_with_len}
use Rattle.std.proofs.lemmas.List.Sorted.{Contains-permutation, IsPermutation-sym, length_permutation}
use Rattle.std.proofs.lemmas.List.Sums.{sum_by-cons}
use Rattle.std.proofs.lemmas.Option.{get_or_from_slice_get}
use Rattle.modules_profile.specs.SystemHeader.{SystemHeader}
use Rattle.modules_profile.specs.Headers.{header_functions}
use Rattle.modules_profile.specs.Systems.{system_name}
use Rattle.modules_profile.proofs.lemmas.LawfulSteps.{short-filter}
use Rattle.modules_profile.proofs.lemmas.Members.{in-first, in-rest, in-none, in-cases, in-map, in-filter, of-map, of-range, in-range, in-at, at-below}
use Rattle.c_syntax.specs.Tree.{StructTree, ProcedureTree}
use Rattle.emit_shape.specs.Names.{out_name, update_name, start_name, reset_name, group_name}
use Rattle.emit_shape.specs.Heads.{Head, head_of, public_heads, out_head, out_heads, update_head, start_head, reset_head}
use Rattle.emit_shape.specs.LocalShape.{own_position}
use Rattle.emit_shape.specs.Programs.{procedure_place}
use Rattle.emit_shape.specs.SystemTree.{SystemTree}
use Rattle.emit_shape.specs.Assembled.{has_procedure, numbered_name, public_names, no_code, code_named, first_procedure, public_positions}
use Rattle.right_linking.specs.Parts.{Parts, program_of, diagram, all_systems, coded_header, IsCodedAs, Views}
use Rattle.right_linking.specs.Places.{SystemsHavePlaces}
use Rattle.right_linking.proofs.SystemNames.{bytes-same, bytes-apart, system-one}
use Rattle.right_linking.proofs.SystemOrder.{stands-once}
use Rattle.right_linking.proofs.FirstPlaces.{IsFirst, first-position, mapped-length}
use Rattle.right_linking.proofs.SystemPlaces.{member, numbered, row-is, code-is, struct-name, system-of}
use Rattle.right_linking.proofs.ProcedurePlaces.{head-there, own-place}

-- ---- Lists

-- the first that passes is where those before don't
first-at : {A : Type 0} (test : A → Bool) (xs : List A) (j : ℕ) (x : A) → slice_get xs j ≡ Some x → test x ≡ true →
    ((i : ℕ) (y : A) → i < j → slice_get xs i ≡ Some y → test y ≡ false) → IsFirst test xs j
first-at test [] j x at passes others = absurd (let wrong : ⊥ = cc at in wrong)
first-at test (y ∷ ys) zero x at passes others = let same : y ≡ x = cc at in ap test same ∙ passes
first-at test (y ∷ ys) (suc j) x at passes others =
    (others 0 y (omega arith) refl, first-at test ys j x at passes (λ i z below there. others (suc i) z (omega arith) there))

-- of the numbers from one on, those that pass are the first
pub prefix-range : (test : ℕ → Bool) (a n m : ℕ) → m ≤ n → ((k : ℕ) → a ≤ k → k < a + m → test k ≡ true) → test (a + m) ≡ false →
    prefix_len test (range_with_len a n) ≡ m
prefix-range test a zero m short passes stops = omega arith
prefix-range test a (suc n) zero short passes stops =
    let here : a + 0 ≡ a = omega arith in ap (λ b. cond b (1 + prefix_len test (range_with_len (a + 1) n)) 0) (ap test (sym here) ∙ stops)
prefix-range test a (suc n) (suc m) short passes stops =
    let next : a + 1 + m ≡ a + suc m = omega arith in
    let one_more : 1 + m ≡ suc m = omega arith in
    ap (λ b. cond b (1 + prefix_len test (range_with_len (a + 1) n)) 0) (passes a (omega arith) (omega arith))
    ∙ ap (λ k. 1 + k)
    (prefix-range test (a + 1) n m (omega arith) (λ k low high. passes k (omega arith) (omega arith)) (ap test next ∙ stops))
    ∙ one_more

pub any-true : {A : Type 0} (test : A → Bool) (xs : List A) (x : A) → Contains xs x → test x ≡ true → list_any test xs ≡ true
any-true test [] x has passes = absurd (in-none x has)
any-true test (y ∷ ys) x has passes = by (test y) refl (in-cases y x ys has) (λ more. any-true test ys x more passes)
  where
    by : (t : Bool) → test y ≡ t → (y ≡ x) ⊎ Contains ys x → (Contains ys x → list_any test ys ≡ true) → (t || list_any test ys) ≡ true
    by true e which later = refl
    by false e (inl same) later = absurd (true≢false (sym passes ∙ ap test (sym same) ∙ e))
    by false e (inr more) later = later more

pub any-false : {A : Type 0} (test : A → Bool) (xs : List A) → ((x : A) → Contains xs x → test x ≡ false) → list_any test xs ≡ false
any-false test [] fails = refl
any-false test (y ∷ ys) fails = ap₂ (λ s t. s || t) (fails y (in-first y ys)) (any-false test ys (λ x has. fails x (in-rest y x ys has)))

-- what comes after a part of a list is no more than what comes after an earlier one
sum-later : {A : Type 0} (w : A → ℕ) (xs : List A) (k i : ℕ) (x : A) → slice_get xs i ≡ Some x → k ≤ i →
    sum_by w (drop (suc i) xs) + w x ≤ sum_by w (drop k xs)
sum-later w [] k i x at below = absurd (let wrong : ⊥ = cc at in wrong)
sum-later w (y ∷ ys) zero zero x at below =
    let same : w y ≡ w x = (let is : y ≡ x = cc at in ap w is) in omega (arith, same, sum_by-cons w y ys)
sum-later w (y ∷ ys) zero (suc i) x at below =
    let later = sum-later w ys zero i x at (omega arith) in omega (arith, later, sum_by-cons w y ys)
sum-later w (y ∷ ys) (suc k) zero x at below = absurd (omega arith)
sum-later w (y ∷ ys) (suc k) (suc i) x at below = sum-later w ys k i x at (omega arith)

map-through : {A B C : Type 0} (f : B → C) (g : A → B) (h : A → C) (xs : List A) → ((x : A) → Contains xs x → f (g x) ≡ h x) →
    map f (map g xs) ≡ map h xs
map-through f g h [] same = refl
map-through f g h (x ∷ xs) same =
    ap₂ (λ y ys. y ∷ ys) (same x (in-first x xs)) (map-through f g h xs (λ y has. same y (in-rest x y xs has)))

-- ---- Names of public procedures

-- by the system's name, and how many functions it has
abbrev named_publics : List ℕ → ℕ → List (List ℕ)
named_publics name n =
    map (λ j. name ++ text "_out" ++ decimal j) (range_with_len 1 n)
    ++ (name ++ text "_update") ∷ (name ++ text "_start") ∷ (name ++ text "_reset") ∷ []

-- the letter after the line
abbrev letter : List ℕ → ℕ
letter [] = 0
letter (b ∷ []) = 0
letter (b ∷ d ∷ bs) = d

module _ (a : Parts) (v : Views a) (place : ℕ) (s : Option ℕ) (stands : slice_get (all_systems a) place ≡ Some s) where
  known : IsCodedAs a place s (v.at s)
  known = v.each place s stands

  abbrev code : SystemTree
  code = (v.at s).code

  abbrev header : SystemHeader
  header = coded_header (v.at s)

  abbrev row : Option ℕ
  row = (v.at s).local.row

  abbrev count : ℕ
  count = length (header_functions header)

  -- the heads after those of functions
  abbrev rest : List Head
  rest = update_head header ∷ start_head header ∷ reset_head header ∷ []

  abbrev shown : List Head
  shown = filter (λ (z : Head). not z.private) (map head_of code.procedures)

  abbrev place_of : Head → ℕ
  place_of head = procedure_place (program_of a) head.name

  name-is : code.structure.name ≡ system_name row
  name-is = ap (λ (z : StructTree). z.name) known.shape.structure

  pub numbered-is : (j : ℕ) → numbered_name code j ≡ out_name row j
  numbered-is j = ap (λ name. name ++ text "_out" ++ decimal j) name-is

  letter-of : (more digits : List ℕ) → system_name row ++ more ≡ system_name row ++ text "_out" ++ digits → letter more ≡ 111
  letter-of more digits same =
      ap letter
      (append_cancel_left (system_name row) more (text "_out" ++ digits) (same ∙ append_assoc (system_name row) (text "_out") digits))

  -- ---- No procedure has the name of one function more

  module _ (few : count ≤ 32) where
    head-apart : (head : Head) → Contains (public_heads header) head → head.name ≡ out_name row (1 + count) → ⊥
    head-apart head has same = elim (Contains-append_cases (out_heads header) rest head has) [
      | inl out ↦
          let made = of-map (out_head header) (range_with_len 1 count) head out in
          let low = (of-range 1 count made.0 made.1).1 in
          let digits : decimal made.0 ≡ decimal (1 + count) =
          append_cancel_left (system_name row ++ text "_out") (decimal made.0) (decimal (1 + count))
          (ap (λ (z : Head). z.name) made.2 ∙ same) in
          let equal = decimal_injective made.0 (1 + count) (omega (arith, low, few)) (omega (arith, few)) digits in
          omega (arith, equal, low)
      | inr other ↦ elim (in-cases (update_head header) head (start_head header ∷ reset_head header ∷ []) other) [
        | inl is ↦ wrong (text "_update") (update_head header) is refl (λ e. omega arith)
        | inr more ↦ elim (in-cases (start_head header) head (reset_head header ∷ []) more) [
          | inl is ↦ wrong (text "_start") (start_head header) is refl (λ e. omega arith)
          | inr last ↦ elim (in-cases (reset_head header) head [] last) [
            | inl is ↦ wrong (text "_reset") (reset_head header) is refl (λ e. omega arith)
            | inr none ↦ absurd (in-none head none)
          ]
        ]
      ]
    ]
      where
        wrong : (more : List ℕ) (z : Head) → z ≡ head → z.name ≡ system_name row ++ more → (letter more ≡ 111 → ⊥) → ⊥
        wrong more z is named other = other (letter-of more (decimal (1 + count)) (sym named ∙ ap (λ (y : Head). y.name) is ∙ same))

    pub name-apart : (q : ProcedureTree) → Contains code.procedures q → q.name ≡ out_name row (1 + count) → ⊥
    name-apart q has same = by q.private refl (member _ code.procedures q known.shape.rules has).private_name
      where
        by : (t : Bool) → q.private ≡ t → MatchBool t ((g : ℕ) × (q.name ≡ group_name row g)) ⊤ → ⊥
        by true e named =
            let is =
            letter-of (text "_g" ++ decimal named.0) (decimal (1 + count))
            (sym (append_assoc (system_name row) (text "_g") (decimal named.0)) ∙ sym named.1 ∙ same) in
            omega (arith, is)
        by false e named =
            let there =
            in-filter (λ (z : Head). not z.private) (map head_of code.procedures) (head_of q)
            (in-map head_of code.procedures q has) (ap not e) in
            head-apart (head_of q)
            (Contains-permutation shown (public_heads header) (head_of q)
            (IsPermutation-sym (public_heads header) shown known.shape.heads) there)
            same

    -- ---- Those of all functions are there

    few-heads : count ≤ length code.procedures
    few-heads =
        omega (
          arith,
          length_permutation (public_heads header) shown known.shape.heads,
          short-filter (λ (z : Head). not z.private) (map head_of code.procedures),
          mapped-length head_of code.procedures,
          length-append (out_heads header) rest,
          mapped-length (out_head header) (range_with_len 1 count),
          length-range_with_len 1 count,
        )

    pub prefix-is : prefix_len (λ j. has_procedure code (numbered_name code j)) (range_with_len 1 (length code.procedures)) ≡ count
    prefix-is =
        prefix-range (λ j. has_procedure code (numbered_name code j)) 1 (length code.procedures) count few-heads
        (λ k low high.
        let (j, q, at, is) = head-there a v place s stands (out_head header k)
        (Contains-append_left (out_heads header) rest (out_head header k)
        (in-map (out_head header) (range_with_len 1 count) k (in-range 1 count k low high))) in
        any-true (λ (z : ProcedureTree). bytes_eq z.name (numbered_name code k)) code.procedures q (in-at code.procedures j q at)
        (bytes-same q.name (numbered_name code k) (ap (λ (z : Head). z.name) is ∙ sym (numbered-is k))))
        (any-false (λ (z : ProcedureTree). bytes_eq z.name (numbered_name code (1 + count))) code.procedures
        (λ q has. bytes-apart q.name (numbered_name code (1 + count)) (λ same. name-apart q has (same ∙ numbered-is (1 + count)))))

    heads-named : (ks : List ℕ) →
        map (out_name row) ks ++ update_name row ∷ start_name row ∷ reset_name row ∷ []
        ≡ map (λ (z : Head). z.name) (map (out_head header) ks ++ rest)
    heads-named [] = refl
    heads-named (k ∷ ks) = ap (λ names. out_name row k ∷ names) (heads-named ks)

    -- the public names of the code are those of the header
    pub publics-are : public_names code ≡ map (λ (z : Head). z.name) (public_heads header)
    publics-are = ap₂ named_publics name-is prefix-is ∙ heads-named (range_with_len 1 count)

  -- ---- Places

  abbrev is_named : SystemTree → Bool
  is_named z = bytes_eq z.structure.name (system_name s)

  -- the code is found by the system's name
  pub code-found : code_named a.codes (system_name s) ≡ place
  code-found =
      let none_more : 0 + place ≡ place = omega arith in
      ap (λ o. unwrap_or o 0)
      (first-position is_named a.codes 0 place
      (first-at is_named a.codes place code known.stands
      (bytes-same code.structure.name (system_name s) (name-is ∙ ap system_name (row-is a place s (v.at s) known))) others))
      ∙ none_more
    where
      others : (i : ℕ) (y : SystemTree) → i < place → slice_get a.codes i ≡ Some y → is_named y ≡ false
      others i y less there =
          let (t, at) = system-of a i (at-below a.codes i y there) in
          let name : y.structure.name ≡ system_name t =
          ap (λ (z : SystemTree). z.structure.name) (sym (get_or_from_slice_get a.codes i y no_code there))
          ∙ struct-name a i t (v.at t) (v.each i t at) in
          bytes-apart y.structure.name (system_name s)
          (λ same.
          let equal : t ≡ s = system-one t s (numbered a i t at) (numbered a place s stands) (sym name ∙ same) in
          let one = stands-once (diagram a).rows i place s (at ∙ ap Some equal) stands in omega (arith, one, less))

  module _ (places : SystemsHavePlaces) where
    head-found : (head : Head) → Contains (public_heads header) head →
        (j : ℕ) × (j < length code.procedures) × (own_position code head.name ≡ j)
        × (place_of head ≡ first_procedure a.codes place + own_position code head.name)
    head-found head has =
        let (j, q, at, is) = head-there a v place s stands head has in
        let name : q.name ≡ head.name = ap (λ (z : Head). z.name) is in (
          j,
          at-below code.procedures j q at,
          ap (own_position code) (sym name) ∙ own-place a v place s stands j q at,
          (places a v place s stands).procedure head.name
              (subst (Contains (map (λ (z : ProcedureTree). z.name) code.procedures)) name
              (in-map (λ (z : ProcedureTree). z.name) code.procedures q (in-at code.procedures j q at))),
        )

    -- the public procedures come before those of each system around
    pub head-before : (head : Head) → Contains (public_heads header) head → (outer : ℕ) → outer < place →
        place_of head < first_procedure a.codes outer
    head-before head has outer less =
        let (j, below, own, found) = head-found head has in
        let next : suc place ≡ place + 1 = omega arith in
        let many : SystemTree → ℕ = λ z. length z.procedures in
        let sums =
        subst (λ n. sum_by many (drop n a.codes) + length code.procedures ≤ first_procedure a.codes outer) next
        (sum-later many a.codes (outer + 1) place code known.stands (omega arith)) in
        omega (arith, below, own, found, sums)

    -- and where they are found by their names
    pub positions-are : count ≤ 32 → public_positions a.codes place ≡ map place_of (public_heads header)
    positions-are few =
        let first = first_procedure a.codes place in
        ap (λ (z : SystemTree). map (λ name. first + own_position z name) (public_names z)) (code-is a place s (v.at s) known)
        ∙ ap (map (λ name. first + own_position code name)) (publics-are few)
        ∙ map-through (λ name. first + own_position code name) (λ (z : Head). z.name) place_of (public_heads header)
        (λ head has. let (j, below, own, found) = head-found head has in sym found)
