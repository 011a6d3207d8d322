-- The names of a program's procedures: which systems they are of.
use Rattle.std.specs.Prelude.{◌≡◌, ◌≢◌, ℕ, suc, ◌<◌, ◌+◌, ◌%◌, ◌^◌, Bool, true, false, not, ◌==◌, ◌&&◌, MatchBool, List, [], ◌∷◌, ◌++◌, map, flat_map, filter, length, slice_get, Contains, Option, Some, None, codes as text, decimal, bytes_eq, refl, ⊤}
use Rattle.std.specs.List.{AllByRecursion, AllZip, list_all, range_with_len}
use Rattle.std.specs.Cmp.Lexicographic.{same_text, other_text}
use Rattle.std.proofs.Common.{sym, ap, subst, ◌∙◌, arith, inl, inr, true≢false}
use Rattle.std.proofs.lemmas.Bool.{and_from, and_parts, ne_eqb}
use Rattle.std.proofs.lemmas.Fmt.{decimal_injective, decimal_by_steps}
use Rattle.std.proofs.lemmas.Option.{get_or_from_slice_get}
use Rattle.std.proofs.lemmas.List.{append_assoc, append_cancel_left}
use Rattle.std.proofs.lemmas.List.Elements.{Contains-append_left, Contains-append_right, Contains-append_cases}
use Rattle.std.proofs.lemmas.List.Sorted.{Contains-permutation, IsPermutation-sym}
use Rattle.diagram_meaning.specs.Rows.{row_at, row_numbers, is_inside}
use Rattle.diagram_blocks.specs.Kinds.{is_subsystem}
use Rattle.modules_profile.specs.Systems.{system_name, systems_inside}
use Rattle.modules_profile.specs.SystemHeader.{SystemHeader}
use Rattle.modules_profile.specs.Headers.{header_functions}
use Rattle.modules_profile.proofs.lemmas.Members.{in-none, in-cases, in-map, of-map, in-filter, of-filter, of-range, in-at}
use Rattle.c_syntax.specs.Tree.{ProcedureTree}
use Rattle.emit_shape.specs.Names.{group_name, out_name}
use Rattle.emit_shape.specs.Heads.{Head, head_of, out_head, out_heads, update_head, start_head, reset_head, public_heads}
use Rattle.emit_shape.specs.Assembled.{no_code, code_at}
use Rattle.right_linking.specs.Parts.{Parts, diagram, all_systems, coded_header, IsCodedAs, Views}

-- ---- Texts

pub bytes-same : (a b : List ℕ) → a ≡ b → bytes_eq a b ≡ true
bytes-same a b e = by (bytes_eq a b) refl
  where
    by : (t : Bool) → bytes_eq a b ≡ t → t ≡ true
    by true q = refl
    by false q = absurd (other_text a b (sym q) e)

pub bytes-apart : (a b : List ℕ) → a ≢ b → bytes_eq a b ≡ false
bytes-apart a b apart = by (bytes_eq a b) refl
  where
    by : (t : Bool) → bytes_eq a b ≡ t → t ≡ false
    by true q = absurd (apart (same_text a b (sym q)))
    by false q = refl

abbrev pub is_plain : ℕ → Bool
is_plain b = not (b == 95)

line-not-plain : is_plain 95 ≡ true → ⊥
line-not-plain e = true≢false (sym e)

-- texts that go on with a line are one up to there, and after it
pub front-one : (xs ys r t : List ℕ) → list_all is_plain xs ≡ true → list_all is_plain ys ≡ true → xs ++ 95 ∷ r ≡ ys ++ 95 ∷ t → xs ≡ ys
front-one [] [] r t plain others same = refl
front-one [] (y ∷ ys) r t plain others same =
    let is : 95 ≡ y = cc same in absurd (line-not-plain (ap is_plain is ∙ (and_parts (is_plain y) (list_all is_plain ys) others).0))
front-one (x ∷ xs) [] r t plain others same =
    let is : x ≡ 95 = cc same in absurd (line-not-plain (ap is_plain (sym is) ∙ (and_parts (is_plain x) (list_all is_plain xs) plain).0))
front-one (x ∷ xs) (y ∷ ys) r t plain others same =
    let is : x ≡ y = cc same in
    let rest : xs ++ 95 ∷ r ≡ ys ++ 95 ∷ t = cc same in
    let later = front-one xs ys r t (and_parts (is_plain x) (list_all is_plain xs) plain).1
    (and_parts (is_plain y) (list_all is_plain ys) others).1 rest in
    ap (λ z. z ∷ xs) is ∙ ap (λ zs. y ∷ zs) later

all-append : (t : ℕ → Bool) (xs ys : List ℕ) → list_all t xs ≡ true → list_all t ys ≡ true → list_all t (xs ++ ys) ≡ true
all-append t [] ys one two = two
all-append t (x ∷ xs) ys one two =
    let parts = and_parts (t x) (list_all t xs) one in and_from (t x) (list_all t (xs ++ ys)) parts.0 (all-append t xs ys parts.1 two)

digit-plain : (n : ℕ) → n < 10 → is_plain (48 + n) ≡ true
digit-plain n small = ap not (ne_eqb (48 + n) 95 (λ same. omega arith))

decimal-plain : (n : ℕ) → n < 2 ^ 64 → list_all is_plain (decimal n) ≡ true
decimal-plain n small = decimal_by_steps (λ m ds. list_all is_plain ds ≡ true)
    (λ m h. and_from _ _ (digit-plain m h) refl)
    (λ m ds h e. all-append is_plain ds ((48 + m % 10) ∷ []) e (and_from _ _ (digit-plain (m % 10) (omega arith)) refl)) n small

-- ---- Systems

-- the number of a row that a text can show
abbrev pub IsNumbered : Option ℕ → Type 0
IsNumbered None = ⊤
IsNumbered (Some e) = e < 2 ^ 64

pub system-plain : (s : Option ℕ) → IsNumbered s → list_all is_plain (system_name s) ≡ true
system-plain None small = refl
system-plain (Some e) small = decimal-plain e small

pub system-one : (s t : Option ℕ) → IsNumbered s → IsNumbered t → system_name s ≡ system_name t → s ≡ t
system-one None None small few same = refl
system-one None (Some e) small few same = absurd (let wrong : 116 ≡ 115 = cc same in true≢false (ap (λ n. n == 116) wrong))
system-one (Some f) None small few same = absurd (let wrong : 115 ≡ 116 = cc same in true≢false (ap (λ n. n == 115) wrong))
system-one (Some f) (Some e) small few same =
    let digits : decimal f ≡ decimal e = cc same in ap Some (decimal_injective f e small few digits)

-- a text that begins with the system's name and a line
abbrev pub BelongsTo : Option ℕ → List ℕ → Type 0
BelongsTo s name = (rest : List ℕ) × (name ≡ system_name s ++ 95 ∷ rest)

longer : (s : Option ℕ) (mid digits : List ℕ) → BelongsTo s ((system_name s ++ 95 ∷ mid) ++ digits)
longer s mid digits = (mid ++ digits, append_assoc (system_name s) (95 ∷ mid) digits)

-- function j of a system has no other's name
pub out-name : (s : Option ℕ) (j : ℕ) → out_name s j ≡ system_name s ++ 95 ∷ 111 ∷ 117 ∷ 116 ∷ decimal j
out-name s j = append_assoc (system_name s) (text "_out") (decimal j)

member : {A : Type 0} (P : A → Type 0) (xs : List A) (x : A) → AllByRecursion P xs → Contains xs x → P x
member P [] x all has = absurd (in-none x has)
member P (y ∷ ys) x all has = elim (in-cases y x ys has) [ inl same ↦ subst P same all.0 | inr more ↦ member P ys x all.1 more ]

-- what comes after the name of a system in one of its procedures' names
abbrev pub IsOther : Option ℕ → ℕ → List ℕ → Type 0
IsOther s few name = (j : ℕ) → few < j → j < 2 ^ 64 → name ≢ out_name s j

tail-of : (s : Option ℕ) (r t : List ℕ) → system_name s ++ 95 ∷ r ≡ system_name s ++ 95 ∷ t → r ≡ t
tail-of s r t same = let rest : 95 ∷ r ≡ 95 ∷ t = append_cancel_left (system_name s) (95 ∷ r) (95 ∷ t) same in cc rest

-- a public procedure's name is that of a function among so many, or of no function
public-other : (h : SystemHeader) (head : Head) → Contains (public_heads h) head →
    BelongsTo h.row head.name × IsOther h.row (length (header_functions h)) head.name
public-other h head has = elim (Contains-append_cases (out_heads h) (update_head h ∷ start_head h ∷ reset_head h ∷ []) head has) [
  | inl out ↦
      let made = of-map (out_head h) (range_with_len 1 (length (header_functions h))) head out in
      let range = of-range 1 (length (header_functions h)) made.0 made.1 in
      subst (λ (z : Head). BelongsTo h.row z.name × IsOther h.row (length (header_functions h)) z.name) made.2 (
        longer h.row (text "out") (decimal made.0),
        (λ j few most same.
            let digits : decimal made.0 ≡ decimal j = cc
            (tail-of h.row (111 ∷ 117 ∷ 116 ∷ decimal made.0) (111 ∷ 117 ∷ 116 ∷ decimal j)
            (sym (out-name h.row made.0) ∙ same ∙ out-name h.row j)) in
            let high = range.1 in
            let number = decimal_injective made.0 j (omega arith) most digits in omega (arith, number, few, high)),
      )
  | inr other ↦ rest other
]
  where
    ended : (z : Head) (b : ℕ) (mid : List ℕ) → (b == 111) ≡ false → z ≡ head → z.name ≡ system_name h.row ++ 95 ∷ b ∷ mid →
        BelongsTo h.row head.name × IsOther h.row (length (header_functions h)) head.name
    ended z b mid apart same is = subst (λ (y : Head). BelongsTo h.row y.name × IsOther h.row (length (header_functions h)) y.name) same (
      (b ∷ mid, is),
      (λ j few most equal.
          let letter : b ≡ 111 = cc (tail-of h.row (b ∷ mid) (111 ∷ 117 ∷ 116 ∷ decimal j) (sym is ∙ equal ∙ out-name h.row j)) in
          true≢false (sym (ap (λ n. n == 111) letter) ∙ apart)),
    )

    rest : Contains (update_head h ∷ start_head h ∷ reset_head h ∷ []) head →
        BelongsTo h.row head.name × IsOther h.row (length (header_functions h)) head.name
    rest other = elim (in-cases (update_head h) head (start_head h ∷ reset_head h ∷ []) other) [
      | inl same ↦ ended (update_head h) 117 (text "pdate") refl same refl
      | inr more ↦ elim (in-cases (start_head h) head (reset_head h ∷ []) more) [
        | inl same ↦ ended (start_head h) 115 (text "tart") refl same refl
        | inr last ↦ elim (in-cases (reset_head h) head [] last) [
          | inl same ↦ ended (reset_head h) 114 (text "eset") refl same refl
          | inr none ↦ absurd (in-none head none)
        ]
      ]
    ]

-- ---- Members

pub in-flat_map : {A B : Type 0} (f : A → List B) (xs : List A) (x : A) (y : B) → Contains xs x → Contains (f x) y →
    Contains (flat_map f xs) y
in-flat_map f [] x y has inner = absurd (in-none x has)
in-flat_map f (z ∷ xs) x y has inner = elim (in-cases z x xs has) [
  | inl same ↦ Contains-append_left (f z) (flat_map f xs) y (subst (λ w. Contains (f w) y) (sym same) inner)
  | inr more ↦ Contains-append_right (f z) (flat_map f xs) y (in-flat_map f xs x y more inner)
]

pub zipped : {A B : Type 0} (P : A → B → Type 0) (xs : List A) (ys : List B) → AllZip P xs ys → length xs ≡ length ys
zipped P [] [] all = refl
zipped P [] (y ∷ ys) all = absurd all
zipped P (x ∷ xs) [] all = absurd all
zipped P (x ∷ xs) (y ∷ ys) all = ap suc (zipped P xs ys all.1)

module _ (a : Parts) (v : Views a) where
  -- rows are few enough
  pub numbered : (place : ℕ) (s : Option ℕ) → slice_get (all_systems a) place ≡ Some s → IsNumbered s
  numbered place None stands = tt
  numbered place (Some e) stands =
      elim (in-cases None (Some e) (map Some (systems_inside (diagram a).rows None)) (in-at (all_systems a) place (Some e) stands)) [
        | inl same ↦ absurd (let wrong : ⊥ = cc same in wrong)
        | inr more ↦
            let made = of-map Some (systems_inside (diagram a).rows None) (Some e) more in
            let row : made.0 ≡ e = cc made.2 in
            let kept = of-filter (λ c. is_subsystem (row_at (diagram a).rows c).kind && is_inside (diagram a).rows None c)
            (row_numbers (diagram a).rows) made.0 made.1 in
            let below = (of-range 0 (length (diagram a).rows) made.0 kept.0).1 in
            let few = a.can.resolved.tree.table.nested.at_most in omega arith
      ]

  module _ (place : ℕ) (s : Option ℕ) (stands : slice_get (all_systems a) place ≡ Some s) where
    pub known : IsCodedAs a place s (v.at s)
    known = v.each place s stands

    pub row-is : (v.at s).local.row ≡ s
    row-is = ap (λ l. l.row) known.local.is_local

    pub code-is : code_at a.codes place ≡ (v.at s).code
    code-is = get_or_from_slice_get a.codes place (v.at s).code no_code known.stands

    -- each of its procedures has such a name
    pub own-other : (q : ProcedureTree) → Contains (v.at s).code.procedures q →
        BelongsTo s q.name × IsOther s (length (header_functions (coded_header (v.at s)))) q.name
    own-other q has =
        subst (λ o. BelongsTo o q.name × IsOther o (length (header_functions (coded_header (v.at s)))) q.name) row-is
        (by q.private refl (member _ (v.at s).code.procedures q known.shape.rules has).private_name)
      where
        by : (t : Bool) → q.private ≡ t → MatchBool t ((g : ℕ) × (q.name ≡ group_name (v.at s).local.row g)) ⊤ →
            BelongsTo (v.at s).local.row q.name × IsOther (v.at s).local.row (length (header_functions (coded_header (v.at s)))) q.name
        by true e named =
            subst (λ name. BelongsTo (v.at s).local.row name
            × IsOther (v.at s).local.row (length (header_functions (coded_header (v.at s)))) name) (sym named.1) (
              longer (v.at s).local.row (text "g") (decimal named.0),
              (λ j few most same.
                  let letter : 103 ≡ 111 = cc (tail-of (v.at s).local.row (103 ∷ decimal named.0) (111 ∷ 117 ∷ 116 ∷ decimal j)
                  (sym (append_assoc (system_name (v.at s).local.row) (text "_g") (decimal named.0)) ∙ same
                  ∙ out-name (v.at s).local.row j)) in
                  true≢false (sym (ap (λ n. n == 111) letter))),
            )
        by false e named =
            let shown = in-filter (λ (z : Head). not z.private) (map head_of (v.at s).code.procedures) (head_of q)
            (in-map head_of (v.at s).code.procedures q has) (ap not e) in
            public-other (coded_header (v.at s)) (head_of q)
            (Contains-permutation (filter (λ (z : Head). not z.private) (map head_of (v.at s).code.procedures))
            (public_heads (coded_header (v.at s))) (head_of q)
            (IsPermutation-sym (public_heads (coded_header (v.at s)))
            (filter (λ (z : Head). not z.private) (map head_of (v.at s).code.procedures)) known.shape.heads) shown)
