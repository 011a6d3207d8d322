-- The names of systems: each is one system's, and what a procedure's name begins with, up to the line below, says whose it is.
use Rattle.std.specs.Prelude.{◌≡◌, ◌≢◌, ℕ, ◌<◌, ◌+◌, ◌%◌, ◌^◌, Bool, true, false, not, ◌==◌, List, [], ◌∷◌, ◌++◌, Option, Some, None, decimal, bytes_eq, refl, ⊤}
use Rattle.std.specs.List.{list_all}
use Rattle.std.specs.Cmp.Lexicographic.{same_text, other_text}
use Rattle.std.proofs.Common.{sym, ap, ◌∙◌, arith, true≢false}
use Rattle.std.proofs.lemmas.Bool.{and_from, and_parts, ne_eqb}
use Rattle.std.proofs.lemmas.Fmt.{decimal_injective, decimal_by_steps}
use Rattle.modules_profile.specs.Systems.{system_name}
use Rattle.emit_shape.specs.Names.{root_name}

pub bytes-same : (a b : List ℕ) → a ≡ b → bytes_eq a b ≡ true
bytes-same a b e = by (bytes_eq a b) refl
  where
    by : (t : Bool) → bytes_eq a b ≡ t → t ≡ true
    by true q = refl
    by false q = absurd (other_text a b (sym q) e)

pub bytes-apart : (a b : List ℕ) → a ≢ b → bytes_eq a b ≡ false
bytes-apart a b apart = by (bytes_eq a b) refl
  where
    by : (t : Bool) → bytes_eq a b ≡ t → t ≡ false
    by true q = absurd (apart (same_text a b (sym q)))
    by false q = refl

-- ---- The line below

abbrev pub is_plain : ℕ → Bool
is_plain b = not (b == 95)

line-not-plain : is_plain 95 ≡ true → ⊥
line-not-plain e = true≢false (sym e)

-- texts that go on with a line are one up to there
pub front-one : (xs ys r t : List ℕ) → list_all is_plain xs ≡ true → list_all is_plain ys ≡ true → xs ++ 95 ∷ r ≡ ys ++ 95 ∷ t → xs ≡ ys
front-one [] [] r t plain others same = refl
front-one [] (y ∷ ys) r t plain others same =
    let is : 95 ≡ y = cc same in absurd (line-not-plain (ap is_plain is ∙ (and_parts (is_plain y) (list_all is_plain ys) others).0))
front-one (x ∷ xs) [] r t plain others same =
    let is : x ≡ 95 = cc same in absurd (line-not-plain (ap is_plain (sym is) ∙ (and_parts (is_plain x) (list_all is_plain xs) plain).0))
front-one (x ∷ xs) (y ∷ ys) r t plain others same =
    let is : x ≡ y = cc same in
    let rest : xs ++ 95 ∷ r ≡ ys ++ 95 ∷ t = cc same in
    let later =
    front-one xs ys r t (and_parts (is_plain x) (list_all is_plain xs) plain).1
    (and_parts (is_plain y) (list_all is_plain ys) others).1 rest in
    ap (λ z. z ∷ xs) is ∙ ap (λ zs. y ∷ zs) later

-- ---- Digits are plain

all-append : (t : ℕ → Bool) (xs ys : List ℕ) → list_all t xs ≡ true → list_all t ys ≡ true → list_all t (xs ++ ys) ≡ true
all-append t [] ys one two = two
all-append t (x ∷ xs) ys one two =
    let parts = and_parts (t x) (list_all t xs) one in and_from (t x) (list_all t (xs ++ ys)) parts.0 (all-append t xs ys parts.1 two)

digit-plain : (n : ℕ) → n < 10 → is_plain (48 + n) ≡ true
digit-plain n small = ap not (ne_eqb (48 + n) 95 (λ same. omega arith))

decimal-plain : (n : ℕ) → n < 2 ^ 64 → list_all is_plain (decimal n) ≡ true
decimal-plain n small = decimal_by_steps (λ m ds. list_all is_plain ds ≡ true)
    (λ m h. and_from _ _ (digit-plain m h) refl)
    (λ m ds h e. all-append is_plain ds ((48 + m % 10) ∷ []) e (and_from _ _ (digit-plain (m % 10) (omega arith)) refl)) n small

-- ---- Systems

-- the number of a row that a text can show
abbrev pub IsNumbered : Option ℕ → Type 0
IsNumbered None = ⊤
IsNumbered (Some e) = e < 2 ^ 64

pub system-plain : (s : Option ℕ) → IsNumbered s → list_all is_plain (system_name s) ≡ true
system-plain None small = refl
system-plain (Some e) small = decimal-plain e small

pub system-one : (s t : Option ℕ) → IsNumbered s → IsNumbered t → system_name s ≡ system_name t → s ≡ t
system-one None None small few same = refl
system-one None (Some e) small few same = absurd (let wrong : 116 ≡ 115 = cc same in true≢false (ap (λ n. n == 116) wrong))
system-one (Some f) None small few same = absurd (let wrong : 115 ≡ 116 = cc same in true≢false (ap (λ n. n == 115) wrong))
system-one (Some f) (Some e) small few same =
    let digits : decimal f ≡ decimal e = cc same in ap Some (decimal_injective f e small few digits)

-- the root's struct has a name of its own
pub root-apart : (s : Option ℕ) → bytes_eq (system_name s) root_name ≡ false
root-apart None = refl
root-apart (Some e) = refl

-- names of procedures of two systems are two
pub procedures-apart : (s t : Option ℕ) (r u : List ℕ) → IsNumbered s → IsNumbered t → s ≢ t →
    (system_name s ++ 95 ∷ r) ≢ (system_name t ++ 95 ∷ u)
procedures-apart s t r u small few apart same =
    apart (system-one s t small few
    (front-one (system_name s) (system_name t) r u (system-plain s small) (system-plain t few) same))
