-- What holds of each element of lists, where a search ends, and texts that differ.
use Rattle.std.specs.Prelude.{◌≡◌, ◌≢◌, ℕ, zero, suc, ◌+◌, ◌<◌, Bool, true, false, cond, List, [], ◌∷◌, ◌++◌, map, length, slice_get, Contains, Some, bytes_eq, refl}
use Rattle.std.specs.List.{AllByRecursion, position_from}
use Rattle.std.specs.Cmp.Lexicographic.{same_text, other_text}
use Rattle.std.proofs.Common.{sym, ap, subst, ◌∙◌, arith, inl, inr}
use Rattle.modules_profile.proofs.lemmas.Members.{in-none, in-first, in-rest, in-cases}

-- ---- Texts

pub bytes-same : (a b : List ℕ) → a ≡ b → bytes_eq a b ≡ true
bytes-same a b e = by (bytes_eq a b) refl
  where
    by : (t : Bool) → bytes_eq a b ≡ t → t ≡ true
    by true q = refl
    by false q = absurd (other_text a b (sym q) e)

pub bytes-apart : (a b : List ℕ) → a ≢ b → bytes_eq a b ≡ false
bytes-apart a b apart = by (bytes_eq a b) refl
  where
    by : (t : Bool) → bytes_eq a b ≡ t → t ≡ false
    by true q = absurd (apart (same_text a b (sym q)))
    by false q = refl

-- ---- Each element

pub member : {A : Type 0} (P : A → Type 0) (xs : List A) (x : A) → AllByRecursion P xs → Contains xs x → P x
member P [] x all has = absurd (in-none x has)
member P (y ∷ ys) x all has = elim (in-cases y x ys has) [ inl same ↦ subst P same all.0 | inr more ↦ member P ys x all.1 more ]

pub all-made : {A : Type 0} (P : A → Type 0) (xs : List A) → ((x : A) → Contains xs x → P x) → AllByRecursion P xs
all-made P [] all = tt
all-made P (x ∷ xs) all = (all x (in-first x xs), all-made P xs (λ y has. all y (in-rest x y xs has)))

pub all-both : {A : Type 0} (P : A → Type 0) (xs ys : List A) → AllByRecursion P xs → AllByRecursion P ys → AllByRecursion P (xs ++ ys)
all-both P [] ys one two = two
all-both P (x ∷ xs) ys one two = (one.0, all-both P xs ys one.1 two)

pub all-mapped : {A B : Type 0} (P : B → Type 0) (f : A → B) (xs : List A) → ((x : A) → P (f x)) → AllByRecursion P (map f xs)
all-mapped P f [] all = tt
all-mapped P f (x ∷ xs) all = (all x, all-mapped P f xs all)

-- ---- Searches

-- the first that passes is here
pub position-at : {A : Type 0} (test : A → Bool) (xs : List A) (n k : ℕ) (x : A) → slice_get xs k ≡ Some x → test x ≡ true →
    ((i : ℕ) (y : A) → i < k → slice_get xs i ≡ Some y → test y ≡ false) → position_from test n xs ≡ Some (n + k)
position-at test [] n k x at passes others = absurd (let wrong : ⊥ = cc at in wrong)
position-at test (y ∷ xs) n zero x at passes others =
    let same : y ≡ x = cc at in
    let place : n ≡ n + 0 = omega arith in
    ap (λ b. cond b (Some n) (position_from test (n + 1) xs)) (ap test same ∙ passes) ∙ ap Some place
position-at test (y ∷ xs) n (suc k) x at passes others =
    let place : n + 1 + k ≡ n + suc k = omega arith in
    ap (λ b. cond b (Some n) (position_from test (n + 1) xs)) (others zero y (omega arith) refl)
    ∙ position-at test xs (n + 1) k x at passes (λ i z below there. others (suc i) z (omega arith) there) ∙ ap Some place

-- the first that passes comes after these
pub position-behind : {A : Type 0} (test : A → Bool) (xs : List A) (x : A) (n : ℕ) → AllByRecursion (λ y. test y ≡ false) xs →
    test x ≡ true → position_from test n (xs ++ x ∷ []) ≡ Some (n + length xs)
position-behind test [] x n none passes =
    let place : n ≡ n + 0 = omega arith in ap (λ b. cond b (Some n) (position_from test (n + 1) [])) passes ∙ ap Some place
position-behind test (y ∷ xs) x n none passes =
    let place : n + 1 + length xs ≡ n + suc (length xs) = omega arith in
    ap (λ b. cond b (Some n) (position_from test (n + 1) (xs ++ x ∷ []))) none.0
    ∙ position-behind test xs x (n + 1) none.1 passes ∙ ap Some place
