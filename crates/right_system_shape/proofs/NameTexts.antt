-- Names that differ.
use Rattle.std.specs.Prelude.{◌≡◌, refl, ℕ, ◌+◌, ◌%◌, ◌<◌, ◌^◌, Bool, true, false, ◌&&◌, ◌==◌, List, [], ◌∷◌, ◌++◌, Option, Some, None, decimal, bytes_eq}
use Rattle.std.specs.Char.{is_ascii_digit}
use Rattle.std.specs.List.{list_all}
use Rattle.std.proofs.Common.{sym, ap, ap₂, ◌∙◌, arith, inl, inr, true≢false}
use Rattle.std.proofs.lemmas.Bool.{le-leb, and_from, and_parts}
use Rattle.std.proofs.lemmas.Bool.Decides.{eqb_tells}
use Rattle.std.proofs.lemmas.Fmt.{decimal_by_steps, decimal_injective}
use Rattle.std.proofs.lemmas.List.{append_cancel_left}
use Rattle.modules_profile.specs.Systems.{system_name}
use Rattle.right_system_shape.proofs.Params.{bytes-same, bytes-one, bytes-apart}

-- ---- Decimals are digits

pub all-append : {A : Type 0} (t : A → Bool) (xs ys : List A) → list_all t (xs ++ ys) ≡ (list_all t xs && list_all t ys)
all-append t [] ys = refl
all-append t (x ∷ xs) ys = by (t x) (all-append t xs ys)
  where
    by : (b : Bool) → list_all t (xs ++ ys) ≡ (list_all t xs && list_all t ys) → (b && list_all t (xs ++ ys))
        ≡ ((b && list_all t xs) && list_all t ys)
    by true e = e
    by false e = refl

digit-is : (n : ℕ) → n < 10 → is_ascii_digit (48 + n) ≡ true
digit-is n h = and_from _ _ (le-leb 48 (48 + n) (omega arith)) (le-leb (48 + n) 57 (omega arith))

pub decimal-digits : (n : ℕ) → n < 2 ^ 64 → list_all is_ascii_digit (decimal n) ≡ true
decimal-digits n h = decimal_by_steps (λ n ds. list_all is_ascii_digit ds ≡ true)
    (λ n h. and_from _ _ (digit-is n h) refl)
    (λ n ds h e. all-append is_ascii_digit ds ((48 + n % 10) ∷ []) ∙ and_from _ _ e
    (and_from _ _ (digit-is (n % 10) (omega arith)) refl)) n h

-- texts of digits before no digit are one, and so is the rest
digits-one : (ds bs : List ℕ) (x y : ℕ) (xs ys : List ℕ) → list_all is_ascii_digit ds ≡ true → list_all is_ascii_digit bs ≡ true →
    is_ascii_digit x ≡ false → is_ascii_digit y ≡ false → ds ++ x ∷ xs ≡ bs ++ y ∷ ys → (ds ≡ bs) × (x ∷ xs ≡ y ∷ ys)
digits-one [] [] x y xs ys d e p q same = (refl, same)
digits-one [] (b ∷ bs) x y xs ys d e p q same =
    let first : x ≡ b = cc in absurd (true≢false (sym (and_parts _ _ e).0 ∙ ap is_ascii_digit (sym first) ∙ p))
digits-one (a ∷ ds) [] x y xs ys d e p q same =
    let first : a ≡ y = cc in absurd (true≢false (sym (and_parts _ _ d).0 ∙ ap is_ascii_digit first ∙ q))
digits-one (a ∷ ds) (b ∷ bs) x y xs ys d e p q same =
    let first : a ≡ b = cc in
    let rest : ds ++ x ∷ xs ≡ bs ++ y ∷ ys = cc in
    let more = digits-one ds bs x y xs ys (and_parts _ _ d).1 (and_parts _ _ e).1 p q rest in
    (ap₂ ◌∷◌ first more.0, more.1)

-- ---- Names with numbers

pub numbered : (front : List ℕ) (a b : ℕ) → a < 2 ^ 64 → b < 2 ^ 64 → bytes_eq (front ++ decimal a) (front ++ decimal b) ≡ (a == b)
numbered front a b h k = elim (eqb_tells a b) [
  | inl same ↦ bytes-same (front ++ decimal a) (front ++ decimal b) (ap (λ n. front ++ decimal n) same.1) ∙ sym same.0
  | inr apart ↦ bytes-apart (front ++ decimal a) (front ++ decimal b)
      (λ e. apart.1 (decimal_injective a b h k (append_cancel_left front (decimal a) (decimal b) e))) ∙ sym apart.0
]

pub prefixed : (front a b : List ℕ) → bytes_eq (front ++ a) (front ++ b) ≡ bytes_eq a b
prefixed front a b = by (bytes_eq a b) refl
  where
    by : (t : Bool) → bytes_eq a b ≡ t → bytes_eq (front ++ a) (front ++ b) ≡ t
    by true e = bytes-same (front ++ a) (front ++ b) (ap (λ x. front ++ x) (bytes-one a b e))
    by false e = bytes-apart (front ++ a) (front ++ b) (λ same. true≢false (sym (bytes-same a b (append_cancel_left front a b same)) ∙ e))

-- names of procedures of nested systems are one just where the systems and the rest are
pub nested-one : (a b : ℕ) (xs ys : List ℕ) → a < 2 ^ 64 → b < 2 ^ 64 → system_name (Some a) ++ 95 ∷ xs ≡ system_name
    (Some b) ++ 95 ∷ ys → (a ≡ b) × (xs ≡ ys)
nested-one a b xs ys h k same =
    let rest : decimal a ++ 95 ∷ xs ≡ decimal b ++ 95 ∷ ys = (let whole : 115 ∷ (decimal a ++ 95 ∷ xs) ≡ 115 ∷ (decimal b ++ 95 ∷ ys) =
    same in cc) in
    let both = digits-one (decimal a) (decimal b) 95 95 xs ys (decimal-digits a h) (decimal-digits b k) refl refl rest in
    let tails = both.1 in
    (decimal_injective a b h k both.0, let is : xs ≡ ys = cc in is)

-- a system's own procedure has no name of a nested system's, where the row is another
pub other-system : (s : Option ℕ) (b : ℕ) (xs ys : List ℕ) → ((a : ℕ) → s ≡ Some a → (a < 2 ^ 64) × (a ≡ b → ⊥)) → b < 2 ^ 64 →
    bytes_eq (system_name s ++ 95 ∷ xs) (system_name (Some b) ++ 95 ∷ ys) ≡ false
other-system None b xs ys other k = refl
other-system (Some a) b xs ys other k =
    let o = other a refl in
    bytes-apart (system_name (Some a) ++ 95 ∷ xs) (system_name (Some b) ++ 95 ∷ ys) (λ same. o.1 (nested-one a b xs ys o.0 k same).0)
