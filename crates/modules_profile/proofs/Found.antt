-- What a search and the numbers from 1 on find, one step on.
use Rattle.std.proofs.Common.{◌≡◌, ℕ, zero, suc, ◌+◌, ◌<◌, Bool, true, false, cond, List, [], ◌∷◌, ◌++◌, find, take, length, get_or, Option, Some, None, refl, sym, ap, ◌∙◌, arith}
use Rattle.std.specs.List.{cons_option, filter_map, range_with_len}
use Rattle.std.specs.Option.{option_to_list, option_or}
use Rattle.std.proofs.lemmas.List.{take_more}
use Rattle.std.proofs.lemmas.List.Elements.{filter_map-append}
use Rattle.std.proofs.lemmas.List.Folds.{find-append}

range-suc : (a n b : ℕ) → a + n ≡ b → range_with_len a (suc n) ≡ range_with_len a n ++ b ∷ []
range-suc a zero b e = let same : a ≡ b = omega arith in ap (λ x. x ∷ []) same
range-suc a (suc n) b e = ap (λ l. a ∷ l) (range-suc (a + 1) n b (omega arith))

pub range-more : (a n b : ℕ) → a + n ≡ b → range_with_len a (n + 1) ≡ range_with_len a n ++ b ∷ []
range-more a n b e = let more : n + 1 ≡ suc n = omega arith in ap (range_with_len a) more ∙ range-suc a n b e

pub found-one : {A : Type 0} (o : Option A) → cons_option o [] ≡ option_to_list o
found-one None = refl
found-one (Some x) = refl

pub found-more : (f : ℕ → Option ℕ) (n : ℕ) →
    filter_map f (range_with_len 1 (n + 1)) ≡ filter_map f (range_with_len 1 n) ++ option_to_list (f (n + 1))
found-more f n =
    let e : 1 + n ≡ n + 1 = omega arith in
    ap (filter_map f) (range-more 1 n (n + 1) e) ∙ filter_map-append f (range_with_len 1 n) ((n + 1) ∷ [])
    ∙ ap (λ l. filter_map f (range_with_len 1 n) ++ l) (found-one (f (n + 1)))

pub none-from : {A : Type 0} (o : Option A) → ((x : A) → o ≡ Some x → ⊥) → o ≡ None
none-from None h = refl
none-from (Some x) h = absurd (h x refl)

pub found-at : {A : Type 0} (p : A → Bool) (xs : List A) (i : ℕ) (d : A) → i < length xs → find p (take i xs) ≡ None →
    p (get_or xs i d) ≡ true → Some (get_or xs i d) ≡ find p xs
found-at p [] i d inside none here = absurd (omega arith)
found-at p (x ∷ xs) zero d inside none here = ap (λ t. cond t (Some x) (find p xs)) (sym here)
found-at p (x ∷ xs) (suc i) d inside none here = by (p x) none (λ h. found-at p xs i d (omega arith) h here)
  where
    by : (t : Bool) → cond t (Some x) (find p (take i xs)) ≡ None →
        (find p (take i xs) ≡ None → Some (get_or xs i d) ≡ find p xs) →
        Some (get_or xs i d) ≡ cond t (Some x) (find p xs)
    by true h later = absurd (cc h)
    by false h later = later h

pub found-not : {A : Type 0} (p : A → Bool) (xs : List A) (i : ℕ) (d : A) → i < length xs → find p (take i xs) ≡ None →
    p (get_or xs i d) ≡ false → find p (take (i + 1) xs) ≡ None
found-not p xs i d inside none here =
    ap (find p) (take_more xs i d inside) ∙ find-append p (take i xs) (get_or xs i d ∷ [])
    ∙ ap (λ o. option_or o (find p (get_or xs i d ∷ []))) none ∙ ap (λ t. cond t (Some (get_or xs i d)) None) here

-- ---- Of what a search keeps, one step on

pub kept-more : {A B : Type 0} (f : A → Option B) (xs : List A) (i : ℕ) (d : A) → i < length xs →
    filter_map f (take (i + 1) xs) ≡ filter_map f (take i xs) ++ option_to_list (f (get_or xs i d))
kept-more f xs i d inside =
    ap (filter_map f) (take_more xs i d inside) ∙ filter_map-append f (take i xs) (get_or xs i d ∷ [])
    ∙ ap (λ l. filter_map f (take i xs) ++ l) (found-one (f (get_or xs i d)))
