-- Lists that a loop makes, one step on.
use Rattle.std.proofs.Common.{◌≡◌, ℕ, zero, suc, ◌+◌, ◌<◌, ◌≤◌, Bool, true, false, cond, List, [], ◌∷◌, ◌++◌, map, filter, find, length, get_or, take, Option, Some, None, refl, sym, ap, ◌∙◌, append-nil, append_assoc, arith}
use Rattle.std.specs.List.{range_with_len, enumerate_from, flat_map, filter_map, cons_option, position_from}
use Rattle.std.specs.Option.{option_to_list, option_or, unwrap_or}
use Rattle.std.proofs.lemmas.List.{map-append, map_more, length-take-le, take_more, flat_map_more}
use Rattle.std.proofs.lemmas.List.Elements.{filter-append, filter_more, filter_map-append}
use Rattle.std.proofs.lemmas.List.Folds.{find-append}

-- ---- Numbers from one on

pub range-push : (a n b : ℕ) → a + n ≡ b → range_with_len a (suc n) ≡ range_with_len a n ++ b ∷ []
range-push a zero b e = let same : a ≡ b = omega arith in ap (λ x. x ∷ []) same
range-push a (suc n) b e = ap (λ l. a ∷ l) (range-push (a + 1) n b (omega arith))

pub range-more : (a n b : ℕ) → a + n ≡ b → range_with_len a (n + 1) ≡ range_with_len a n ++ b ∷ []
range-more a n b e = let more : n + 1 ≡ suc n = omega arith in ap (range_with_len a) more ∙ range-push a n b e

-- ---- Numbered members

enumerate-push : {A : Type 0} (n m : ℕ) (xs : List A) (x : A) → n + length xs ≡ m →
    enumerate_from n (xs ++ x ∷ []) ≡ enumerate_from n xs ++ (m, x) ∷ []
enumerate-push n m [] x e = let same : n ≡ m = omega (arith, e) in ap (λ k. (k, x) ∷ []) same
enumerate-push n m (y ∷ xs) x e = ap (λ es. (n, y) ∷ es) (enumerate-push (n + 1) m xs x (omega (arith, e)))

pub enumerate-more : {A : Type 0} (xs : List A) (i : ℕ) (d : A) → i < length xs →
    enumerate_from 0 (take (i + 1) xs) ≡ enumerate_from 0 (take i xs) ++ (i, get_or xs i d) ∷ []
enumerate-more xs i d inside =
    ap (enumerate_from 0) (take_more xs i d inside)
    ∙ enumerate-push 0 i (take i xs) (get_or xs i d) (let l = length-take-le i xs (omega arith) in omega (arith, l))

pub map-enumerate-more : {A B : Type 0} (f : ℕ × A → B) (xs : List A) (i : ℕ) (d : A) → i < length xs →
    map f (enumerate_from 0 (take (i + 1) xs)) ≡ map f (enumerate_from 0 (take i xs)) ++ f (i, get_or xs i d) ∷ []
map-enumerate-more f xs i d inside =
    ap (map f) (enumerate-more xs i d inside) ∙ map-append f (enumerate_from 0 (take i xs)) ((i, get_or xs i d) ∷ [])

pub flat-push : {A B : Type 0} (f : A → List B) (xs : List A) (x : A) → flat_map f (xs ++ x ∷ []) ≡ flat_map f xs ++ f x
flat-push f xs x = sym (flat_map_more f [] xs x)

pub flat-enumerate-more : {A B : Type 0} (f : ℕ × A → List B) (xs : List A) (i : ℕ) (d : A) → i < length xs →
    flat_map f (enumerate_from 0 (take (i + 1) xs)) ≡ flat_map f (enumerate_from 0 (take i xs)) ++ f (i, get_or xs i d)
flat-enumerate-more f xs i d inside =
    ap (flat_map f) (enumerate-more xs i d inside) ∙ flat-push f (enumerate_from 0 (take i xs)) (i, get_or xs i d)

-- ---- What a search keeps

pub one-kept : {A : Type 0} (o : Option A) → cons_option o [] ≡ option_to_list o
one-kept None = refl
one-kept (Some x) = refl

pub kept-more : {A B : Type 0} (f : A → Option B) (xs : List A) (i : ℕ) (d : A) → i < length xs →
    filter_map f (take (i + 1) xs) ≡ filter_map f (take i xs) ++ option_to_list (f (get_or xs i d))
kept-more f xs i d inside =
    ap (filter_map f) (take_more xs i d inside) ∙ filter_map-append f (take i xs) (get_or xs i d ∷ [])
    ∙ ap (λ l. filter_map f (take i xs) ++ l) (one-kept (f (get_or xs i d)))

pub found-more : {B : Type 0} (f : ℕ → Option B) (a n b : ℕ) → a + n ≡ b →
    filter_map f (range_with_len a (n + 1)) ≡ filter_map f (range_with_len a n) ++ option_to_list (f b)
found-more f a n b e = ap (filter_map f) (range-more a n b e) ∙ filter_map-append f (range_with_len a n) (b ∷ [])
    ∙ ap (λ l. filter_map f (range_with_len a n) ++ l) (one-kept (f b))

-- ---- Numbers that pass a test

pub passed-more : (p : ℕ → Bool) (n : ℕ) (t : Bool) → p n ≡ t →
    filter p (range_with_len 0 (n + 1)) ≡ filter p (range_with_len 0 n) ++ cond t (n ∷ []) []
passed-more p n t e =
    ap (filter p) (range-more 0 n n (omega arith)) ∙ filter-append p (range_with_len 0 n) (n ∷ [])
    ∙ ap (λ b. filter p (range_with_len 0 n) ++ cond b (n ∷ []) []) e

-- ---- The first member that passes a test

pub found-at : {A : Type 0} (p : A → Bool) (xs : List A) (i : ℕ) (d : A) → i < length xs → find p (take i xs) ≡ None →
    p (get_or xs i d) ≡ true → Some (get_or xs i d) ≡ find p xs
found-at p [] i d inside none here = absurd (omega arith)
found-at p (x ∷ xs) zero d inside none here = ap (λ t. cond t (Some x) (find p xs)) (sym here)
found-at p (x ∷ xs) (suc i) d inside none here = by (p x) none (λ h. found-at p xs i d (omega arith) h here)
  where
    by : (t : Bool) → cond t (Some x) (find p (take i xs)) ≡ None →
        (find p (take i xs) ≡ None → Some (get_or xs i d) ≡ find p xs) →
        Some (get_or xs i d) ≡ cond t (Some x) (find p xs)
    by true h later = absurd (cc h)
    by false h later = later h

pub found-not : {A : Type 0} (p : A → Bool) (xs : List A) (i : ℕ) (d : A) → i < length xs → find p (take i xs) ≡ None →
    p (get_or xs i d) ≡ false → find p (take (i + 1) xs) ≡ None
found-not p xs i d inside none here =
    ap (find p) (take_more xs i d inside) ∙ find-append p (take i xs) (get_or xs i d ∷ [])
    ∙ ap (λ o. option_or o (find p (get_or xs i d ∷ []))) none ∙ ap (λ t. cond t (Some (get_or xs i d)) None) here

-- ---- First places

place-from : {A : Type 0} (t : A → Bool) (n : ℕ) (xs : List A) → unwrap_or (position_from t n xs) 0 ≤ n + length xs
place-from t n [] = omega arith
place-from t n (x ∷ xs) = by (t x) (place-from t (n + 1) xs)
  where
    by : (b : Bool) → unwrap_or (position_from t (n + 1) xs) 0 ≤ n + 1 + length xs →
        unwrap_or (cond b (Some n) (position_from t (n + 1) xs)) 0 ≤ n + length (x ∷ xs)
    by true h = omega arith
    by false h = omega (arith, h)

pub place-within : {A : Type 0} (t : A → Bool) (xs : List A) → unwrap_or (position_from t 0 xs) 0 ≤ length xs
place-within t xs = let h = place-from t 0 xs in omega (arith, h)

pub place-map : {A B : Type 0} (t : B → Bool) (f : A → B) (n : ℕ) (xs : List A) →
    position_from t n (map f xs) ≡ position_from (λ x. t (f x)) n xs
place-map t f n [] = refl
place-map t f n (x ∷ xs) = ap (cond (t (f x)) (Some n)) (place-map t f (n + 1) xs)

-- ---- Maps

pub map-map : {A B C : Type 0} (g : B → C) (f : A → B) (xs : List A) → map g (map f xs) ≡ map (λ x. g (f x)) xs
map-map g f [] = refl
map-map g f (x ∷ xs) = ap (λ ys. g (f x) ∷ ys) (map-map g f xs)

-- ---- What a loop pushes, after what was there before

-- of each member one
pub mapped-next : {A B : Type 0} (f : A → B) (xs : List A) (i : ℕ) (x : A) (before so_far now : List B) → i < length xs →
    x ≡ get_or xs i x → so_far ≡ before ++ map f (take i xs) → now ≡ so_far ++ f x ∷ [] → now ≡ before ++ map f (take (i + 1) xs)
mapped-next f xs i x before so_far now inside read is pushed =
    pushed ∙ ap (λ ys. ys ++ f x ∷ []) is ∙ append_assoc before (map f (take i xs)) (f x ∷ [])
    ∙ ap (λ y. before ++ (map f (take i xs) ++ f y ∷ [])) read ∙ ap (λ ys. before ++ ys) (sym (map_more f xs i x inside))

filter-next : {A : Type 0} (p : A → Bool) (xs : List A) (i : ℕ) (x : A) (t : Bool) → i < length xs → x ≡ get_or xs i x → p x ≡ t →
    filter p (take (i + 1) xs) ≡ filter p (take i xs) ++ cond t (x ∷ []) []
filter-next p xs i x t inside read told =
    filter_more p xs i x inside ∙ ap (λ y. filter p (take i xs) ++ cond (p y) (y ∷ []) []) (sym read)
    ∙ ap (λ b. filter p (take i xs) ++ cond b (x ∷ []) []) told

-- of each member that passes a test one
pub passed-then : {A B : Type 0} (p : A → Bool) (f : A → B) (xs : List A) (i : ℕ) (x : A) (before so_far now : List B) → i < length xs →
    x ≡ get_or xs i x → p x ≡ true → so_far ≡ before ++ map f (filter p (take i xs)) → now ≡ so_far ++ f x ∷ [] →
    now ≡ before ++ map f (filter p (take (i + 1) xs))
passed-then p f xs i x before so_far now inside read told is pushed =
    pushed ∙ ap (λ ys. ys ++ f x ∷ []) is ∙ append_assoc before (map f (filter p (take i xs))) (f x ∷ [])
    ∙ ap (λ ys. before ++ ys) (sym (ap (map f) (filter-next p xs i x true inside read told)
    ∙ map-append f (filter p (take i xs)) (x ∷ [])))

pub passed-else : {A B : Type 0} (p : A → Bool) (f : A → B) (xs : List A) (i : ℕ) (x : A) (before so_far : List B) → i < length xs →
    x ≡ get_or xs i x → p x ≡ false → so_far ≡ before ++ map f (filter p (take i xs)) →
    so_far ≡ before ++ map f (filter p (take (i + 1) xs))
passed-else p f xs i x before so_far inside read told is =
    is ∙ ap (λ ys. before ++ map f ys) (sym (filter-next p xs i x false inside read told ∙ append-nil (filter p (take i xs))))

-- of each member that passes a test several
pub several-then : {A B : Type 0} (p : A → Bool) (f : A → List B) (xs : List A) (i : ℕ) (x : A) (before so_far now : List B) →
    i < length xs → x ≡ get_or xs i x → p x ≡ true → so_far ≡ before ++ flat_map f (filter p (take i xs)) → now ≡ so_far ++ f x →
    now ≡ before ++ flat_map f (filter p (take (i + 1) xs))
several-then p f xs i x before so_far now inside read told is pushed =
    pushed ∙ ap (λ ys. ys ++ f x) is ∙ append_assoc before (flat_map f (filter p (take i xs))) (f x)
    ∙ ap (λ ys. before ++ ys) (sym (ap (flat_map f) (filter-next p xs i x true inside read told)
    ∙ flat-push f (filter p (take i xs)) x))

pub several-else : {A B : Type 0} (p : A → Bool) (f : A → List B) (xs : List A) (i : ℕ) (x : A) (before so_far : List B) →
    i < length xs → x ≡ get_or xs i x → p x ≡ false → so_far ≡ before ++ flat_map f (filter p (take i xs)) →
    so_far ≡ before ++ flat_map f (filter p (take (i + 1) xs))
several-else p f xs i x before so_far inside read told is =
    is ∙ ap (λ ys. before ++ flat_map f ys) (sym (filter-next p xs i x false inside read told ∙ append-nil (filter p (take i xs))))
