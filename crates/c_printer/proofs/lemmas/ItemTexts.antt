-- The texts of the items of a list, one after another.
use Rattle.std.proofs.Common.{◌≡◌, sym, ◌∙◌, ap, ℕ, ◌+◌, ◌<◌, ◌≤◌, List, [], ◌∷◌, ◌++◌, length, take, get_or, arith}
use Rattle.std.specs.List.{flat_map, enumerate_from}
use Rattle.std.proofs.lemmas.List.{take_more, flat_map_more, length-take-le, take_all}

-- one more text after those of a list's first items
pub flat_map-put : {A : Type 0} (text : A → List ℕ) (xs : List A) (i : ℕ) (x : A) (old out new : List ℕ) →
    i < length xs → x ≡ get_or xs i x → out ≡ old ++ flat_map text (take i xs) → new ≡ out ++ text x →
    new ≡ old ++ flat_map text (take (i + 1) xs)
flat_map-put text xs i x old out new within here so_far put =
    put ∙ ap (λ y. y ++ text x) so_far ∙ flat_map_more text old (take i xs) x
    ∙ ap (λ y. old ++ flat_map text y) (sym (take_more xs i x within ∙ ap (λ y. take i xs ++ y ∷ []) (sym here)))

-- the same where the items are numbered
enumerate-more : {A : Type 0} (n : ℕ) (xs : List A) (i : ℕ) (x : A) → i < length xs → x ≡ get_or xs i x →
    enumerate_from n (take (i + 1) xs) ≡ enumerate_from n (take i xs) ++ (n + i, x) ∷ []
enumerate-more {A} n xs i x within here =
    ap (enumerate_from n) (take_more xs i x within) ∙ ap (λ y. enumerate_from n (take i xs ++ y ∷ [])) (sym here)
    ∙ at-back n (take i xs)
    ∙ ap (λ m. enumerate_from n (take i xs) ++ (n + m, x) ∷ [])
    (length-take-le i xs (let short : i ≤ length xs = omega (arith, within) in short))
  where
    at-back : (m : ℕ) (ys : List A) → enumerate_from m (ys ++ x ∷ []) ≡ enumerate_from m ys ++ (m + length ys, x) ∷ []
    at-back m [] = ap (λ k. (k, x) ∷ []) (let same : m ≡ m + 0 = omega arith in same)
    at-back m (y ∷ ys) =
        ap (λ zs. (m, y) ∷ zs) (at-back (m + 1) ys
        ∙ ap (λ k. enumerate_from (m + 1) ys ++ (k, x) ∷ [])
        (let same : m + 1 + length ys ≡ m + length (y ∷ ys) = omega arith in same))

pub numbered-put : {A : Type 0} (text : ℕ × A → List ℕ) (xs : List A) (i : ℕ) (x : A) (old out new : List ℕ) →
    i < length xs → x ≡ get_or xs i x → out ≡ old ++ flat_map text (enumerate_from 0 (take i xs)) → new ≡ out ++ text (i, x) →
    new ≡ old ++ flat_map text (enumerate_from 0 (take (i + 1) xs))
numbered-put text xs i x old out new within here so_far put =
    put ∙ ap (λ y. y ++ text (i, x)) so_far ∙ flat_map_more text old (enumerate_from 0 (take i xs)) (i, x)
    ∙ ap (λ y. old ++ flat_map text y)
    (sym (enumerate-more 0 xs i x within here
    ∙ ap (λ k. enumerate_from 0 (take i xs) ++ (k, x) ∷ []) (let same : 0 + i ≡ i = omega arith in same)))

pub numbered-done : {A : Type 0} (text : ℕ × A → List ℕ) (xs : List A) (i : ℕ) (old out : List ℕ) → length xs ≤ i →
    out ≡ old ++ flat_map text (enumerate_from 0 (take i xs)) → out ≡ old ++ flat_map text (enumerate_from 0 xs)
numbered-done text xs i old out end so_far = so_far ∙ ap (λ ys. old ++ flat_map text (enumerate_from 0 ys)) (take_all i xs end)
