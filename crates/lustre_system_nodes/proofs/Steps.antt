-- Lists that a loop makes, one step on.
use Rattle.std.proofs.Common.{◌≡◌, ℕ, ◌+◌, ◌<◌, List, [], ◌∷◌, ◌++◌, map, take, length, get_or, sym, ap, ◌∙◌}
use Rattle.std.specs.List.{flat_map, range_with_len}
use Rattle.std.proofs.lemmas.List.{take_more, flat_map_more, append_assoc}
use Rattle.std.proofs.lemmas.List.FromFn.{map-range_with_len_more}

-- of each number one
pub numbered-next : {A : Type 0} (f : ℕ → A) (a k j : ℕ) (x : A) (before so_far now : List A) → a + k ≡ j → x ≡ f j →
    so_far ≡ before ++ map f (range_with_len a k) → now ≡ so_far ++ x ∷ [] → now ≡ before ++ map f (range_with_len a (k + 1))
numbered-next f a k j x before so_far now place read is pushed =
    pushed ∙ ap (λ ys. ys ++ x ∷ []) is ∙ append_assoc before (map f (range_with_len a k)) (x ∷ [])
    ∙ ap (λ y. before ++ (map f (range_with_len a k) ++ y ∷ [])) read
    ∙ ap (λ ys. before ++ ys) (sym (map-range_with_len_more f a k j place))

-- of each member several
pub flat-next : {A B : Type 0} (f : A → List B) (xs : List A) (i : ℕ) (x : A) (before so_far now : List B) → i < length xs →
    x ≡ get_or xs i x → so_far ≡ before ++ flat_map f (take i xs) → now ≡ so_far ++ f x →
    now ≡ before ++ flat_map f (take (i + 1) xs)
flat-next f xs i x before so_far now below read is pushed =
    pushed ∙ ap (λ ys. ys ++ f x) is ∙ flat_map_more f before (take i xs) x
    ∙ ap (λ y. before ++ flat_map f (take i xs ++ y ∷ [])) read
    ∙ ap (λ ys. before ++ flat_map f ys) (sym (take_more xs i x below))
