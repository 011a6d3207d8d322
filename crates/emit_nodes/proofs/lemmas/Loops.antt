-- Steps of loops that push what they make of a list's elements.
use Rattle.std.proofs.Common.{◌≡◌, sym, ap, ap₂, ◌∙◌, ℕ, ◌+◌, ◌<◌, List, [], ◌∷◌, ◌++◌, map, take, length, get_or, append_assoc}
use Rattle.std.proofs.lemmas.List.{map_more, map_push}

-- so far these, and one more
pub pushed : {S T : Type 0} (g : S → T) (old so_far : List S) (s : S) (front : List T) (y : T) → g s ≡ y →
    map g so_far ≡ map g old ++ front →
    map g (so_far ++ s ∷ []) ≡ map g old ++ (front ++ y ∷ [])
pushed g old so_far s front y told before = map_push g so_far s ∙ ap₂ (λ ys z. ys ++ z ∷ []) before told
    ∙ append_assoc (map g old) front (y ∷ [])

pub mapped_more : {A S T : Type 0} (g : S → T) (f : A → T) (old so_far now : List S) (s : S) (xs : List A) (i : ℕ) (x : A) →
    i < length xs → x ≡ get_or xs i x → g s ≡ f x → map g so_far ≡ map g old ++ map f (take i xs) → now ≡ so_far ++ s ∷ [] →
    map g now ≡ map g old ++ map f (take (i + 1) xs)
mapped_more g f old so_far now s xs i x inside read told before is =
    ap (map g) is ∙ pushed g old so_far s (map f (take i xs)) (f (get_or xs i x)) (told ∙ ap f read) before
    ∙ ap (λ ys. map g old ++ ys) (sym (map_more f xs i x inside))
