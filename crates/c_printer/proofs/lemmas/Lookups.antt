-- What is at a position of a list, through maps.
use Rattle.std.proofs.Common.{◌≡◌, sym, ap, ℕ, zero, suc, ◌<◌, List, [], ◌∷◌, length, map, get_or, arith}

-- what a function gives of the element at a position
pub map_at : {A B : Type 0} (f : A → B) (xs : List A) (k : ℕ) (x : A) (d : B) → k < length xs → x ≡ get_or xs k x →
    get_or (map f xs) k d ≡ f x
map_at f [] k x d within here = absurd (omega (arith, within))
map_at f (y ∷ xs) zero x d within here = ap f (sym here)
map_at f (y ∷ xs) (suc k) x d within here = map_at f xs k x d (omega (arith, within)) here

-- the same, through two maps
pub map-map_at : {A B C : Type 0} (g : B → C) (f : A → B) (xs : List A) (k : ℕ) (x : A) (d : C) → k < length xs →
    x ≡ get_or xs k x → get_or (map g (map f xs)) k d ≡ g (f x)
map-map_at g f [] k x d within here = absurd (omega (arith, within))
map-map_at g f (y ∷ xs) zero x d within here = ap (λ z. g (f z)) (sym here)
map-map_at g f (y ∷ xs) (suc k) x d within here = map-map_at g f xs k x d (omega (arith, within)) here
