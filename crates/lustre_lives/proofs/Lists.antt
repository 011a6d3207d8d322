-- Two lists that are alike place by place.
use Rattle.std.proofs.Common.{◌≡◌, refl, ap, ap₂, ℕ, suc, ◌<◌, List, [], ◌∷◌, length, map, slice_index_or, arith}
use Rattle.std.specs.List.{AllZip}

pub zip-length : {A B : Type 0} (R : A → B → Type 0) (xs : List A) (ys : List B) → AllZip R xs ys → length xs ≡ length ys
zip-length R [] [] all = refl
zip-length R [] (y ∷ ys) all = absurd all
zip-length R (x ∷ xs) [] all = absurd all
zip-length R (x ∷ xs) (y ∷ ys) all = ap suc (zip-length R xs ys all.1)

pub same-maps : {A B C : Type 0} (f : A → C) (g : B → C) (xs : List A) (ys : List B) (d : A) (e : B) → length xs ≡ length ys →
    ((k : ℕ) → k < length xs → f (slice_index_or xs k d) ≡ g (slice_index_or ys k e)) → map f xs ≡ map g ys
same-maps f g [] [] d e many each = refl
same-maps f g [] (y ∷ ys) d e many each = absurd (omega arith)
same-maps f g (x ∷ xs) [] d e many each = absurd (omega arith)
same-maps {C = C} f g (x ∷ xs) (y ∷ ys) d e many each =
    ap₂ {C = List C} (λ z zs. z ∷ zs) (each 0 (omega arith))
    (same-maps f g xs ys d e (omega arith) (λ k below. each (suc k) (omega arith)))
