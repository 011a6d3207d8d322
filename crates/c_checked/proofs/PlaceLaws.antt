-- Where something is in a list, and in what is seen of it.
use Rattle.std.proofs.Common.{◌≡◌, refl, ◌∙◌, ap, ℕ, ◌+◌, Bool, cond, List, [], ◌∷◌, map, position, Some}
use Rattle.std.specs.List.{position_from}
use Rattle.std.proofs.lemmas.Iterator.Adapters.{position_from-zero}

position_from-map : {A B : Type 0} (view : A → B) (test : B → Bool) (i : ℕ) (items : List A) →
    position_from (λ x. test (view x)) i items ≡ position_from test i (map view items)
position_from-map view test i [] = refl
position_from-map view test i (x ∷ xs) = ap (λ o. cond (test (view x)) (Some i) o) (position_from-map view test (i + 1) xs)

pub position-mapped : {A B : Type 0} (view : A → B) (test : B → Bool) (items : List A) →
    position (λ x. test (view x)) items ≡ position_from test 0 (map view items)
position-mapped view test items = position_from-zero (λ x. test (view x)) items ∙ position_from-map view test 0 items
