-- A list of which the first so many items are mapped.
use Rattle.std.specs.Prelude.{ℕ, zero, suc, List, [], ◌∷◌}

abbrev pub partly_mapped : {A : Type 0} → (A → A) → ℕ → List A → List A
partly_mapped f zero xs = xs
partly_mapped f (suc n) [] = []
partly_mapped f (suc n) (x ∷ xs) = f x ∷ partly_mapped f n xs
