-- Lists by row that are made from the front.
use Rattle.std.specs.Prelude.{◌≡◌, ℕ, ◌+◌, List, [], ◌∷◌, ◌++◌, map}
use Rattle.std.specs.List.{range_with_len}
use Rattle.std.proofs.Common.{◌∙◌, sym, arith}
use Rattle.std.proofs.lemmas.List.FromFn.{map-range_with_len_more}

-- one more item, that of row b
pub row-more : {X : Type 0} (f : ℕ → X) (b : ℕ) (before after : List X) (item : X) →
    before ≡ map f (range_with_len 0 b) → after ≡ before ++ item ∷ [] → item ≡ f b → after ≡ map f (range_with_len 0 (b + 1))
row-more f b before after item so_far pushed is =
    pushed ∙ (λ i. so_far i ++ is i ∷ []) ∙ sym (map-range_with_len_more f 0 b b (omega arith))
