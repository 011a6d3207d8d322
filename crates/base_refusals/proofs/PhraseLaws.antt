-- How the text of a refusal with a list is put together.
use Rattle.std.proofs.Common.{rules, ◌≡◌, ap, List, [], ◌∷◌, ◌++◌, ℕ, map, flat_map, codes}
use Rattle.std.specs.List.{join_with_byte}
use Rattle.base_core.specs.declared.base.Place.{Place}
use Rattle.base_refusals.specs.Refusals.{refusal_phrase, line_word, Loop}

-- words joined by a space are the first, and each further one after a space
join_with_byte-map : {A : Type 0} (word : A → List ℕ) (first : List ℕ) (xs : List A) →
    join_with_byte 32 (first ∷ map word xs) ≡ first ++ flat_map (λ x. 32 ∷ word x) xs
join_with_byte-map word first [] = search rules
join_with_byte-map word first (x ∷ xs) = ap (λ rest. first ++ (32 ∷ rest)) (join_with_byte-map word (word x) xs)

-- what a loop says
pub refusal_phrase-Loop : (rows : List Place) → refusal_phrase (Loop rows) ≡ codes "F23 Loop"
    ++ flat_map (λ place. 32 ∷ line_word place) rows
refusal_phrase-Loop rows = ap (λ rest. 70 ∷ 50 ∷ 51 ∷ 32 ∷ rest) (join_with_byte-map line_word (codes "Loop") rows)
