-- Passes over blocks in memory, one by one, and over the systems inside them.
use Rattle.std.proofs.Common.{◌≡◌, refl, sym, ◌∙◌, ap, ℕ, suc, ◌+◌, ◌<◌, ◌≤◌, List, [], ◌∷◌, length, drop, slice_index_or, drop-cons, drop_of_length-le, Option, map, arith}
use Rattle.std.specs.Prelude.{flat_map}
use Rattle.base_refusals.specs.Refusals.{PlainRefusal}
use Rattle.base_refusals.specs.FirstRefusal.{earlier_of, least_in}
use Rattle.base_refusals.proofs.lemmas.FirstRefusals.{earlier_assoc, earlier-none, least-append}

one_more : (i : ℕ) → suc i ≡ i + 1
one_more i = omega arith

-- the items from one place on
pub items-from : {A B : Type 0} (show : A → B) (xs : List A) (i : ℕ) (d : A) → i < length xs →
    map show (drop i xs) ≡ show (slice_index_or xs i d) ∷ map show (drop (i + 1) xs)
items-from show xs i d h =
    ap (map show) (drop-cons xs i d h) ∙ ap (λ k. show (slice_index_or xs i d) ∷ map show (drop k xs)) (one_more i)

-- one item more is looked at
pub least-at : {A B : Type 0} (found : B → Option PlainRefusal) (show : A → B) (xs : List A) (i : ℕ) (d : A)
    (before now whole : Option PlainRefusal) → i < length xs →
    now ≡ earlier_of before (found (show (slice_index_or xs i d))) →
    earlier_of before (least_in found (map show (drop i xs))) ≡ whole → earlier_of now (least_in found (map show (drop (i + 1) xs))) ≡ whole
least-at found show xs i d before now whole h e all =
    let rest = least_in found (map show (drop (i + 1) xs)) in
    ap (λ o. earlier_of o rest) e ∙ earlier_assoc before (found (show (slice_index_or xs i d))) rest
    ∙ ap (λ ys. earlier_of before (least_in found ys)) (sym (items-from show xs i d h)) ∙ all

-- all are looked at
pub least-end : {A B : Type 0} (found : B → Option PlainRefusal) (show : A → B) (xs : List A) (i : ℕ)
    (before whole : Option PlainRefusal) → length xs ≤ i →
    earlier_of before (least_in found (map show (drop i xs))) ≡ whole → before ≡ whole
least-end found show xs i before whole h all =
    sym (earlier-none before) ∙ ap (λ ys. earlier_of before (least_in found (map show ys))) (sym (drop_of_length-le xs h)) ∙ all

-- what is found in the lists of some items is found item by item
pub least-inside : {A B : Type 0} (found : B → Option PlainRefusal) (inside : A → List B) (xs : List A) →
    least_in (λ x. least_in found (inside x)) xs ≡ least_in found (flat_map inside xs)
least-inside found inside [] = refl
least-inside found inside (x ∷ xs) =
    ap (earlier_of (least_in found (inside x))) (least-inside found inside xs) ∙ sym (least-append found (inside x) (flat_map inside xs))
