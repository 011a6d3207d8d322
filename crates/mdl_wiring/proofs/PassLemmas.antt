-- Passes over items in memory, one by one.
use Rattle.std.proofs.Common.{◌≡◌, sym, ◌∙◌, ap, ℕ, suc, ◌+◌, ◌<◌, ◌≤◌, List, [], ◌∷◌, ◌++◌, length, drop, take, slice_index_or, drop-cons, drop_of_length-le, Option, map, arith}
use Rattle.std.proofs.lemmas.List.{take_more, map-append, length-map, length-take-le}
use Rattle.base_refusals.specs.Refusals.{PlainRefusal}
use Rattle.base_refusals.specs.FirstRefusal.{earlier_of, least_in}
use Rattle.base_refusals.proofs.lemmas.FirstRefusals.{earlier_assoc, earlier-none}
use Rattle.mdl_wiring.specs.Refusals.{least_from}

one_more : (i : ℕ) → suc i ≡ i + 1
one_more i = omega arith

-- the items from one place on
pub items-from : {A B : Type 0} (show : A → B) (xs : List A) (i : ℕ) (d : A) → i < length xs →
    map show (drop i xs) ≡ show (slice_index_or xs i d) ∷ map show (drop (i + 1) xs)
items-from show xs i d h =
    ap (map show) (drop-cons xs i d h) ∙ ap (λ k. show (slice_index_or xs i d) ∷ map show (drop k xs)) (one_more i)

-- one item more is looked at
pub least-at : {A B : Type 0} (found : B → Option PlainRefusal) (show : A → B) (xs : List A) (i : ℕ) (d : A)
    (before now whole : Option PlainRefusal) → i < length xs →
    now ≡ earlier_of before (found (show (slice_index_or xs i d))) →
    earlier_of before (least_in found (map show (drop i xs))) ≡ whole → earlier_of now (least_in found (map show (drop (i + 1) xs))) ≡ whole
least-at found show xs i d before now whole h e all =
    let rest = least_in found (map show (drop (i + 1) xs)) in
    ap (λ o. earlier_of o rest) e ∙ earlier_assoc before (found (show (slice_index_or xs i d))) rest
    ∙ ap (λ ys. earlier_of before (least_in found ys)) (sym (items-from show xs i d h)) ∙ all

-- all are looked at
pub least-end : {A B : Type 0} (found : B → Option PlainRefusal) (show : A → B) (xs : List A) (i : ℕ)
    (before whole : Option PlainRefusal) → length xs ≤ i →
    earlier_of before (least_in found (map show (drop i xs))) ≡ whole → before ≡ whole
least-end found show xs i before whole h all =
    sym (earlier-none before) ∙ ap (λ ys. earlier_of before (least_in found (map show ys))) (sym (drop_of_length-le xs h)) ∙ all

-- one item more is looked at, with its place
pub from-at : {A B : Type 0} (found : ℕ → B → Option PlainRefusal) (show : A → B) (xs : List A) (i : ℕ) (d : A)
    (before now whole : Option PlainRefusal) → i < length xs →
    now ≡ earlier_of before (found i (show (slice_index_or xs i d))) →
    earlier_of before (least_from found i (map show (drop i xs))) ≡ whole →
    earlier_of now (least_from found (i + 1) (map show (drop (i + 1) xs))) ≡ whole
from-at found show xs i d before now whole h e all =
    let rest = least_from found (i + 1) (map show (drop (i + 1) xs)) in
    ap (λ o. earlier_of o rest) e ∙ earlier_assoc before (found i (show (slice_index_or xs i d))) rest
    ∙ ap (λ ys. earlier_of before (least_from found i ys)) (sym (items-from show xs i d h)) ∙ all

-- all are looked at
pub from-end : {A B : Type 0} (found : ℕ → B → Option PlainRefusal) (show : A → B) (xs : List A) (i : ℕ)
    (before whole : Option PlainRefusal) → length xs ≤ i →
    earlier_of before (least_from found i (map show (drop i xs))) ≡ whole → before ≡ whole
from-end found show xs i before whole h all =
    sym (earlier-none before) ∙ ap (λ ys. earlier_of before (least_from found i (map show ys))) (sym (drop_of_length-le xs h)) ∙ all

-- the items up to one place more
pub items-more : {A B : Type 0} (show : A → B) (xs : List A) (i : ℕ) (d : A) → i < length xs →
    map show (take i xs) ++ show (slice_index_or xs i d) ∷ [] ≡ map show (take (i + 1) xs)
items-more show xs i d h = sym (ap (map show) (take_more xs i d h) ∙ map-append show (take i xs) (slice_index_or xs i d ∷ []))

-- a place is the number of items before it
pub as-many : {A B : Type 0} (show : A → B) (xs : List A) (i : ℕ) → i < length xs → i ≡ length (map show (take i xs))
as-many show xs i h = sym (length-map (take i xs) show ∙ length-take-le i xs (omega arith))
