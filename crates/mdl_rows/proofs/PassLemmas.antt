-- Lists that are gone through item by item.
use Rattle.std.proofs.Common.{◌≡◌, refl, sym, ◌∙◌, ap, subst, ℕ, ◌+◌, ◌<◌, ◌≤◌, List, [], ◌∷◌, ◌++◌, length, drop, slice_index_or, drop_of_length-le, append_assoc, append-nil, Option, None, Some, map}
use Rattle.std.specs.Prelude.{filter_map, option_map, option_to_list}
use Rattle.std.specs.List.{AllZip, cons_option}
use Rattle.std.proofs.lemmas.List.{map-append}
use Rattle.mdl_rows.proofs.FirstLemmas.{items-from}

cons-option : {A : Type 0} (o : Option A) (xs : List A) → cons_option o xs ≡ option_to_list o ++ xs
cons-option None xs = refl
cons-option (Some x) xs = refl

map-option : {A B : Type 0} (f : A → B) (o : Option A) → map f (option_to_list o) ≡ option_to_list (option_map f o)
map-option f None = refl
map-option f (Some x) = refl

-- one item more is taken, where what is taken is shown
pub shown-at : {A B C H : Type 0} (f : B → Option C) (show : A → B) (shown : H → C) (xs : List A) (i : ℕ) (d : A)
    (olds news : List H) (o : Option H) (whole : List C) →
    i < length xs → option_map shown o ≡ f (show (slice_index_or xs i d)) → news ≡ olds ++ option_to_list o →
    map shown olds ++ filter_map f (map show (drop i xs)) ≡ whole → map shown news ++ filter_map f (map show (drop (i + 1) xs)) ≡ whole
shown-at f show shown xs i d olds news o whole h is pushed all =
    let rest = filter_map f (map show (drop (i + 1) xs)) in
    ap (λ ns. map shown ns ++ rest) pushed ∙ ap (λ ns. ns ++ rest) (map-append shown olds (option_to_list o))
    ∙ append_assoc (map shown olds) (map shown (option_to_list o)) rest
    ∙ ap (λ ys. map shown olds ++ ys)
    (ap (λ ys. ys ++ rest) (map-option shown o ∙ ap option_to_list is) ∙ sym (cons-option (f (show (slice_index_or xs i d))) rest)
    ∙ ap (filter_map f) (sym (items-from show xs i d h)))
    ∙ all

-- the same where it is taken as it is
pub taken-at : {A B C : Type 0} (f : B → Option C) (show : A → B) (xs : List A) (i : ℕ) (d : A) (olds news : List C)
    (o : Option C) (whole : List C) →
    i < length xs → o ≡ f (show (slice_index_or xs i d)) → news ≡ olds ++ option_to_list o →
    olds ++ filter_map f (map show (drop i xs)) ≡ whole → news ++ filter_map f (map show (drop (i + 1) xs)) ≡ whole
taken-at f show xs i d olds news o whole h is pushed all =
    let rest = filter_map f (map show (drop (i + 1) xs)) in
    ap (λ ns. ns ++ rest) pushed ∙ append_assoc olds (option_to_list o) rest
    ∙ ap (λ ys. olds ++ ys)
    (ap (λ ys. ys ++ rest) (ap option_to_list is) ∙ sym (cons-option (f (show (slice_index_or xs i d))) rest)
    ∙ ap (filter_map f) (sym (items-from show xs i d h)))
    ∙ all

-- what is taken of all
pub taken-end : {A B C : Type 0} (f : B → Option C) (show : A → B) (xs : List A) (i : ℕ) (olds whole : List C) → length xs ≤ i →
    olds ++ filter_map f (map show (drop i xs)) ≡ whole → olds ≡ whole
taken-end f show xs i olds whole h all =
    sym (append-nil olds) ∙ ap (λ ys. olds ++ filter_map f (map show ys)) (sym (drop_of_length-le xs h)) ∙ all

-- one item more is paired
pub zip-at : {A B C : Type 0} (R : B → C → Type 0) (show : A → B) (xs : List A) (i : ℕ) (d : A) (olds news : List C)
    (y : C) (front : List B) → i < length xs →
    R (show (slice_index_or xs i d)) y → news ≡ olds ++ y ∷ [] →
    ((rest : List C) → AllZip R (map show (drop i xs)) rest → AllZip R front (olds ++ rest)) →
    (rest : List C) → AllZip R (map show (drop (i + 1) xs)) rest → AllZip R front (news ++ rest)
zip-at R show xs i d olds news y front h is pushed all rest zip =
    subst (λ ys. AllZip R front ys) (sym (ap (λ ys. ys ++ rest) pushed ∙ append_assoc olds (y ∷ []) rest))
    (all (y ∷ rest) (subst (λ bs. AllZip R bs (y ∷ rest)) (sym (items-from show xs i d h)) (is, zip)))

-- all are paired
pub zip-end : {A B C : Type 0} (R : B → C → Type 0) (show : A → B) (xs : List A) (i : ℕ) (olds : List C) (front : List B) → length xs ≤ i →
    ((rest : List C) → AllZip R (map show (drop i xs)) rest → AllZip R front (olds ++ rest)) → AllZip R front olds
zip-end R show xs i olds front h all =
    subst (λ ys. AllZip R front ys) (append-nil olds)
    (all [] (subst (λ bs. AllZip R (map show bs) []) (sym (drop_of_length-le xs h)) tt))
