-- What holds of each member of a list.
use Rattle.std.specs.Prelude.{◌≡◌, List, [], ◌∷◌, map, Contains, refl}
use Rattle.std.specs.List.{AllByRecursion, AllZip}
use Rattle.std.proofs.Common.{ap, ap₂, subst, inl, inr}
use Rattle.modules_profile.proofs.lemmas.Members.{in-none, in-first, in-rest, in-cases}

-- all members pass, so this one does
pub member : {A : Type 0} (P : A → Type 0) (xs : List A) (x : A) → AllByRecursion P xs → Contains xs x → P x
member P [] x all has = absurd (in-none x has)
member P (y ∷ ys) x all has = elim (in-cases y x ys has) [ inl same ↦ subst P same all.0 | inr more ↦ member P ys x all.1 more ]

pub all-made : {A : Type 0} (P : A → Type 0) (xs : List A) → ((x : A) → Contains xs x → P x) → AllByRecursion P xs
all-made P [] all = tt
all-made P (x ∷ xs) all = (all x (in-first x xs), all-made P xs (λ y has. all y (in-rest x y xs has)))

-- ---- What is made of each member

pub zip-along : {A B : Type 0} (P : A → B → Type 0) (f : A → B) (xs : List A) →
    ((x : A) → Contains xs x → P x (f x)) → AllZip P xs (map f xs)
zip-along P f [] all = tt
zip-along P f (x ∷ xs) all = (all x (in-first x xs), zip-along P f xs (λ y has. all y (in-rest x y xs has)))

pub zip-made : {A B C : Type 0} (P : B → C → Type 0) (f : A → B) (g : A → C) (xs : List A) →
    ((x : A) → Contains xs x → P (f x) (g x)) → AllZip P (map f xs) (map g xs)
zip-made P f g [] all = tt
zip-made P f g (x ∷ xs) all = (all x (in-first x xs), zip-made P f g xs (λ y has. all y (in-rest x y xs has)))

pub map-same : {A B : Type 0} (f g : A → B) (xs : List A) → ((x : A) → Contains xs x → f x ≡ g x) → map f xs ≡ map g xs
map-same f g [] same = refl
map-same f g (x ∷ xs) same = ap₂ (λ y ys. y ∷ ys) (same x (in-first x xs)) (map-same f g xs (λ z has. same z (in-rest x z xs has)))

pub map-map : {A B C : Type 0} (g : B → C) (f : A → B) (xs : List A) → map g (map f xs) ≡ map (λ x. g (f x)) xs
map-map g f [] = refl
map-map g f (x ∷ xs) = ap (λ rest. g (f x) ∷ rest) (map-map g f xs)
