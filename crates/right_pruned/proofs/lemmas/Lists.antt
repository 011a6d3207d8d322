-- What holds of each item of a list that is mapped, or beside another.
use Rattle.std.specs.Prelude.{◌≡◌, Bool, true, false, cond, List, [], ◌∷◌, map, filter, Contains}
use Rattle.std.specs.List.{AllByRecursion, AllZip}
use Rattle.std.proofs.Common.{refl, ap, subst, inl, inr}
use Rattle.modules_profile.proofs.lemmas.Members.{in-none, in-cases}

pub each-map : {A B : Type 0} (f : A → B) (P : A → Type 0) (Q : B → Type 0) (xs : List A) → ((x : A) → P x → Q (f x)) →
    AllByRecursion P xs → AllByRecursion Q (map f xs)
each-map f P Q [] next h = tt
each-map f P Q (x ∷ xs) next h = (next x h.0, each-map f P Q xs next h.1)

pub member : {A : Type 0} (P : A → Type 0) (xs : List A) (x : A) → AllByRecursion P xs → Contains xs x → P x
member P [] x all has = absurd (in-none x has)
member P (y ∷ ys) x all has = elim (in-cases y x ys has) [ inl same ↦ subst P same all.0 | inr more ↦ member P ys x all.1 more ]

pub zip-map : {A B C : Type 0} (f : B → C) (R : A → B → Type 0) (S : A → C → Type 0) →
    ((a : A) (b : B) → R a b → S a (f b)) → (firsts : List A) (bs : List B) → AllZip R firsts bs →
    AllZip S firsts (map f bs)
zip-map f R S next [] [] h = tt
zip-map f R S next [] (b ∷ bs) h = absurd h
zip-map f R S next (a ∷ firsts) [] h = absurd h
zip-map f R S next (a ∷ firsts) (b ∷ bs) h = (next a b h.0, zip-map f R S next firsts bs h.1)

pub filter-map : {A B : Type 0} (f : A → B) (test : B → Bool) (xs : List A) → filter test (map f xs) ≡ map f (filter (λ x. test (f x)) xs)
filter-map f test [] = refl
filter-map {A = A} f test (x ∷ xs) = by (test (f x)) (filter-map f test xs)
  where
    by : (b : Bool) → filter test (map f xs) ≡ map f (filter (λ y. test (f y)) xs) →
        cond b (f x ∷ filter test (map f xs)) (filter test (map f xs))
        ≡ map f (cond b (x ∷ filter (λ y. test (f y)) xs) (filter (λ y. test (f y)) xs))
    by true e = ap (λ ys. f x ∷ ys) e
    by false e = e
