-- Lists: what holds of each element, and where elements with different names are.
use Rattle.std.specs.Prelude.{◌≡◌, ℕ, suc, ◌+◌, List, [], ◌∷◌, map, length, slice_get, Contains, Some, bytes_eq, refl}
use Rattle.std.specs.List.{AllByRecursion, AllZip, position_from}
use Rattle.std.proofs.Common.{sym, ap, subst, ◌∙◌, arith, inl, inr}
use Rattle.std.proofs.lemmas.Option.{get_or_from_slice_get}
use Rattle.modules_profile.proofs.lemmas.Members.{in-none, in-first, in-rest, in-cases, at-map, at-below}
use Rattle.c_syntax.specs.Names.{name_at}
use Rattle.c_syntax.specs.Lawful.{AreDistinct}
use Rattle.c_syntax.proofs.lemmas.NamePlaces.{position_from-named}

pub member-holds : {A : Type 0} (P : A → Type 0) (xs : List A) (x : A) → AllByRecursion P xs → Contains xs x → P x
member-holds P [] x all has = absurd (in-none x has)
member-holds P (y ∷ ys) x all has = elim (in-cases y x ys has) [
  | inl same ↦ subst P same all.0
  | inr more ↦ member-holds P ys x all.1 more
]

pub all-mapped : {A B : Type 0} (P : B → Type 0) (f : A → B) (xs : List A) → ((x : A) → Contains xs x → P (f x)) →
    AllByRecursion P (map f xs)
all-mapped P f [] each = tt
all-mapped P f (x ∷ xs) each = (each x (in-first x xs), all-mapped P f xs (λ y has. each y (in-rest x y xs has)))

pub map-map : {A B C : Type 0} (g : B → C) (f : A → B) (xs : List A) → map g (map f xs) ≡ map (λ x. g (f x)) xs
map-map g f [] = refl
map-map g f (x ∷ xs) = ap (λ ys. g (f x) ∷ ys) (map-map g f xs)

pub zip-long : {A B : Type 0} (P : A → B → Type 0) (xs : List A) (ys : List B) → AllZip P xs ys → length xs ≡ length ys
zip-long P [] [] all = refl
zip-long P [] (y ∷ ys) all = absurd all
zip-long P (x ∷ xs) [] all = absurd all
zip-long P (x ∷ xs) (y ∷ ys) all = ap suc (zip-long P xs ys all.1)

-- of elements with different names, the one at a place is the first with its name
pub name-place : {A : Type 0} (name : A → List ℕ) (xs : List A) (k : ℕ) (x : A) (wanted : List ℕ) → AreDistinct (map name xs) →
    slice_get xs k ≡ Some x → name x ≡ wanted → position_from (λ y. bytes_eq (name y) wanted) 0 xs ≡ Some k
name-place name xs k x wanted distinct at is =
    let named : slice_get (map name xs) k ≡ Some wanted = at-map name xs k x at ∙ ap Some is in
    let here : name_at (map name xs) k ≡ wanted = get_or_from_slice_get (map name xs) k wanted [] named in
    let none_more : 0 + k ≡ k = omega arith in
    ap (λ n. position_from (λ y. bytes_eq (name y) n) 0 xs) (sym here)
    ∙ position_from-named name xs 0 k distinct (at-below (map name xs) k wanted named) ∙ ap Some none_more
