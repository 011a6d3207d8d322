-- Members of lists, and what is made of each.
use Rattle.std.specs.Prelude.{◌≡◌, ℕ, ◌+◌, List, [], ◌∷◌, map, slice_get, Contains, Some, bytes_eq, refl}
use Rattle.std.specs.List.{AllByRecursion, position_from}
use Rattle.std.proofs.Common.{sym, ap, subst, ◌∙◌, arith, inl, inr}
use Rattle.std.proofs.lemmas.Option.{get_or_from_slice_get}
use Rattle.modules_profile.proofs.lemmas.Members.{in-none, in-first, in-rest, in-cases, at-below, at-map}
use Rattle.c_syntax.specs.Names.{name_at}
use Rattle.c_syntax.specs.Lawful.{AreDistinct}
use Rattle.c_syntax.proofs.lemmas.NamePlaces.{position_from-named}

-- what holds of each holds of a member
pub member : {A : Type 0} (P : A → Type 0) (xs : List A) (x : A) → AllByRecursion P xs → Contains xs x → P x
member P [] x all has = absurd (in-none x has)
member P (y ∷ ys) x all has = elim (in-cases y x ys has) [ inl same ↦ subst P same all.0 | inr more ↦ member P ys x all.1 more ]

-- what holds of each member follows in each
pub each-in : {A : Type 0} (P Q : A → Type 0) (xs : List A) → ((x : A) → Contains xs x → P x → Q x) → AllByRecursion P xs →
    AllByRecursion Q xs
each-in P Q [] next h = tt
each-in P Q (x ∷ xs) next h =
    (next x (in-first x xs) h.0, each-in P Q xs (λ y has one. next y (in-rest x y xs has) one) h.1)

-- the same of each
pub map-same : (f g : ℕ → ℕ) (xs : List ℕ) → ((x : ℕ) → Contains xs x → g x ≡ f x) → map g xs ≡ map f xs
map-same f g [] each = refl
map-same f g (x ∷ xs) each = λ i. each x (in-first x xs) i ∷ map-same f g xs (λ y has. each y (in-rest x y xs has)) i

-- of elements with different names, the one at a place is the first with its name
pub name-place : {A : Type 0} (name : A → List ℕ) (xs : List A) (k : ℕ) (x : A) (wanted : List ℕ) → AreDistinct (map name xs) →
    slice_get xs k ≡ Some x → name x ≡ wanted → position_from (λ y. bytes_eq (name y) wanted) 0 xs ≡ Some k
name-place name xs k x wanted distinct at is =
    let named : slice_get (map name xs) k ≡ Some wanted = at-map name xs k x at ∙ ap Some is in
    let here : name_at (map name xs) k ≡ wanted = get_or_from_slice_get (map name xs) k wanted [] named in
    let none_more : 0 + k ≡ k = omega arith in
    ap (λ n. position_from (λ y. bytes_eq (name y) n) 0 xs) (sym here)
    ∙ position_from-named name xs 0 k distinct (at-below (map name xs) k wanted named) ∙ ap Some none_more
