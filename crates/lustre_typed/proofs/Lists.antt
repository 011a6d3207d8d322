-- Items of lists by their places, and the types of the first names of a list.
use Rattle.std.proofs.Common.{◌≡◌, refl, sym, ap, subst, ℕ, ◌<◌, List, [], ◌∷◌, ◌++◌, length, replicate, slice_index_or, take, drop, Some, zero, suc, arith}
use Rattle.std.specs.Prelude.{Contains, slice_get}
use Rattle.std.proofs.lemmas.Option.{get_or_from_slice_get}
use Rattle.modules_profile.proofs.lemmas.Members.{in-at, at-left, below-at}
use Rattle.lustre_syntax.specs.Tree.{Declared, types_of}

-- an item within a list is at its place in a longer one
pub first-item : {A : Type 0} (xs ys : List A) (k : ℕ) (d : A) → k < length xs → Contains xs (slice_index_or (xs ++ ys) k d)
first-item xs ys k d below =
    let (x, at) = below-at xs k below in
    subst (Contains xs) (sym (get_or_from_slice_get (xs ++ ys) k x d (at-left xs ys k x at))) (in-at xs k x at)

pub item-in : {A : Type 0} (xs : List A) (k : ℕ) (d : A) → k < length xs → Contains xs (slice_index_or xs k d)
item-in xs k d below =
    let (x, at) = below-at xs k below in subst (Contains xs) (sym (get_or_from_slice_get xs k x d at)) (in-at xs k x at)

pub at-same : {A : Type 0} (n : ℕ) (a : A) (k : ℕ) → k < n → slice_get (replicate n a) k ≡ Some a
at-same zero a k below = absurd (omega (arith, below))
at-same (suc n) a zero below = refl
at-same (suc n) a (suc k) below = at-same n a k (omega (arith, below))

-- ---- Types

pub first-types : (xs ys : List Declared) → take (length xs) (types_of (xs ++ ys)) ≡ types_of xs
first-types [] ys = refl
first-types (x ∷ xs) ys = ap (λ ts. x.type ∷ ts) (first-types xs ys)

pub later-types : (xs ys : List Declared) → drop (length xs) (types_of (xs ++ ys)) ≡ types_of ys
later-types [] ys = refl
later-types (x ∷ xs) ys = later-types xs ys
