-- Reports on systems, one after another.
use Rattle.std.specs.Prelude.{zero, suc, List, [], ◌∷◌, ◌++◌, All}
use Rattle.std.specs.List.{AllZip}
use Rattle.std.proofs.Common.{arith}

module _ {A B : Type 0} (R : A → B → Type 0) where
  -- one item more
  pub zip-push : (xs : List A) (ys : List B) (x : A) (y : B) → AllZip R xs ys → R x y → AllZip R (xs ++ x ∷ []) (ys ++ y ∷ [])
  zip-push [] [] x y all one = (one, tt)
  zip-push [] (z ∷ ys) x y all one = absurd all
  zip-push (w ∷ xs) [] x y all one = absurd all
  zip-push (w ∷ xs) (z ∷ ys) x y all one = (all.0, zip-push xs ys x y all.1 one)

  -- what follows for each item of the second list
  pub zip-all : (P : B → Type 0) → ((x : A) (y : B) → R x y → P y) → (xs : List A) (ys : List B) → AllZip R xs ys → All P ys
  zip-all P f [] [] all k d below = absurd (omega (arith, below))
  zip-all P f [] (y ∷ ys) all k d below = absurd all
  zip-all P f (x ∷ xs) [] all k d below = absurd all
  zip-all P f (x ∷ xs) (y ∷ ys) all zero d below = f x y all.0
  zip-all P f (x ∷ xs) (y ∷ ys) all (suc k) d below = zip-all P f xs ys all.1 k d (omega (arith, below))
