-- Properties of all items of a list, and numbers at places.
use Rattle.std.proofs.Common.{◌≡◌, sym, ap, subst, ℕ, zero, suc, Bool, true, false, List, [], ◌∷◌, map, flat_map, Contains, slice_get, Some, ℤ, arith, true≢false}
use Rattle.std.specs.List.{AllByRecursion}
use Rattle.std.proofs.lemmas.Option.{none-some}
use Rattle.base_core.specs.Numbers.{int_at}
use Rattle.diagram_meaning.proofs.lemmas.Agreement.{All-append_left, All-append_right}
use Rattle.lustre_system.specs.RowEquations.{only_if}

-- ---- All items

pub all-kept : {A : Type 0} (P : A → Type 0) (b : Bool) (xs : List A) → b ≡ true → AllByRecursion P (only_if b xs) → AllByRecursion P xs
all-kept P true xs is all = all
all-kept P false xs is all = absurd (true≢false (sym is))

-- what holds of what each item gives holds of what one of them gives
pub all-among : {A B : Type 0} (P : B → Type 0) (f : A → List B) (xs : List A) (x : A) → AllByRecursion P (flat_map f xs) → Contains xs x →
    AllByRecursion P (f x)
all-among P f [] x all (k, below, is) = absurd (omega (arith, below))
all-among P f (y ∷ ys) x all (zero, below, is) = subst (λ z. AllByRecursion P (f z)) is (All-append_left P (f y) (flat_map f ys) all)
all-among P f (y ∷ ys) x all (suc k, below, is) =
    all-among P f ys x (All-append_right P (f y) (flat_map f ys) all) (k, omega (arith, below), is)

-- ---- Numbers at places

pub number-at : (f : ℕ → ℤ) (bs : List ℕ) (k b : ℕ) → slice_get bs k ≡ Some b → int_at (map f bs) k ≡ f b
number-at f [] k b at = absurd (none-some b at)
number-at f (c ∷ cs) zero b at = let same : c ≡ b = cc in ap f same
number-at f (c ∷ cs) (suc k) b at = number-at f cs k b at
