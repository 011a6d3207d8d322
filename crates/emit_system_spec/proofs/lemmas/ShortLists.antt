-- Lengths of lists.
use Rattle.std.specs.Prelude.{◌≡◌, ℕ, zero, suc, ◌+◌, ◌*◌, ◌≤◌, Bool, true, false, not, cond, ◌==◌, List, [], ◌∷◌, filter, flat_map, sum_by, take, length, All, Contains}
use Rattle.std.proofs.Common.{arith}
use Rattle.std.proofs.lemmas.List.{length-append}
use Rattle.std.proofs.lemmas.List.Elements.{All-weaker, All-contains_itself}
use Rattle.std.proofs.lemmas.List.Sums.{sum_by-cons}
use Rattle.base_core.specs.Interface.{different}
use Rattle.modules_profile.proofs.lemmas.Members.{in-first, in-rest}

pub all-members : {A : Type 0} (P : A → Type 0) (xs : List A) → ((x : A) → Contains xs x → P x) → All P xs
all-members P xs holds = All-weaker (Contains xs) P holds xs (All-contains_itself xs)

pub short-filter : {A : Type 0} (p : A → Bool) (xs : List A) → length (filter p xs) ≤ length xs
short-filter p [] = omega arith
short-filter p (x ∷ xs) = by (p x) (short-filter p xs)
  where
    by : (t : Bool) → length (filter p xs) ≤ length xs → length (cond t (x ∷ filter p xs) (filter p xs)) ≤ suc (length xs)
    by true h = omega arith
    by false h = omega arith

pub short-flat_map : {A B : Type 0} (n : ℕ) (f : A → List B) (xs : List A) → ((x : A) → Contains xs x → length (f x) ≤ n) →
    length (flat_map f xs) ≤ n * length xs
short-flat_map n f [] few = omega arith
short-flat_map n f (x ∷ xs) few =
    let here = few x (in-first x xs) in
    let rest = short-flat_map n f xs (λ y m. few y (in-rest x y xs m)) in
    let both = length-append (f x) (flat_map f xs) in
    omega (arith, here, rest, both)

pub short-sum : {A : Type 0} (n : ℕ) (f : A → ℕ) (xs : List A) (k : ℕ) → ((x : A) → Contains xs x → f x ≤ n) →
    sum_by f (take k xs) ≤ n * length xs
short-sum n f xs zero few = omega arith
short-sum n f [] (suc k) few = omega arith
short-sum n f (x ∷ xs) (suc k) few =
    let here = few x (in-first x xs) in
    let rest = short-sum n f xs k (λ y m. few y (in-rest x y xs m)) in
    let both = sum_by-cons f x (take k xs) in
    omega (arith, here, rest, both)

pub short-different : (xs : List ℕ) → length (different xs) ≤ length xs
short-different [] = omega arith
short-different (x ∷ xs) =
    let rest = short-different xs in let kept = short-filter (λ y. not (y == x)) (different xs) in omega (arith, rest, kept)
