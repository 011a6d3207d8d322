-- A system has fewer functions than there are sets of inputs.
use Rattle.std.specs.Prelude.{◌≡◌, ℕ, zero, suc, ◌+◌, ◌^◌, ◌<◌, ◌≤◌, Bool, true, false, not, cond, ◌==◌, nat_lt, List, [], ◌∷◌, filter, length, Option, refl}
use Rattle.std.specs.List.{AllByRecursion, AllZip}
use Rattle.std.proofs.Common.{ap, subst, ◌∙◌, arith, lt-ltb, le-ltb, eqb-true}
use Rattle.std.proofs.lemmas.Bool.Decides.{nat_tests}
use Rattle.std.proofs.lemmas.List.{length-map}
use Rattle.base_core.specs.Interface.{different}
use Rattle.diagram_meaning.specs.Diagram.{Diagram}
use Rattle.diagram_meaning.specs.Needs.{TrueNeeds, IsMaskOf, AreTrueNeeds}
use Rattle.diagram_meaning.specs.Rows.{outports_of}
use Rattle.modules_profile.specs.Functions.{function_for, functions_for}

-- ---- Different numbers below a bound

-- how often a number is there
abbrev times : ℕ → List ℕ → ℕ
times v [] = 0
times v (x ∷ xs) = cond (x == v) 1 0 + times v xs

-- how many are below a bound
abbrev lower : ℕ → List ℕ → ℕ
lower n [] = 0
lower n (x ∷ xs) = cond (nat_lt x n) 1 0 + lower n xs

none-lower : (xs : List ℕ) → lower 0 xs ≡ 0
none-lower [] = refl
none-lower (x ∷ xs) = let rest = none-lower xs in let none = le-ltb x 0 (omega arith) in
    ap (λ b. cond b 1 0 + lower 0 xs) none ∙ omega (arith, rest)

one-more : (x n : ℕ) → cond (nat_lt x (suc n)) 1 0 ≤ cond (nat_lt x n) 1 0 + cond (x == n) 1 0
one-more x n = grind (arith, nat_tests)

more-lower : (n : ℕ) (xs : List ℕ) → lower (suc n) xs ≤ lower n xs + times n xs
more-lower n [] = omega arith
more-lower n (x ∷ xs) = let first = one-more x n in let rest = more-lower n xs in omega (arith, first, rest)

-- none is left where it is taken away, and of others no more than there were
times-without : (v x : ℕ) (xs : List ℕ) → times v (filter (λ y. not (y == x)) xs) ≤ times v xs
times-without v x [] = omega arith
times-without v x (z ∷ zs) = by (z == x) (times-without v x zs)
  where
    by : (b : Bool) → times v (filter (λ y. not (y == x)) zs) ≤ times v zs →
        times v (cond (not b) (z ∷ filter (λ y. not (y == x)) zs) (filter (λ y. not (y == x)) zs)) ≤ cond (z == v) 1 0 + times v zs
    by true rest = omega (arith, rest)
    by false rest = omega (arith, rest)

taken-away : (x : ℕ) (xs : List ℕ) → times x (filter (λ y. not (y == x)) xs) ≡ 0
taken-away x [] = refl
taken-away x (z ∷ zs) = by (z == x) refl (taken-away x zs)
  where
    by : (b : Bool) → (z == x) ≡ b → times x (filter (λ y. not (y == x)) zs) ≡ 0 →
        times x (cond (not b) (z ∷ filter (λ y. not (y == x)) zs) (filter (λ y. not (y == x)) zs)) ≡ 0
    by true e rest = rest
    by false e rest = ap (λ b. cond b 1 0 + times x (filter (λ y. not (y == x)) zs)) e ∙ omega (arith, rest)

once-each : (v : ℕ) (xs : List ℕ) → times v (different xs) ≤ 1
once-each v [] = omega arith
once-each v (x ∷ xs) = by (x == v) refl (once-each v xs)
  where
    by : (b : Bool) → (x == v) ≡ b → times v (different xs) ≤ 1 →
        cond b 1 0 + times v (filter (λ y. not (y == x)) (different xs)) ≤ 1
    by true e rest =
        let none : times v (filter (λ y. not (y == x)) (different xs)) ≡ 0 =
        subst (λ n. times n (filter (λ y. not (y == x)) (different xs)) ≡ 0) (eqb-true x v e) (taken-away x (different xs)) in
        omega (arith, none)
    by false e rest = let fewer = times-without v x (different xs) in omega (arith, rest, fewer)

few-lower : (n : ℕ) (xs : List ℕ) → lower n (different xs) ≤ n
few-lower zero xs = let none = none-lower (different xs) in omega (arith, none)
few-lower (suc n) xs =
    let rest = few-lower n xs in let more = more-lower n (different xs) in let once = once-each n xs in omega (arith, rest, more, once)

-- ---- All of them are

all-without : (P : ℕ → Type 0) (x : ℕ) (xs : List ℕ) → AllByRecursion P xs → AllByRecursion P (filter (λ y. not (y == x)) xs)
all-without P x [] all = tt
all-without P x (z ∷ zs) all = by (z == x) (all-without P x zs all.1)
  where
    by : (b : Bool) → AllByRecursion P (filter (λ y. not (y == x)) zs) →
        AllByRecursion P (cond (not b) (z ∷ filter (λ y. not (y == x)) zs) (filter (λ y. not (y == x)) zs))
    by true rest = rest
    by false rest = (all.0, rest)

all-different : (P : ℕ → Type 0) (xs : List ℕ) → AllByRecursion P xs → AllByRecursion P (different xs)
all-different P [] all = tt
all-different P (x ∷ xs) all = (all.0, all-without P x (different xs) (all-different P xs all.1))

all-lower : (n : ℕ) (xs : List ℕ) → AllByRecursion (λ x. x < n) xs → lower n xs ≡ length xs
all-lower n [] all = refl
all-lower n (x ∷ xs) all =
    let rest = all-lower n xs all.1 in ap (λ b. cond b 1 0 + lower n xs) (lt-ltb x n all.0) ∙ omega (arith, rest)

few-different : (n : ℕ) (xs : List ℕ) → AllByRecursion (λ x. x < n) xs → length (different xs) ≤ n
few-different n xs all =
    let same = all-lower n (different xs) (all-different (λ x. x < n) xs all) in let few = few-lower n xs in omega (arith, same, few)

-- ---- Sets of inputs

masks-below : (d : Diagram) (s : Option ℕ) (os needs : List ℕ) → AllZip (λ o mask. IsMaskOf (TrueNeeds d s o) mask) os needs →
    AllByRecursion (λ mask. mask < 2 ^ 34) needs
masks-below d s [] [] are = tt
masks-below d s [] (mask ∷ needs) are = absurd are
masks-below d s (o ∷ os) [] are = tt
masks-below d s (o ∷ os) (mask ∷ needs) are = (are.0.bounded, masks-below d s os needs are.1)

pub few-functions : (d : Diagram) (s : Option ℕ) (needs : List ℕ) → AreTrueNeeds d s needs → length (functions_for needs) ≤ 2 ^ 34
few-functions d s needs are =
    let few = few-different (2 ^ 34) needs (masks-below d s (outports_of d.rows s) needs are) in
    let mapped = length-map (different needs) (function_for needs) in omega (arith, few, mapped)
