-- Rules for each element of a list, in turn.
use Rattle.std.proofs.Common.{◌≡◌, refl, sym, ◌∙◌, ap, subst, ℕ, zero, suc, ◌+◌, ◌<◌, List, [], ◌∷◌, ◌++◌, length, map, take, get_or, Result, Ok, Err, arith}
use Rattle.base_core.specs.Results.{◌>>=◌}
use Rattle.c_rules.proofs.lemmas.Resolved.{ok-same, bind-parts}

pub bind_ok : {A B E : Type 0} (r : Result A E) (go : A → Result B E) (x : A) → r ≡ Ok x → (r >>= go) ≡ go x
bind_ok r go x e = ap (λ s. s >>= go) e

pub bind_err : {A B E : Type 0} (r : Result A E) (go : A → Result B E) (fault : E) → r ≡ Err fault → (r >>= go) ≡ Err fault
bind_err r go fault e = ap (λ s. s >>= go) e

-- the results of all, or the first error
abbrev pub each : {A B E : Type 0} → (A → Result B E) → List A → Result (List B) E
each f [] = Ok []
each f (x ∷ xs) = f x >>= λ y. each f xs >>= λ ys. Ok (y ∷ ys)

each-cons : {A B E : Type 0} (f : A → Result B E) (x : A) (xs : List A) (y : B) (ys : List B) → f x ≡ Ok y →
    each f xs ≡ Ok ys → each f (x ∷ xs) ≡ Ok (y ∷ ys)
each-cons f x xs y ys e h = bind_ok (f x) (λ z. each f xs >>= λ zs. Ok (z ∷ zs)) y e ∙ bind_ok (each f xs) (λ zs. Ok (y ∷ zs)) ys h

each-step : {A B E : Type 0} (f : A → Result B E) (xs : List A) (i : ℕ) (x : A) (ys : List B) (y : B) → i < length xs →
    x ≡ get_or xs i x → each f (take i xs) ≡ Ok ys → f x ≡ Ok y → each f (take (suc i) xs) ≡ Ok (ys ++ y ∷ [])
each-step f [] i x ys y within here before e = absurd (omega (arith, within))
each-step {B = B} f (z ∷ zs) zero x ys y within here before e =
    let none : [] ≡ ys = ok-same [] ys before in
    each-cons f z [] y [] (ap f (sym here) ∙ e) refl ∙ ap (λ (ws : List B). Ok (ws ++ y ∷ [])) none
each-step {B = B} f (z ∷ zs) (suc i) x ys y within here before e =
    let a : _ = bind-parts (f z) (λ w. each f (take i zs) >>= λ ws. Ok (w ∷ ws)) ys before in
    let b : _ = bind-parts (each f (take i zs)) (λ ws. Ok (a.0 ∷ ws)) ys a.2 in
    let same : a.0 ∷ b.0 ≡ ys = ok-same (a.0 ∷ b.0) ys b.2 in
    each-cons f z (take (suc i) zs) a.0 (b.0 ++ y ∷ []) a.1
    (each-step f zs i x b.0 y (omega (arith, within)) here b.1 e) ∙ ap (λ (ws : List B). Ok (ws ++ y ∷ [])) same

pub map_push : {A B : Type 0} (f : A → B) (xs : List A) (x : A) → map f xs ++ f x ∷ [] ≡ map f (xs ++ x ∷ [])
map_push f [] x = refl
map_push f (y ∷ ys) x = ap (λ zs. f y ∷ zs) (map_push f ys x)

-- one more is resolved
pub each-push : {A B C E : Type 0} (f : A → Result B E) (view : C → B) (xs : List A) (i : ℕ) (x : A) (done : List C)
    (y : C) → i < length xs → x ≡ get_or xs i x → each f (take i xs) ≡ Ok (map view done) → f x ≡ Ok (view y) →
    each f (take (i + 1) xs) ≡ Ok (map view (done ++ y ∷ []))
each-push {B = B} f view xs i x done y within here before e =
    let next : suc i ≡ i + 1 = omega arith in
    subst (λ n. each f (take n xs) ≡ Ok (map view (done ++ y ∷ []))) next
    (each-step f xs i x (map view done) (view y) within here before e
    ∙ ap (λ (ws : List B). Ok ws) (map_push view done y))

-- one has an error, and none before it
pub each-fault : {A B E : Type 0} (f : A → Result B E) (xs : List A) (i : ℕ) (x : A) (ys : List B) (fault : E) →
    i < length xs → x ≡ get_or xs i x → each f (take i xs) ≡ Ok ys → f x ≡ Err fault → each f xs ≡ Err fault
each-fault f [] i x ys fault within here before e = absurd (omega (arith, within))
each-fault f (z ∷ zs) zero x ys fault within here before e =
    bind_err (f z) (λ w. each f zs >>= λ ws. Ok (w ∷ ws)) fault (ap f (sym here) ∙ e)
each-fault f (z ∷ zs) (suc i) x ys fault within here before e =
    let a : _ = bind-parts (f z) (λ w. each f (take i zs) >>= λ ws. Ok (w ∷ ws)) ys before in
    let b : _ = bind-parts (each f (take i zs)) (λ ws. Ok (a.0 ∷ ws)) ys a.2 in
    bind_ok (f z) (λ w. each f zs >>= λ ws. Ok (w ∷ ws)) a.0 a.1
    ∙ bind_err (each f zs) (λ ws. Ok (a.0 ∷ ws)) fault
    (each-fault f zs i x b.0 fault (omega (arith, within)) here b.1 e)

-- all are resolved
pub each-all : {A B E : Type 0} (f : A → Result B E) (xs : List A) (i : ℕ) (ys : List B) → length xs ≡ i →
    each f (take i xs) ≡ Ok ys → each f xs ≡ Ok ys
each-all f xs i ys e h = ap (each f) (sym (all xs i e)) ∙ h
  where
    all : {A : Type 0} (xs : List A) (i : ℕ) → length xs ≡ i → take i xs ≡ xs
    all [] i e = take-none i
      where
        take-none : {A : Type 0} (i : ℕ) → ◌≡◌ {A = List A} (take i []) []
        take-none zero = refl
        take-none (suc i) = refl
    all (x ∷ xs) zero e = absurd (omega (arith, e))
    all (x ∷ xs) (suc i) e = ap (λ ys. x ∷ ys) (all xs i (omega (arith, e)))
