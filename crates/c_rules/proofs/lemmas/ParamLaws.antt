-- Parameters, one after another.
use Rattle.std.proofs.Common.{◌≡◌, refl, sym, ◌∙◌, ap, ℕ, zero, suc, ◌+◌, ◌<◌, Bool, true, false, not, ◌&&◌, ◌||◌, List, [], ◌∷◌, ◌++◌, length, map, take, drop, reverse, get_or, Err, bytes_eq, arith}
use Rattle.std.proofs.Math.Seq.{drop-cons}
use Rattle.std.proofs.lemmas.List.{reverse-append, take_more}
use Rattle.c_rules.proofs.lemmas.Each.{map_push}
use Rattle.c_syntax.specs.declared.fault.CKind.TheVariants.{Name}
use Rattle.c_grammar.specs.Prefix.{fault_at}
use Rattle.c_syntax.specs.Outputs.{has_name}
use Rattle.base_core.specs.Results.{◌>>◌}
use Rattle.c_rules.specs.Resolve.{on_line, unless_fault, check_params}
use Rattle.c_syntax.proofs.lemmas.NameFacts.{has_name-append}

pub reverse-push : (xs : List (List ℕ)) (n : List ℕ) → reverse (xs ++ n ∷ []) ≡ n ∷ reverse xs
reverse-push xs n = reverse-append xs (n ∷ [])

pub has_name-reverse : (xs : List (List ℕ)) (n : List ℕ) → has_name (reverse xs) n ≡ has_name xs n
has_name-reverse [] n = refl
has_name-reverse (x ∷ xs) n =
    ap (λ ys. has_name ys n) (reverse-append (x ∷ []) xs) ∙ has_name-append (reverse xs) (x ∷ []) n
    ∙ ap (λ b. b || (bytes_eq n x || false)) (has_name-reverse xs n) ∙ turn (has_name xs n) (bytes_eq n x)
  where
    turn : (a b : Bool) → (a || (b || false)) ≡ (b || a)
    turn true true = refl
    turn true false = refl
    turn false true = refl
    turn false false = refl

-- a parameter that passes
pub param-passes : (functions names : List (List ℕ)) (p : ℕ × List ℕ) (ps : List (ℕ × List ℕ)) →
    has_name functions p.1 ≡ false → has_name names p.1 ≡ false →
    check_params functions (reverse names) (p ∷ ps) ≡ check_params functions (reverse (names ++ p.1 ∷ [])) ps
param-passes functions names p ps apart new =
    (λ i. on_line p.0 (unless_fault (not (apart i) && not ((has_name-reverse names p.1 ∙ new) i)) Name) >> check_params
    functions (p.1 ∷ reverse names) ps) ∙ ap (λ e. check_params functions e ps) (sym (reverse-push names p.1))

-- a parameter of a name that is taken
pub param-fails : (functions names : List (List ℕ)) (p : ℕ × List ℕ) (ps : List (ℕ × List ℕ)) →
    (has_name functions p.1 || has_name names p.1) ≡ true →
    check_params functions (reverse names) (p ∷ ps) ≡ Err (fault_at p.0 Name)
param-fails functions names p ps taken =
    (λ i. on_line p.0 (unless_fault (not (has_name functions p.1) && not (has_name-reverse names p.1 i)) Name) >>
    check_params functions (p.1 ∷ reverse names) ps) ∙ by (has_name functions p.1) (has_name names p.1) taken
  where
    by : (a b : Bool) → (a || b) ≡ true →
        (on_line p.0 (unless_fault (not a && not b) Name) >> check_params functions (p.1 ∷ reverse names) ps)
        ≡ Err (fault_at p.0 Name)
    by true b h = refl
    by false true h = refl
    by false false h = cc

-- what is left, from a place on
pub from_place : {A B : Type 0} (f : A → B) (xs : List A) (i : ℕ) (x : A) → i < length xs → x ≡ get_or xs i x →
    map f (drop i xs) ≡ f x ∷ map f (drop (i + 1) xs)
from_place f xs i x within here =
    let next : suc i ≡ i + 1 = omega arith in
    ap (map f) (drop-cons xs i x within) ∙ (λ j. f (sym here j) ∷ map f (drop (next j) xs))

pub from_end : {A B : Type 0} (f : A → B) (xs : List A) (i : ℕ) → length xs ≡ i → map f (drop i xs) ≡ []
from_end f [] i e = by i
  where
    by : (i : ℕ) → map f (drop i []) ≡ []
    by zero = refl
    by (suc i) = refl
from_end f (x ∷ xs) zero e = absurd (omega (arith, e))
from_end f (x ∷ xs) (suc i) e = from_end f xs i (omega (arith, e))

-- the same, where a place past the end stands for something
pub from_place_or : {A B : Type 0} (f : A → B) (xs : List A) (i : ℕ) (d : A) → i < length xs →
    map f (drop i xs) ≡ f (get_or xs i d) ∷ map f (drop (i + 1) xs)
from_place_or f xs i d within =
    let next : suc i ≡ i + 1 = omega arith in
    ap (map f) (drop-cons xs i d within) ∙ (λ j. f (get_or xs i d) ∷ map f (drop (next j) xs))

-- the first of them and one more
pub up_to_or : {A B : Type 0} (f : A → B) (xs : List A) (i : ℕ) (d : A) → i < length xs →
    map f (take i xs) ++ f (get_or xs i d) ∷ [] ≡ map f (take (i + 1) xs)
up_to_or f xs i d within = map_push f (take i xs) (get_or xs i d) ∙ ap (map f) (sym (take_more xs i d within))
