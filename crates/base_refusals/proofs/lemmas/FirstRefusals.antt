-- Which of several refusals counts: two at a time, and item by item.
use Rattle.std.proofs.Common.{◌≡◌, refl, sym, ◌∙◌, ap, ℕ, Bool, true, false, cond, List, [], ◌∷◌, ◌++◌, Option, None, Some, map, arith}
use Rattle.std.specs.Prelude.{filter, flat_map, nat_lt}
use Rattle.std.proofs.lemmas.Bool.Decides.{nat_tests}
use Rattle.base_refusals.specs.Refusals.{PlainRefusal}
use Rattle.base_refusals.specs.FirstRefusal.{earlier, least_line, line_of_refusal, earlier_of, least_in, found_where}

lt-trans : (x y z : ℕ) → nat_lt x y ≡ true → nat_lt y z ≡ true → nat_lt x z ≡ true
lt-trans x y z p q = grind (arith, nat_tests)

lt-none : (x y z : ℕ) → nat_lt x y ≡ false → nat_lt y z ≡ false → nat_lt x z ≡ false
lt-none x y z p q = grind (arith, nat_tests)

-- the earlier of two refusals
abbrev first : PlainRefusal → PlainRefusal → PlainRefusal
first a b = cond (nat_lt (line_of_refusal b) (line_of_refusal a)) b a

first_is : (a b : PlainRefusal) (t : Bool) → nat_lt (line_of_refusal b) (line_of_refusal a) ≡ t → first a b ≡ cond t b a
first_is a b t e = ap (λ t. cond t b a) e

first_assoc : (a b c : PlainRefusal) → first (first a b) c ≡ first a (first b c)
first_assoc a b c = by (nat_lt (line_of_refusal b) (line_of_refusal a)) (nat_lt (line_of_refusal c) (line_of_refusal b)) refl refl
  where
    by : (t u : Bool) → nat_lt (line_of_refusal b) (line_of_refusal a) ≡ t →
        nat_lt (line_of_refusal c) (line_of_refusal b) ≡ u → first (first a b) c ≡ first a (first b c)
    by true true p q =
        ap (λ m. first m c) (first_is a b true p) ∙ first_is b c true q
        ∙ sym (ap (first a) (first_is b c true q) ∙ first_is a c true (lt-trans _ _ _ q p))
    by true false p q =
        ap (λ m. first m c) (first_is a b true p) ∙ first_is b c false q
        ∙ sym (ap (first a) (first_is b c false q) ∙ first_is a b true p)
    by false true p q = ap (λ m. first m c) (first_is a b false p) ∙ sym (ap (first a) (first_is b c true q))
    by false false p q =
        ap (λ m. first m c) (first_is a b false p) ∙ first_is a c false (lt-none _ _ _ q p)
        ∙ sym (ap (first a) (first_is b c false q) ∙ first_is a b false p)

-- the earlier of three refusals
pub earlier_assoc : (a b c : Option PlainRefusal) → earlier_of (earlier_of a b) c ≡ earlier_of a (earlier_of b c)
earlier_assoc None b c = refl
earlier_assoc (Some a) None c = refl
earlier_assoc (Some a) (Some b) None = refl
earlier_assoc (Some a) (Some b) (Some c) = ap Some (first_assoc a b c)

pub earlier-none : (a : Option PlainRefusal) → earlier_of a None ≡ a
earlier-none None = refl
earlier-none (Some a) = refl

-- where there is no earlier one there is none
pub none-first : (a b : Option PlainRefusal) → earlier_of a b ≡ None → a ≡ None
none-first None b e = refl
none-first (Some a) b e = cc

pub none-later : (a b : Option PlainRefusal) → earlier_of a b ≡ None → b ≡ None
none-later None b e = e
none-later (Some a) b e = cc

-- ---- Passes

-- the items that pass a test
pub least-where : {A : Type 0} (test : A → Bool) (refusal : A → PlainRefusal) (xs : List A) →
    least_in (found_where test refusal) xs ≡ least_line (map refusal (filter test xs))
least-where test refusal [] = refl
least-where {A} test refusal (x ∷ xs) = by (test x) (least-where test refusal xs)
  where
    rest : List A
    rest = filter test xs

    by : (t : Bool) → least_in (found_where test refusal) xs ≡ least_line (map refusal rest) →
        earlier_of (cond t (Some (refusal x)) None) (least_in (found_where test refusal) xs)
        ≡ least_line (map refusal (cond t (x ∷ rest) rest))
    by true same = ap (λ o. Some (earlier (refusal x) o)) same
    by false same = same

-- one list of items and another
pub least-append : {A : Type 0} (found : A → Option PlainRefusal) (xs ys : List A) →
    least_in found (xs ++ ys) ≡ earlier_of (least_in found xs) (least_in found ys)
least-append found [] ys = refl
least-append found (x ∷ xs) ys = ap (earlier_of (found x)) (least-append found xs ys)
    ∙ sym (earlier_assoc (found x) (least_in found xs) (least_in found ys))

-- the least line of one list and another
pub least_line-append : (xs ys : List PlainRefusal) → least_line (xs ++ ys) ≡ earlier_of (least_line xs) (least_line ys)
least_line-append [] ys = refl
least_line-append (x ∷ xs) ys =
    ap (earlier_of (Some x)) (least_line-append xs ys) ∙ sym (earlier_assoc (Some x) (least_line xs) (least_line ys))

-- several refusals of each item
pub least-each : {A : Type 0} (found : A → List PlainRefusal) (xs : List A) →
    least_in (λ x. least_line (found x)) xs ≡ least_line (flat_map found xs)
least-each found [] = refl
least-each found (x ∷ xs) =
    ap (earlier_of (least_line (found x))) (least-each found xs) ∙ sym (least_line-append (found x) (flat_map found xs))
