-- The first of several refusals: two at a time, and item by item.
use Rattle.std.proofs.Common.{◌≡◌, refl, sym, ◌∙◌, ap, ℕ, suc, ◌+◌, ◌<◌, ◌≤◌, Bool, true, false, cond, List, ◌∷◌, length, drop, slice_index_or, drop-cons, drop_of_length-le, Option, None, Some, map, arith}
use Rattle.std.specs.Prelude.{nat_lt, ◌==◌, ◌||◌, ◌&&◌}
use Rattle.std.proofs.lemmas.Bool.Decides.{nat_tests}
use Rattle.base_refusals.specs.Refusals.{PlainRefusal}
use Rattle.base_refusals.specs.FirstRefusal.{line_of_refusal}
use Rattle.base_refusals.specs.Order.{number_of, is_before, first_of}
use Rattle.mdl_rows.specs.Refusals.{first_in}

-- whether one number and line come before another
abbrev comes_before : (n l m k : ℕ) → Bool
comes_before n l m k = nat_lt n m || (n == m && nat_lt l k)

before-trans : (n l m k o i : ℕ) → comes_before n l m k ≡ true → comes_before m k o i ≡ true → comes_before n l o i ≡ true
before-trans n l m k o i p q = grind (arith, nat_tests)

before-none : (n l m k o i : ℕ) → comes_before n l m k ≡ false → comes_before m k o i ≡ false → comes_before n l o i ≡ false
before-none n l m k o i p q = grind (arith, nat_tests)

trans : (a b c : PlainRefusal) → is_before a b ≡ true → is_before b c ≡ true → is_before a c ≡ true
trans a b c p q = before-trans (number_of a) (line_of_refusal a) (number_of b) (line_of_refusal b) (number_of c) (line_of_refusal c) p q

none : (a b c : PlainRefusal) → is_before a b ≡ false → is_before b c ≡ false → is_before a c ≡ false
none a b c p q = before-none (number_of a) (line_of_refusal a) (number_of b) (line_of_refusal b) (number_of c) (line_of_refusal c) p q

-- the first of two refusals
abbrev first : PlainRefusal → PlainRefusal → PlainRefusal
first a b = cond (is_before b a) b a

first_is : (a b : PlainRefusal) (t : Bool) → is_before b a ≡ t → first a b ≡ cond t b a
first_is a b t e = ap (λ t. cond t b a) e

first-some : (a b : PlainRefusal) → first_of (Some a) (Some b) ≡ Some (first a b)
first-some a b = by (is_before b a)
  where
    by : (t : Bool) → cond t (Some b) (Some a) ≡ Some (cond t b a)
    by true = refl
    by false = refl

first_assoc : (a b c : PlainRefusal) → first (first a b) c ≡ first a (first b c)
first_assoc a b c = by (is_before b a) (is_before c b) refl refl
  where
    by : (t u : Bool) → is_before b a ≡ t → is_before c b ≡ u → first (first a b) c ≡ first a (first b c)
    by true true p q =
        ap (λ m. first m c) (first_is a b true p) ∙ first_is b c true q
        ∙ sym (ap (first a) (first_is b c true q) ∙ first_is a c true (trans c b a q p))
    by true false p q =
        ap (λ m. first m c) (first_is a b true p) ∙ first_is b c false q ∙ sym (ap (first a) (first_is b c false q) ∙ first_is a b true p)
    by false true p q = ap (λ m. first m c) (first_is a b false p) ∙ sym (ap (first a) (first_is b c true q))
    by false false p q =
        ap (λ m. first m c) (first_is a b false p) ∙ first_is a c false (none c b a q p)
        ∙ sym (ap (first a) (first_is b c false q) ∙ first_is a b false p)

-- the first of three refusals
pub first_of-assoc : (a b c : Option PlainRefusal) → first_of (first_of a b) c ≡ first_of a (first_of b c)
first_of-assoc None b c = refl
first_of-assoc (Some a) None c = refl
first_of-assoc (Some a) (Some b) None = first_of-none (first_of (Some a) (Some b))
  where
    first_of-none : (o : Option PlainRefusal) → first_of o None ≡ o
    first_of-none None = refl
    first_of-none (Some a) = refl
first_of-assoc (Some a) (Some b) (Some c) =
    ap (λ o. first_of o (Some c)) (first-some a b) ∙ first-some (first a b) c ∙ ap Some (first_assoc a b c)
    ∙ sym (ap (first_of (Some a)) (first-some b c) ∙ first-some a (first b c))

pub first_of-none : (o : Option PlainRefusal) → first_of o None ≡ o
first_of-none None = refl
first_of-none (Some a) = refl

-- where there is no first one there is none
pub none-left : (a b : Option PlainRefusal) → first_of a b ≡ None → a ≡ None
none-left None b e = refl
none-left (Some a) None e = e
none-left (Some a) (Some b) e = absurd-some (sym (first-some a b) ∙ e)
  where
    absurd-some : {A : Type 0} {x : A} {o : Option A} → Some x ≡ None → o ≡ None
    absurd-some e = cc

pub none-right : (a b : Option PlainRefusal) → first_of a b ≡ None → b ≡ None
none-right None b e = e
none-right (Some a) None e = refl
none-right (Some a) (Some b) e = absurd-some (sym (first-some a b) ∙ e)
  where
    absurd-some : {A : Type 0} {x : A} {o : Option A} → Some x ≡ None → o ≡ None
    absurd-some e = cc

one_more : (i : ℕ) → suc i ≡ i + 1
one_more i = omega arith

-- the items from one place on
pub items-from : {A B : Type 0} (show : A → B) (xs : List A) (i : ℕ) (d : A) → i < length xs →
    map show (drop i xs) ≡ show (slice_index_or xs i d) ∷ map show (drop (i + 1) xs)
items-from show xs i d h =
    ap (map show) (drop-cons xs i d h) ∙ ap (λ k. show (slice_index_or xs i d) ∷ map show (drop k xs)) (one_more i)

-- one item more is looked at
pub first-at : {A B : Type 0} (found : B → Option PlainRefusal) (show : A → B) (xs : List A) (i : ℕ) (d : A)
    (before now whole : Option PlainRefusal) → i < length xs →
    now ≡ first_of before (found (show (slice_index_or xs i d))) →
    first_of before (first_in found (map show (drop i xs))) ≡ whole → first_of now (first_in found (map show (drop (i + 1) xs))) ≡ whole
first-at found show xs i d before now whole h e all =
    let rest = first_in found (map show (drop (i + 1) xs)) in
    ap (λ o. first_of o rest) e ∙ first_of-assoc before (found (show (slice_index_or xs i d))) rest
    ∙ ap (λ ys. first_of before (first_in found ys)) (sym (items-from show xs i d h)) ∙ all

-- all are looked at
pub first-end : {A B : Type 0} (found : B → Option PlainRefusal) (show : A → B) (xs : List A) (i : ℕ)
    (before whole : Option PlainRefusal) → length xs ≤ i →
    first_of before (first_in found (map show (drop i xs))) ≡ whole → before ≡ whole
first-end found show xs i before whole h all =
    sym (first_of-none before) ∙ ap (λ ys. first_of before (first_in found (map show ys))) (sym (drop_of_length-le xs h)) ∙ all
