-- Names that are given, and types of names.
use Rattle.std.proofs.Common.{◌≡◌, refl, sym, ◌∙◌, ap, ℕ, zero, suc, ◌<◌, ◌≤◌, Bool, true, false, not, ◌&&◌, ◌||◌, ◌==◌, nat_eq, nat_le, get_or, min, List, [], ◌∷◌, length, take, drop, Option, Some, Ok, Err, bytes_eq, arith, le-leb, eq-eqb, eqb-true}
use Rattle.std.specs.List.{position_from, list_any}
use Rattle.std.proofs.lemmas.Bool.{and_left, and_right, lt-leb}
use Rattle.std.proofs.lemmas.List.{take-map, take_min, drop_min}
use Rattle.base_core.specs.Results.{◌>>=◌, ◌>>◌}
use Rattle.c_grammar.specs.Prefix.{fault_at}
use Rattle.c_syntax.specs.declared.fault.CKind.TheVariants.{Name}
use Rattle.c_rules.specs.Resolve.{unless_fault, on_line, or_unnamed}
use Rattle.lustre_syntax.specs.Tree.{ValueType, Declared, texts_of, types_of}
use Rattle.lustre_syntax.specs.Plain.{declared_names}
use Rattle.lustre_syntax.specs.Typing.{type_at, have_types, all_fit}
use Rattle.lustre_grammar.specs.Written.{Word, WrittenExpr}
use Rattle.lustre_rules.specs.Resolve.{Scope, may_be_given}
use Rattle.lustre_resolver.proofs.EquationLaws.{given_at}

same_number : (j k : ℕ) → nat_eq k j ≡ (j == k)
same_number j k = by (nat_eq k j) (j == k) refl refl
  where
    by : (a b : Bool) → nat_eq k j ≡ a → (j == k) ≡ b → a ≡ b
    by true true e f = refl
    by true false e f = let same : j ≡ k = sym (eqb-true k j e) in cc (sym (eq-eqb j k same) ∙ f)
    by false true e f = let same : k ≡ j = sym (eqb-true j k f) in cc (sym (eq-eqb k j same) ∙ e)
    by false false e f = refl

pub any-same : (k : ℕ) (ks : List ℕ) → list_any (λ j. nat_eq k j) ks ≡ list_any (λ j. j == k) ks
any-same k [] = refl
any-same k (j ∷ ks) = λ i. same_number j k i || any-same k ks i

module _ (line : ℕ) (scope : Scope) (text : List ℕ) (k : ℕ)
    (at : position_from (bytes_eq text) 0 (texts_of scope.names) ≡ Some k) where
  tested : (b : Bool) → may_be_given scope k ≡ b → given_at line scope text ≡ on_line line (unless_fault b Name >> Ok k)
  tested b may =
      ap (λ o. on_line line (or_unnamed o >>= λ j. unless_fault (may_be_given scope j) Name >> Ok j)) at
      ∙ ap (λ c. on_line line (unless_fault c Name >> Ok k)) may

  pub given-input : k < scope.inputs → given_at line scope text ≡ Err (fault_at line Name)
  given-input below =
      tested false (and_left (nat_le scope.inputs k) (not (list_any (λ j. j == k) scope.given)) (lt-leb scope.inputs k below))

  pub given-again : not (list_any (λ j. nat_eq k j) scope.given) ≡ false → given_at line scope text ≡ Err (fault_at line Name)
  given-again taken =
      tested false (and_right (nat_le scope.inputs k) (not (list_any (λ j. j == k) scope.given))
      (ap not (sym (any-same k scope.given)) ∙ taken))

  pub given-new : scope.inputs ≤ k → not (list_any (λ j. nat_eq k j) scope.given) ≡ true → given_at line scope text ≡ Ok k
  given-new from free =
      tested true ((λ i. le-leb scope.inputs k from i && not (sym (any-same k scope.given) i)) ∙ free)

-- types of the first names
pub types-take : (count : ℕ) (xs : List (List ℕ × Bool)) →
    types_of (declared_names (take count xs)) ≡ take count (types_of (declared_names xs))
types-take count xs =
    ap types_of (sym (take-map (λ (x : List ℕ × Bool). record { text = x.0; type = x.1 }) count xs))
    ∙ sym (take-map (λ (d : Declared). d.type) count (declared_names xs))

pub types-drop : (count : ℕ) (xs : List (List ℕ × Bool)) →
    types_of (declared_names (drop count xs)) ≡ drop count (types_of (declared_names xs))
types-drop zero xs = refl
types-drop (suc count) [] = refl
types-drop (suc count) (x ∷ xs) = types-drop count xs

-- lists of other lengths don't agree
pub types-unlike : (types : List ValueType) (ks : List ℕ) (ts : List ValueType) → (length ks ≡ length ts → ⊥) →
    have_types types ks ts ≡ false
types-unlike types [] [] h = absurd (h refl)
types-unlike types [] (t ∷ ts) h = refl
types-unlike types (k ∷ ks) [] h = refl
types-unlike types (k ∷ ks) (t ∷ ts) h = and_right _ (have_types types ks ts) (types-unlike types ks ts (λ e. h (ap suc e)))

pub fits-unlike : (types : Word → Option ValueType) (es : List WrittenExpr) (ts : List ValueType) →
    (length es ≡ length ts → ⊥) → all_fit types es ts ≡ false
fits-unlike types [] [] h = absurd (h refl)
fits-unlike types [] (t ∷ ts) h = refl
fits-unlike types (e ∷ es) [] h = refl
fits-unlike types (e ∷ es) (t ∷ ts) h = and_right _ (all_fit types es ts) (fits-unlike types es ts (λ k. h (ap suc k)))

-- the type of the name at a place
pub type-here : (xs : List (List ℕ × Bool)) (k : ℕ) (x : List ℕ × Bool) → k < length xs → x ≡ get_or xs k x →
    x.1 ≡ type_at (types_of (declared_names xs)) k
type-here [] k x within here = absurd (omega (arith, within))
type-here (y ∷ xs) zero x within here = ap (λ z. z.1) here
type-here (y ∷ xs) (suc k) x within here = type-here xs k x (omega (arith, within)) here

-- types of the first names, and of those after some, as far as there are any
pub types-first : (n count : ℕ) (xs : List (List ℕ × Bool)) → count ≡ length xs →
    types_of (declared_names (take (min count n) xs)) ≡ take n (types_of (declared_names xs))
types-first n count xs e =
    let order : min count n ≡ min n (length xs) = omega (arith, e) in
    ap (λ m. types_of (declared_names (take m xs))) order ∙ ap (λ ys. types_of (declared_names ys)) (take_min n xs) ∙ types-take n xs

pub types-after : (n count : ℕ) (xs : List (List ℕ × Bool)) → count ≡ length xs →
    types_of (declared_names (drop (min count n) xs)) ≡ drop n (types_of (declared_names xs))
types-after n count xs e =
    let order : min count n ≡ min n (length xs) = omega (arith, e) in
    ap (λ m. types_of (declared_names (drop m xs))) order ∙ ap (λ ys. types_of (declared_names ys)) (drop_min n xs) ∙ types-drop n xs

pub length-types : (xs : List (List ℕ × Bool)) → length (types_of (declared_names xs)) ≡ length xs
length-types [] = refl
length-types (x ∷ xs) = ap suc (length-types xs)
