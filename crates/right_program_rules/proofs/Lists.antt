-- Places and members of lists, and lists of names.
use Rattle.std.specs.Prelude.{◌≡◌, ◌≢◌, ℕ, zero, suc, ◌<◌, false, List, [], ◌∷◌, ◌++◌, flat_map, take, slice_get, Contains, Some, bytes_eq}
use Rattle.std.specs.List.{AllByRecursion}
use Rattle.std.proofs.Common.{refl, sym, ap, subst, ◌∙◌, arith, inl, inr, true≢false}
use Rattle.std.proofs.lemmas.Bool.{or_from, or_parts}
use Rattle.std.proofs.lemmas.List.{append_assoc, append-nil}
use Rattle.std.proofs.lemmas.List.Elements.{Contains-append_cases}
use Rattle.std.proofs.lemmas.Option.{none-some}
use Rattle.c_syntax.specs.Tree.{PureTree, StructTree, ProcedureTree}
use Rattle.c_syntax.specs.Outputs.{has_name}
use Rattle.c_syntax.specs.Lawful.{AreDistinct, AreApart, IsLawfulProcedure, AreProcedures}
use Rattle.c_syntax.proofs.lemmas.NameFacts.{has_name-append}
use Rattle.modules_profile.proofs.lemmas.Members.{in-none, in-first, in-rest, in-cases, in-at, at-append}
use Rattle.right_linking.proofs.lemmas.AssembledNames.{bytes-same, bytes-apart}
use Rattle.right_linking.proofs.lemmas.AssembledPlaces.{down}

-- ---- Places

pub at-take : {A : Type 0} (xs : List A) (n k : ℕ) (x : A) → k < n → slice_get xs k ≡ Some x → slice_get (take n xs) k ≡ Some x
at-take [] n k x less at = absurd (none-some x at)
at-take (y ∷ ys) zero k x less at = absurd (omega (arith, less))
at-take (y ∷ ys) (suc n) zero x less at = at
at-take (y ∷ ys) (suc n) (suc k) x less at = at-take ys n k x (omega (arith, less)) at

pub of-take : {A : Type 0} (xs : List A) (n k : ℕ) (x : A) → slice_get (take n xs) k ≡ Some x → (k < n) × (slice_get xs k ≡ Some x)
of-take [] zero k x at = absurd (none-some x at)
of-take [] (suc n) k x at = absurd (none-some x at)
of-take (y ∷ ys) zero k x at = absurd (none-some x at)
of-take (y ∷ ys) (suc n) zero x at = (omega arith, at)
of-take (y ∷ ys) (suc n) (suc k) x at = let rest = of-take ys n k x at in (let less = rest.0 in omega (arith, less), rest.1)

pub of-flat_map : {A B : Type 0} (f : A → List B) (xs : List A) (y : B) → Contains (flat_map f xs) y →
    (x : A) × Contains xs x × Contains (f x) y
of-flat_map f [] y has = absurd (in-none y has)
of-flat_map f (x ∷ xs) y has = elim (Contains-append_cases (f x) (flat_map f xs) y has) [
  | inl here ↦ (x, in-first x xs, here)
  | inr more ↦ let found = of-flat_map f xs y more in (found.0, in-rest x found.0 xs found.1, found.2)
]

-- a place in parts from the last to the first is one in one of them
pub at-parts : {A : Type 0} (f : ℕ → List A) (n k : ℕ) (x : A) → slice_get (flat_map f (down n)) k ≡ Some x →
    (i : ℕ) × (j : ℕ) × (i < n) × (slice_get (f i) j ≡ Some x)
at-parts f zero k x at = absurd (none-some x at)
at-parts f (suc n) k x at = elim (at-append (f n) (flat_map f (down n)) k x at) [
  | inl here ↦ (n, k, omega arith, here)
  | inr there ↦
      let found = at-parts f n there.0 x there.2 in
      (found.0, found.1, let less = found.2 in omega (arith, less), found.3)
]

pub all-append : {A : Type 0} (P : A → Type 0) (xs ys : List A) → AllByRecursion P xs → AllByRecursion P ys → AllByRecursion P (xs ++ ys)
all-append P [] ys one two = two
all-append P (x ∷ xs) ys one two = (one.0, all-append P xs ys one.1 two)

pub all-front : {A : Type 0} (P : A → Type 0) (xs ys : List A) → AllByRecursion P (xs ++ ys) → AllByRecursion P xs
all-front P [] ys all = tt
all-front P (x ∷ xs) ys all = (all.0, all-front P xs ys all.1)

pub all-back : {A : Type 0} (P : A → Type 0) (xs ys : List A) → AllByRecursion P (xs ++ ys) → AllByRecursion P ys
all-back P [] ys all = all
all-back P (x ∷ xs) ys all = all-back P xs ys all.1

-- ---- Lists of names

pub none-has : (names : List (List ℕ)) (name : List ℕ) → ((other : List ℕ) → Contains names other → name ≢ other) →
    has_name names name ≡ false
none-has [] name apart = refl
none-has (other ∷ names) name apart =
    or_from _ _ (bytes-apart name other (apart other (in-first other names)))
    (none-has names name (λ z has. apart z (in-rest other z names has)))

pub has-none : (names : List (List ℕ)) (name : List ℕ) → has_name names name ≡ false → Contains names name → ⊥
has-none [] name none has = in-none name has
has-none (other ∷ names) name none has =
    let parts = or_parts (bytes_eq name other) (has_name names name) none in
    elim (in-cases other name names has) [
      | inl same ↦ true≢false (sym (bytes-same name other (sym same)) ∙ parts.0)
      | inr more ↦ has-none names name parts.1 more
    ]

pub distinct-append : (names others : List (List ℕ)) → AreDistinct names → AreDistinct others →
    ((name : List ℕ) → Contains names name → Contains others name → ⊥) → AreDistinct (names ++ others)
distinct-append [] others one two apart = two
distinct-append (name ∷ names) others one two apart = (
  one.0,
  has_name-append names others name
      ∙ or_from _ _ one.1 (none-has others name
      (λ other has same. apart name (in-first name names) (subst (Contains others) (sym same) has))),
  distinct-append names others one.2 two (λ z has more. apart z (in-rest name z names has) more),
)

-- a name of the front is none of the back
pub distinct-seam : (names others : List (List ℕ)) (name : List ℕ) → AreDistinct (names ++ others) → Contains names name →
    Contains others name → ⊥
distinct-seam [] others name distinct has more = in-none name has
distinct-seam (other ∷ names) others name distinct has more = elim (in-cases other name names has) [
  | inl same ↦
      has-none others other (or_parts (has_name names other) (has_name others other)
      (sym (has_name-append names others other) ∙ distinct.1)).1
      (subst (Contains others) (sym same) more)
  | inr later ↦ distinct-seam names others name distinct.2 later more
]

-- each of different names is at one place
pub distinct-place : (names : List (List ℕ)) (i j : ℕ) (name : List ℕ) → AreDistinct names → slice_get names i ≡ Some name →
    slice_get names j ≡ Some name → i ≡ j
distinct-place [] i j name distinct first second = absurd (none-some name first)
distinct-place (other ∷ names) zero zero name distinct first second = refl
distinct-place (other ∷ names) zero (suc j) name distinct first second =
    let same : other ≡ name = cc first in
    absurd (has-none names other distinct.1 (subst (Contains names) (sym same) (in-at names j name second)))
distinct-place (other ∷ names) (suc i) zero name distinct first second =
    let same : other ≡ name = cc second in
    absurd (has-none names other distinct.1 (subst (Contains names) (sym same) (in-at names i name first)))
distinct-place (other ∷ names) (suc i) (suc j) name distinct first second = ap suc (distinct-place names i j name distinct.2 first second)

-- names that are apart from a list are none of it
pub apart-made : (names others : List (List ℕ)) → ((name : List ℕ) → Contains names name → Contains others name → ⊥) → AreApart names others
apart-made [] others apart = tt
apart-made (name ∷ names) others apart = (
  none-has others name (λ other has same. apart name (in-first name names) (subst (Contains others) (sym same) has)),
  apart-made names others (λ z has more. apart z (in-rest name z names has) more),
)

pub apart-of : (names others : List (List ℕ)) (name : List ℕ) → AreApart names others → Contains names name → Contains others name → ⊥
apart-of [] others name apart has more = in-none name has
apart-of (other ∷ names) others name apart has more = elim (in-cases other name names has) [
  | inl same ↦ has-none others other apart.0 (subst (Contains others) (sym same) more)
  | inr later ↦ apart-of names others name apart.1 later more
]

-- ---- Procedures, each lawful after those before it

pub procedures-made : (pures : List PureTree) (structs : List StructTree) (earlier ps : List ProcedureTree) →
    ((k : ℕ) (p : ProcedureTree) → slice_get ps k ≡ Some p → IsLawfulProcedure pures structs (earlier ++ take k ps) p) →
    AreProcedures pures structs earlier ps
procedures-made pures structs earlier [] each = tt
procedures-made pures structs earlier (p ∷ ps) each = (
  subst (λ l. IsLawfulProcedure pures structs l p) (append-nil earlier) (each 0 p refl),
  procedures-made pures structs (earlier ++ p ∷ []) ps
      (λ k q at. subst (λ l. IsLawfulProcedure pures structs l q) (sym (append_assoc earlier (p ∷ []) (take k ps))) (each (suc k) q at)),
)

pub procedure-at : (pures : List PureTree) (structs : List StructTree) (earlier ps : List ProcedureTree) →
    AreProcedures pures structs earlier ps →
    (k : ℕ) (p : ProcedureTree) → slice_get ps k ≡ Some p → IsLawfulProcedure pures structs (earlier ++ take k ps) p
procedure-at pures structs earlier [] all k p at = absurd (none-some p at)
procedure-at pures structs earlier (q ∷ ps) all zero p at =
    let same : q ≡ p = cc at in
    subst (λ r. IsLawfulProcedure pures structs (earlier ++ []) r) same
    (subst (λ l. IsLawfulProcedure pures structs l q) (sym (append-nil earlier)) all.0)
procedure-at pures structs earlier (q ∷ ps) all (suc k) p at =
    subst (λ l. IsLawfulProcedure pures structs l p) (append_assoc earlier (q ∷ []) (take k ps))
    (procedure-at pures structs (earlier ++ q ∷ []) ps all.1 k p at)
