-- Names that are all of `int`, and the types of a placed node's inputs and outputs.
use Rattle.std.specs.Prelude.{◌≡◌, ℕ, zero, suc, ◌<◌, true, List, [], ◌∷◌, ◌++◌, map, take, drop, length, Contains, Some, slice_get}
use Rattle.std.specs.List.{AllByRecursion}
use Rattle.std.proofs.Common.{refl, sym, ◌∙◌, ap, ap₂, subst, arith}
use Rattle.std.proofs.lemmas.Bool.{and_from}
use Rattle.std.proofs.lemmas.List.{append_assoc, map-append, length-map}
use Rattle.lustre_syntax.specs.Tree.{ValueType, int, Declared, name, types_of, NodeTree}
use Rattle.lustre_syntax.specs.Named.{NamedNode, renamed, all_names, placed_node}
use Rattle.lustre_syntax.specs.Typing.{same_type, type_at, fits, all_fit, have_types, input_types, output_types}
use Rattle.lustre_syntax.specs.Lawful.{EndsWithInts}
use Rattle.lustre_system.specs.Functions.{int_name}
use Rattle.modules_profile.proofs.lemmas.Members.{in-first, in-rest}
use Rattle.lustre_rows.proofs.lemmas.Lists.{all-after}

abbrev pub AreInts : List ValueType → Type 0
AreInts types = AllByRecursion (λ t. t ≡ int) types

pub ints-mapped : {A : Type 0} (f : A → List ℕ) (xs : List A) → AreInts (types_of (map (λ x. int_name (f x)) xs))
ints-mapped f [] = tt
ints-mapped f (x ∷ xs) = (refl, ints-mapped f xs)

pub ints-append : (xs ys : List Declared) → AreInts (types_of xs) → AreInts (types_of ys) → AreInts (types_of (xs ++ ys))
ints-append xs ys first second =
    subst AreInts (sym (map-append (λ (x : Declared). x.type) xs ys)) (all-after (λ t. t ≡ int) (types_of xs) (types_of ys) first second)

pub int-there : (types : List ValueType) (k : ℕ) → AreInts types → k < length types → slice_get types k ≡ Some int
int-there [] k ints below = absurd (omega (arith, below))
int-there (t ∷ types) zero ints below = ap Some ints.0
int-there (t ∷ types) (suc k) ints below = int-there types k ints.1 (omega (arith, below))

pub int-at : (types : List ValueType) (k : ℕ) → AreInts types → type_at types k ≡ int
int-at [] k ints = refl
int-at (t ∷ types) zero ints = ints.0
int-at (t ∷ types) (suc k) ints = int-at types k ints.1

pub have-ints : (types : List ValueType) (ks : List ℕ) (ts : List ValueType) → AreInts types → length ks ≡ length ts → AreInts ts →
    have_types types ks ts ≡ true
have-ints types [] [] ints same all = refl
have-ints types [] (t ∷ ts) ints same all = absurd (omega (arith, same))
have-ints types (k ∷ ks) [] ints same all = absurd (omega (arith, same))
have-ints types (k ∷ ks) (t ∷ ts) ints same all =
    and_from (same_type (type_at types k) t) (have_types types ks ts) (ap₂ same_type (int-at types k ints) all.0)
    (have-ints types ks ts ints (omega (arith, same)) all.1)

-- a name of `int` where an `int` is wanted
pub name-fits : (types : List ValueType) (k : ℕ) → slice_get types k ≡ Some int → fits (slice_get types) (name k) int ≡ true
name-fits types k is = ap (λ o. fits (λ (j : ℕ). o) (name k) int) is

pub names-fit : (types : List ValueType) (place : List ℕ → ℕ) (ts : List (List ℕ)) →
    ((t : List ℕ) → Contains ts t → slice_get types (place t) ≡ Some int) →
    all_fit (slice_get types) (map (renamed place) (map name ts)) (types_of (map int_name ts)) ≡ true
names-fit types place [] each = refl
names-fit types place (t ∷ ts) each =
    and_from (fits (slice_get types) (name (place t)) int) _ (name-fits types (place t) (each t (in-first t ts)))
    (names-fit types place ts (λ u there. each u (in-rest t u ts there)))

-- ---- Placed nodes

take-front : {A : Type 0} (xs ys : List A) → take (length xs) (xs ++ ys) ≡ xs
take-front [] ys = refl
take-front (x ∷ xs) ys = ap (λ zs. x ∷ zs) (take-front xs ys)

drop-front : {A : Type 0} (xs ys : List A) → drop (length xs) (xs ++ ys) ≡ ys
drop-front [] ys = refl
drop-front (x ∷ xs) ys = drop-front xs ys

module _ (callees : List (List ℕ)) (n : NamedNode) where
  parts : types_of (all_names n) ≡ types_of n.inputs ++ types_of (n.outputs ++ n.others)
  parts =
      ap types_of (append_assoc n.inputs n.outputs n.others) ∙ map-append (λ (x : Declared). x.type) n.inputs (n.outputs ++ n.others)

  pub inputs-typed : input_types (placed_node callees n) ≡ types_of n.inputs
  inputs-typed =
      ap₂ {C = List ValueType} take (sym (length-map n.inputs (λ (x : Declared). x.type))) parts
      ∙ take-front (types_of n.inputs) (types_of (n.outputs ++ n.others))

  pub outputs-typed : output_types (placed_node callees n) ≡ types_of n.outputs
  outputs-typed =
      ap (take (length n.outputs))
      (ap₂ {C = List ValueType} drop (sym (length-map n.inputs (λ (x : Declared). x.type))) parts
      ∙ drop-front (types_of n.inputs) (types_of (n.outputs ++ n.others))
      ∙ map-append (λ (x : Declared). x.type) n.outputs n.others)
      ∙ ap (λ k. take k (types_of n.outputs ++ types_of n.others)) (sym (length-map n.outputs (λ (x : Declared). x.type)))
      ∙ take-front (types_of n.outputs) (types_of n.others)

pub ends-with : (xs : List NodeTree) (n : NodeTree) → AreInts (input_types n) → AreInts (output_types n) → EndsWithInts (xs ++ n ∷ [])
ends-with [] n inputs outputs = (inputs, outputs)
ends-with (x ∷ []) n inputs outputs = (inputs, outputs)
ends-with (x ∷ y ∷ xs) n inputs outputs = ends-with (y ∷ xs) n inputs outputs
