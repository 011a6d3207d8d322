-- Equations over names that agree in types, and their equations over places.
use Rattle.std.proofs.Common.{◌≡◌, refl, ap, ap₂, ◌∙◌, ℕ, true, false, ◌&&◌, List, [], ◌∷◌, map, length, Some}
use Rattle.std.specs.Prelude.{⊤, slice_get}
use Rattle.std.specs.List.{AllByRecursion}
use Rattle.std.proofs.lemmas.Option.{get_or_from_slice_get}
use Rattle.lustre_syntax.specs.Tree.{ValueType, int, NodeTree, set, call, types_of, expressions_of}
use Rattle.lustre_syntax.specs.Named.{NamedExpr, NamedEquation, renamed, renamed_equation}
use Rattle.lustre_syntax.specs.Typing.{Typing, known, meet, no_clash, same_type, type_at, fits, all_fit, have_types, input_types, output_types}
use Rattle.lustre_syntax.specs.Lawful.{IsWritable, Agrees}
use Rattle.lustre_typed.proofs.Typed.{Has, IsTyped}

no-clash-same : (t : ValueType) → no_clash (meet (known t) (known t)) ≡ true
no-clash-same true = refl
no-clash-same false = refl

same-self : (t : ValueType) → same_type t t ≡ true
same-self true = refl
same-self false = refl

module _ (types : List ValueType) (place : List ℕ → ℕ) where
  -- names have these types, and expressions
  abbrev pub HaveTypes : List (List ℕ) → List ValueType → Type 0
  HaveTypes [] [] = ⊤
  HaveTypes [] (t ∷ ts) = ⊥
  HaveTypes (x ∷ xs) [] = ⊥
  HaveTypes (x ∷ xs) (t ∷ ts) = Has types place x t × HaveTypes xs ts

  abbrev pub AreTyped : List NamedExpr → List ValueType → Type 0
  AreTyped [] [] = ⊤
  AreTyped [] (t ∷ ts) = ⊥
  AreTyped (e ∷ es) [] = ⊥
  AreTyped (e ∷ es) (t ∷ ts) = IsTyped types place e t 100 × AreTyped es ts

  -- an equation agrees in types
  abbrev pub IsSound : (List ℕ → ℕ) → List NodeTree → NamedEquation → Type 0
  IsSound callee earlier (set line text e) =
      (t : ValueType) × Has types place text t × IsTyped types place e t 100
  IsSound callee earlier (call line texts of es) =
      (n : NodeTree) × (slice_get earlier (callee of) ≡ Some n) × HaveTypes texts (output_types n) × AreTyped es (input_types n)

  fits-typed : (e : NamedExpr) (t : ValueType) → IsTyped types place e t 100 → fits (slice_get types) (renamed place e) t ≡ true
  fits-typed e t is = ap (λ (x : Typing). no_clash (meet (known t) x)) is.typed ∙ no-clash-same t

  all-fit : (es : List NamedExpr) (ts : List ValueType) → AreTyped es ts →
      all_fit (slice_get types) (map (renamed place) es) ts ≡ true
  all-fit [] [] are = refl
  all-fit [] (t ∷ ts) are = absurd are
  all-fit (e ∷ es) [] are = absurd are
  all-fit (e ∷ es) (t ∷ ts) are = ap₂ (λ a b. a && b) (fits-typed e t are.0) (all-fit es ts are.1)

  type-at-is : (text : List ℕ) (t : ValueType) → Has types place text t → type_at types (place text) ≡ t
  type-at-is text t has = get_or_from_slice_get types (place text) t int has

  have-types : (xs : List (List ℕ)) (ts : List ValueType) → HaveTypes xs ts → have_types types (map place xs) ts ≡ true
  have-types [] [] have = refl
  have-types [] (t ∷ ts) have = absurd have
  have-types (x ∷ xs) [] have = absurd have
  have-types (x ∷ xs) (t ∷ ts) have =
      ap₂ (λ a b. a && b) (ap (λ (u : ValueType). same_type u t) (type-at-is x t have.0) ∙ same-self t) (have-types xs ts have.1)

  writable : (e : NamedExpr) (t : ValueType) → IsTyped types place e t 100 → IsWritable (length types) (renamed place e)
  writable e t is = record { reads = is.reads; literals = is.literals; depth = is.depth }

  all-writable : (es : List NamedExpr) (ts : List ValueType) → AreTyped es ts →
      AllByRecursion (IsWritable (length types)) (map (renamed place) es)
  all-writable [] [] are = tt
  all-writable [] (t ∷ ts) are = absurd are
  all-writable (e ∷ es) [] are = absurd are
  all-writable (e ∷ es) (t ∷ ts) are = (writable e t are.0, all-writable es ts are.1)

  module _ (callee : List ℕ → ℕ) (earlier : List NodeTree) where
    pub sound-writable : (e : NamedEquation) → IsSound callee earlier e →
        AllByRecursion (IsWritable (length types)) (expressions_of (renamed_equation place callee e))
    sound-writable (set line text e) (t, has, is) = (writable e t is, tt)
    sound-writable (call line texts of es) (n, there, outs, ins) = all-writable es (input_types n) ins

    pub sound-agrees : (n : NodeTree) → types_of n.names ≡ types → (e : NamedEquation) → IsSound callee earlier e →
        Agrees earlier n (renamed_equation place callee e)
    sound-agrees n same (set line text e) (t, has, is) =
        ap (λ (ts : List ValueType). fits (slice_get ts) (renamed place e) (type_at ts (place text))) same
        ∙ ap (fits (slice_get types) (renamed place e)) (type-at-is text t has) ∙ fits-typed e t is
    sound-agrees n same (call line texts of es) (m, there, outs, ins) = (
      m,
      there,
      ap (λ (ts : List ValueType). have_types ts (map place texts) (output_types m)) same ∙ have-types texts (output_types m) outs,
      ap (λ (ts : List ValueType). all_fit (slice_get ts) (map (renamed place) es) (input_types m)) same
          ∙ all-fit es (input_types m) ins,
    )
