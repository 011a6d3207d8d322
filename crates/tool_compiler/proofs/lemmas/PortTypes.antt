-- The types of the root's inputs are those of its Inports.
use Rattle.std.specs.Prelude.{◌≡◌, refl, ℕ, zero, suc, ◌<◌, List, [], ◌∷◌, ◌++◌, map, length, slice_get, slice_index_or, Option, None, unwrap_or}
use Rattle.std.specs.List.{range_with_len}
use Rattle.std.proofs.Common.{sym, ◌∙◌, ap, arith}
use Rattle.std.proofs.lemmas.List.FromFn.{length-map-range_with_len}
use Rattle.base_core.specs.declared.Port.TheVariants.{Number}
use Rattle.base_fixed_point.specs.declared.FixType.{FixType}
use Rattle.diagram_meaning.specs.Rows.{inports_of}
use Rattle.diagram_meaning.specs.Diagram.{Diagram, type_at}
use Rattle.diagram_meaning.specs.Inputs.{input_row}
use Rattle.diagram_meaning.specs.Traces.{input_type_of}
use Rattle.diagram_meaning.proofs.lemmas.ByRow.{map_range-at}
use Rattle.diagram_verdict.proofs.lemmas.PlaceLists.{same_at}
use Rattle.tool_compiled.specs.Compilation.{root_types}

pub nothing-behind : {A : Type 0} (xs : List A) → xs ++ [] ≡ xs
nothing-behind [] = refl
nothing-behind (x ∷ xs) = ap (λ ys. x ∷ ys) (nothing-behind xs)

pub map-twice : {A B C : Type 0} (g : B → C) (f : A → B) (xs : List A) → map g (map f xs) ≡ map (λ x. g (f x)) xs
map-twice g f [] = refl
map-twice g f (x ∷ xs) = ap (λ ys. g (f x) ∷ ys) (map-twice g f xs)

length-map : {A B : Type 0} (f : A → B) (xs : List A) → length (map f xs) ≡ length xs
length-map f [] = refl
length-map f (x ∷ xs) = ap suc (length-map f xs)

map-at : {B : Type 0} (f : ℕ → B) (xs : List ℕ) (b : ℕ) (z : B) → b < length xs → slice_index_or (map f xs) b z ≡ f (slice_index_or xs b 0)
map-at f [] b z below = absurd (omega (arith, below))
map-at f (x ∷ xs) zero z below = refl
map-at f (x ∷ xs) (suc b) z below = map-at f xs b z (omega (arith, below))

got : (xs : List ℕ) (b n : ℕ) → b < length xs → slice_index_or xs b 0 ≡ unwrap_or (slice_get xs b) n
got [] b n below = absurd (omega (arith, below))
got (x ∷ xs) zero n below = refl
got (x ∷ xs) (suc b) n below = got xs b n (omega (arith, below))

-- a list by the places of its items, from 1 on
by-place : {B : Type 0} (f : ℕ → B) (xs : List ℕ) (item : ℕ → Option ℕ) (n : ℕ) (z : B) →
    ((b : ℕ) → item (suc b) ≡ slice_get xs b) → map f xs ≡ map (λ k. f (unwrap_or (item k) n)) (range_with_len 1 (length xs))
by-place f xs item n z same =
    same_at (map f xs) (map (λ k. f (unwrap_or (item k) n)) (range_with_len 1 (length xs))) z
    (length-map f xs ∙ sym (length-map-range_with_len (λ k. f (unwrap_or (item k) n)) 1 (length xs)))
    (λ b below. let inside : b < length xs = (let size = length-map f xs in omega (arith, size, below)) in
    map-at f xs b z inside ∙ ap f (got xs b n inside)
    ∙ ap (λ o. f (unwrap_or o n)) (sym (same b))
    ∙ sym (map_range-at (λ k. f (unwrap_or (item k) n)) (length xs) 1 b z inside (suc b) (omega arith)))

pub inputs-are : (d : Diagram) (some : FixType) → map (type_at d.types) (inports_of d.rows None) ≡ root_types d
inputs-are d some =
    let ports = range_with_len 1 (length (inports_of d.rows None)) in
    by-place (type_at d.types) (inports_of d.rows None) (λ k. input_row d.rows None (Number k)) (length d.rows) some (λ b. refl)
    ∙ sym (map-twice (input_type_of d None) Number ports)
    ∙ ap (map (input_type_of d None)) (sym (nothing-behind (map Number ports)))
