-- The eight functions take so many numbers as their parameters.
use Rattle.std.proofs.Common.{◌≡◌, refl, subst, ℕ, ◌<◌, List, [], length, map, replicate, Some, slice_index_or}
use Rattle.std.specs.Prelude.{slice_get}
use Rattle.std.proofs.lemmas.Option.{get_or_from_slice_get}
use Rattle.c_syntax.specs.Tree.{PureTree}
use Rattle.emit_prelude.specs.Rules.{IsPrelude, params}
use Rattle.modules_profile.proofs.lemmas.Members.{at-map, at-below}
use Rattle.lustre_syntax.specs.Tree.{ValueType, int}
use Rattle.lustre_system.specs.FunctionRules.{function_inputs}

abbrev ints_for : List (List ℕ) → List ValueType
ints_for names = replicate (length names) int

inputs-are : map ints_for params ≡ function_inputs
inputs-are = refl

pub arity : (ps : List PureTree) (k : ℕ) (p : PureTree) → IsPrelude ps → slice_get ps k ≡ Some p →
    (k < 8) × (slice_index_or function_inputs k [] ≡ replicate (length p.params) int)
arity ps k p prelude there =
    let at : slice_get params k ≡ Some p.params =
    subst (λ (qs : List (List (List ℕ))). slice_get qs k ≡ Some p.params) prelude.with_params
    (at-map (λ (q : PureTree). q.params) ps k p there) in
    let inputs : slice_get function_inputs k ≡ Some (ints_for p.params) =
    subst (λ (ins : List (List ValueType)). slice_get ins k ≡ Some (ints_for p.params)) inputs-are (at-map ints_for params k p.params at) in
    (at-below params k p.params at, get_or_from_slice_get function_inputs k (ints_for p.params) [] inputs)
