-- What the root of a lawful program takes.
use Rattle.std.proofs.Common.{◌≡◌, refl, sym, ◌∙◌, ap, ℕ, ◌+◌, ◌<◌, Bool, List, [], length, map, get_or, Some, unwrap_or, slice_get, codes, bytes_eq, arith}
use Rattle.std.specs.List.{position_from}
use Rattle.std.specs.Option.{option_map}
use Rattle.std.specs.Coded.{le_prop}
use Rattle.std.proofs.lemmas.Option.{slice_get-map, slice_get_read, slice_get_within}
use Rattle.std.proofs.lemmas.List.{length-map}
use Rattle.base_fixed_point.specs.declared.types.FixType.{FixType}
use Rattle.base_fixed_point.specs.Profile.{InProfile}
use Rattle.c_syntax.specs.Tree.{ProcedureTree, ProgramTree}
use Rattle.c_syntax.specs.Names.{name_at}
use Rattle.c_syntax.specs.RootFields.{procedure_named}
use Rattle.c_syntax.specs.Lawful.{IsLawful, pure_names, procedure_names}
use Rattle.c_syntax.proofs.lemmas.NameFacts.{AreDistinct-back}
use Rattle.c_syntax.proofs.lemmas.NamePlaces.{position_from-named, map-at}

some_same : {A : Type 0} (x y : A) → Some x ≡ Some y → x ≡ y
some_same x y e = ap (λ o. unwrap_or o x) e

-- an element of a list, through a map
pub slice_get-map_at : {A B : Type 0} (f : A → B) (xs : List A) (k : ℕ) (x : A) → k < length xs → x ≡ get_or xs k x →
    slice_get (map f xs) k ≡ Some (f x)
slice_get-map_at f xs k x within here = slice_get-map f xs k ∙ ap (option_map f) (slice_get_read xs (length xs) k x refl within here)

-- a type is its three numbers
pub type-same : (signed : Bool) (bits frac : ℕ) (a b : InProfile signed bits frac) →
    ◌≡◌ {A = FixType} (record { signed = signed; bits = bits; frac = frac; in_profile = a })
    (record { signed = signed; bits = bits; frac = frac; in_profile = b })
type-same signed bits frac a b =
    λ i. record {
      signed = signed;
      bits = bits;
      frac = frac;
      in_profile = (le_prop a.0 b.0 i, le_prop a.1 b.1 i, le_prop a.2 b.2 i);
    }

-- the procedure that is found by its name is the root's
pub step-found : (p : ProgramTree) (lawful : IsLawful p) (k : ℕ) (q : ProcedureTree) →
    procedure_named p (codes "root_step") ≡ Some k → slice_get p.procedures k ≡ Some q → lawful.root.step_procedure ≡ q
step-found p lawful k q named there =
    let r = lawful.root in
    let names : List (List ℕ) = procedure_names p.procedures in
    let within : r.step < length names =
    omega (
      arith,
      slice_get_within p.procedures r.step r.step_procedure r.step_there,
      length-map p.procedures (λ x. x.name),
    ) in
    let at : name_at names r.step ≡ codes "root_step" =
    map-at (λ x. x.name) p.procedures r.step r.step_procedure [] r.step_there ∙ r.step_name in
    let place =
    position_from-named (λ (x : ProcedureTree). x.name) p.procedures 0 r.step
    (AreDistinct-back (pure_names p.pures) names lawful.functions) within in
    let same =
    some_same k (0 + r.step) (sym named
    ∙ ap (λ n. position_from (λ (x : ProcedureTree). bytes_eq x.name n) 0 p.procedures) (sym at) ∙ place) in
    let here : k ≡ r.step = omega (arith, same) in
    some_same r.step_procedure q (sym r.step_there ∙ ap (slice_get p.procedures) (sym here) ∙ there)
