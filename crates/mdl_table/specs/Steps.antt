-- The step that a model writes.
use Rattle.std.specs.Prelude.{◌≡◌, ℕ, ◌==◌, if◌then◌else◌, List, Option, Some, None, option_map, option_and_then, bytes_eq, codes}
use Rattle.std.specs.Option.{option_or}
use Rattle.std.specs.Result.{result_ok}
use Rattle.base_core.specs.declared.Frac.{Frac}
use Rattle.base_numerals.specs.Literals.{Ratio, parts_of, frac_parts}
use Rattle.mdl_params.specs.Forms.{number_form}
use Rattle.mdl_tree.specs.Spelling.{Items, End, Param, Section}
use Rattle.mdl_tree.specs.Walks.{first_section}

-- the first value of a parameter among the items, at any depth
abbrev pub first_at_any_depth : List ℕ → Items → Option (List ℕ)
first_at_any_depth wanted End = None
first_at_any_depth wanted (Param name value line rest) =
    if bytes_eq name wanted then Some value else first_at_any_depth wanted rest
first_at_any_depth wanted (Section name line items rest) =
    option_or (first_at_any_depth wanted items) (first_at_any_depth wanted rest)

-- the same outside the first System among the items, in which a model's blocks are
abbrev pub first_outside_system : List ℕ → Items → Option (List ℕ)
first_outside_system wanted End = None
first_outside_system wanted (Param name value line rest) =
    if bytes_eq name wanted then Some value else first_outside_system wanted rest
first_outside_system wanted (Section name line items rest) =
    if bytes_eq name (codes "System") then first_at_any_depth wanted rest
    else option_or (first_at_any_depth wanted items) (first_outside_system wanted rest)

-- a fraction that is above 0 and within the limits
abbrev pub positive_parts : Ratio → Option (ℕ × ℕ)
positive_parts r =
    option_and_then (λ (parts : ℕ × ℕ). if parts.0 == 0 then None else Some parts)
    (result_ok (frac_parts r.num r.den))

-- the step that a model's items write, if it is a positive fraction
abbrev pub step_parts : Items → Option (ℕ × ℕ)
step_parts items =
    option_and_then positive_parts
    (option_and_then (λ text. result_ok (number_form text))
    (first_outside_system (codes "FixedStep") items))

-- the written step of a model's items
abbrev pub IsStepOf : Items → Option Frac → Type 0
IsStepOf items step = option_map parts_of step ≡ step_parts items

-- the step of a model with these items, none where there is no model
abbrev pub IsFixedStep : Items → Option Frac → Type 0
IsFixedStep file step = elim (first_section (codes "Model") file) [
  | Some model ↦ IsStepOf model.items step
  | None ↦ step ≡ None
]
