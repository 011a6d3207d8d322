-- Why a call is refused: the causes in their order, and in each the first value that has it.
use Rattle.std.specs.Prelude.{ℕ, ◌+◌, ◌-◌, ◌*◌, Bool, true, false, not, ◌==◌, ◌&&◌, if◌then◌else◌, List, [], ◌∷◌, map, zip, slice_index_or, Option, Some, None, Result, Ok, Err, ℤ, int_le}
use Rattle.std.specs.Option.{option_or}
use Rattle.std.specs.Ordering.{int_eq}
use Rattle.base_fixed_point.specs.declared.FixType.{FixType}
use Rattle.base_fixed_point.specs.Conversion.{least_of, greatest_of}
use Rattle.modules_profile.specs.Functions.{mask_of}
use Rattle.c_syntax.specs.declared.fault.Cost.{Cost}
use Rattle.tool_driver.specs.declared.inputs.Input.{Input}
use Rattle.tool_driver.specs.declared.fault.DriveFault.{DriveFault}
use Rattle.tool_driver.specs.declared.fault.DriveFault.TheVariants.{Twice, Early, Value, Unlike, Stuck}
use Rattle.tool_driver.specs.Shapes.{inputs_of, function_inputs}
use Rattle.tool_driver.specs.States.{DriverState}

-- the first error of the elements of a list
abbrev pub first_fault : {A : Type 0} → (A → Option DriveFault) → List A → Option DriveFault
first_fault fault_of [] = None
first_fault fault_of (x ∷ xs) = option_or (fault_of x) (first_fault fault_of xs)

-- ---- Values

-- a number is one of a type
abbrev pub is_of_type : FixType → ℤ → Bool
is_of_type t v = int_le (least_of t) v && int_le v (greatest_of t)

-- a value that is out of its input's type
abbrev pub value_fault : Input × ℤ → Option DriveFault
value_fault e = if is_of_type e.0.of e.1 then None else Some (Value e.0.port)

-- a value where the tick has another for the same input
abbrev pub fault_beside : Input → Option ℤ → ℤ → Option DriveFault
fault_beside i None value = None
fault_beside i (Some first) value =
    if int_eq first value then None else Some (Unlike i.port first value)

abbrev pub unlike_fault : List (Option ℤ) → Input × ℤ → Option DriveFault
unlike_fault given e = fault_beside e.0 (slice_index_or given e.0.place None) e.1

-- values for these inputs, where the tick has those: first whether each is in its type, then
-- whether each is like
abbrev pub values_fault : List (Option ℤ) → List Input → List ℤ → Option DriveFault
values_fault given inputs values =
    option_or (first_fault value_fault (zip inputs values))
    (first_fault (unlike_fault given) (zip inputs values))

-- ---- Turns

-- a function that this tick had a call of
abbrev pub twice_fault : List Bool → ℕ → Option DriveFault
twice_fault called j = if slice_index_or called (j - 1) false then Some (Twice j) else None

-- a mask with one more bit below
abbrev pub bit_below : Bool → ℕ → ℕ
bit_below true mask = 2 * mask + 1
bit_below false mask = 2 * mask

-- the functions that this tick had no call of: bit j - 1 for function j
abbrev pub missing : List Bool → ℕ
missing called = mask_of (map not called)

abbrev pub early_fault : List Bool → Option DriveFault
early_fault called = if missing called == 0 then None else Some (Early (missing called))

-- ---- Calls

-- why a call of function j with these values is refused, if it is
abbrev pub call_fault : DriverState → ℕ → List ℤ → Option DriveFault
call_fault d j values =
    option_or (twice_fault d.called j) (values_fault d.given (function_inputs d.shape j) values)

-- why the update is
abbrev pub update_fault : DriverState → List ℤ → Option DriveFault
update_fault d values =
    option_or (early_fault d.called) (values_fault d.given (inputs_of d.shape) values)

-- the error of an answer, except for a machine that is stuck
abbrev pub fault_unless_stuck : DriveFault → Option DriveFault
fault_unless_stuck (Twice function) = Some (Twice function)
fault_unless_stuck (Early missing) = Some (Early missing)
fault_unless_stuck (Value input) = Some (Value input)
fault_unless_stuck (Unlike input first second) = Some (Unlike input first second)
fault_unless_stuck (Stuck at) = None

-- the refusal that an answer is, if it is one
abbrev pub refusal_of : Result Cost DriveFault → Option DriveFault
refusal_of (Ok cost) = None
refusal_of (Err why) = fault_unless_stuck why
