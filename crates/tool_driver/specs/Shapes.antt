-- What a driver knows of the system that it drives, and what each of its calls takes and gives.
use Rattle.std.specs.Prelude.{ℕ, ◌+◌, List, [], ◌++◌, map, filter, length, codes, decimal}
use Rattle.std.specs.List.{enumerate_from}
use Rattle.base_core.specs.declared.Port.{Port}
use Rattle.base_core.specs.declared.Port.TheVariants.{Number}
use Rattle.base_fixed_point.specs.declared.FixType.{FixType}
use Rattle.modules_profile.specs.declared.Function.{Function}
use Rattle.base_core.specs.Ports.{has_bit, bit_of}
use Rattle.modules_profile.specs.Headers.{numbered_function}
use Rattle.c_syntax.specs.Tree.{ProgramTree}
use Rattle.emit_shape.specs.Programs.{procedure_place}
use Rattle.tool_driver.specs.declared.inputs.Input.{Input}
use Rattle.emit_shape.specs.Names.{function_name, named_update}

-- A system by its name, its functions, the types of its inputs by number and of its controls, the
-- names of its outputs' fields by port, and how many ticks its cycle has.
pub record Shape : Type 0 where
  pub name : List ℕ
  pub functions : List Function
  pub inputs : List FixType
  pub controls : List (Port × FixType)
  pub outputs : List (List ℕ)
  pub hyper : ℕ

-- ---- Inputs

-- the input at a place, from 0, and the control at a place
abbrev pub numbered_input : ℕ × FixType → Input
numbered_input e = record { place = e.0; port = Number (e.0 + 1); of = e.1 }

abbrev pub control_input : ℕ × (Port × FixType) → Input
control_input e = record { place = e.0; port = e.1.0; of = e.1.1 }

-- those with these types by number, and controls after so many
abbrev pub numbered_inputs : List FixType → List Input
numbered_inputs types = map numbered_input (enumerate_from 0 types)

abbrev pub control_inputs : ℕ → List (Port × FixType) → List Input
control_inputs from controls = map control_input (enumerate_from from controls)

-- all inputs: by number, and then the controls
abbrev pub inputs_of : Shape → List Input
inputs_of s = numbered_inputs s.inputs ++ control_inputs (length s.inputs) s.controls

-- those that a function takes
abbrev pub inputs_taken : Function → List Input → List Input
inputs_taken f inputs = filter (λ i. has_bit f.inputs (bit_of i.port)) inputs

-- those of function j
abbrev pub function_inputs : Shape → ℕ → List Input
function_inputs s j = inputs_taken (numbered_function s.functions j) (inputs_of s)

-- ---- Outputs

-- of the names of all outputs by port, those that a function gives
abbrev pub outputs_given : Function → List (List ℕ) → List (List ℕ)
outputs_given f names =
    map (λ e. e.1) (filter (λ e. has_bit f.outputs e.0) (enumerate_from 0 names))

-- those of function j
abbrev pub function_outputs : Shape → ℕ → List (List ℕ)
function_outputs s j = outputs_given (numbered_function s.functions j) s.outputs

-- ---- Procedures

-- a call: the position of its procedure, its inputs, and the names of the outputs that it gives
pub record CallPlan : Type 0 where
  pub procedure : ℕ
  pub inputs : List Input
  pub outputs : List (List ℕ)

-- a call of function j in a program, and one of the update
abbrev pub function_plan : ProgramTree → Shape → ℕ → CallPlan
function_plan p s j = record {
  procedure = procedure_place p (function_name s.name j);
  inputs = function_inputs s j;
  outputs = function_outputs s j;
}

abbrev pub update_plan : ProgramTree → Shape → CallPlan
update_plan p s =
    record {
      procedure = procedure_place p (named_update s.name);
      inputs = inputs_of s;
      outputs = [];
    }
