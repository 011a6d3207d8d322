-- The header of a system, and which of its inputs a function takes.
use Rattle.std.specs.Prelude.{ℕ, zero, suc, List, ◌++◌, map, filter, zip, length, slice_index_or, Option}
use Rattle.std.specs.List.{enumerate_from, range_with_len}
use Rattle.base_core.specs.declared.Port.{Port}
use Rattle.base_core.specs.declared.Port.TheVariants.{Number}
use Rattle.diagram_meaning.specs.Rows.{inports_of, outports_of, system_control}
use Rattle.diagram_meaning.specs.Diagram.{Diagram, type_at}
use Rattle.diagram_meaning.specs.Inputs.{control_wires_of}
use Rattle.base_core.specs.Ports.{control_ports, bit_of, has_bit}
use Rattle.modules_profile.specs.declared.profile.Function.{Function}
use Rattle.modules_profile.specs.SystemProfile.{SystemProfile}
use Rattle.modules_profile.specs.SystemHeader.{SystemHeader}

-- the header of the system s of a diagram with this profile
abbrev pub header_of : Diagram → Option ℕ → SystemProfile → SystemHeader
header_of d s profile = record {
  row = s;
  control = system_control d.rows s;
  inputs = map (type_at d.types) (inports_of d.rows s);
  controls = map (type_at d.types) (control_wires_of d.rows s);
  outputs = map (λ o. (o, type_at d.types o)) (outports_of d.rows s);
  profile = profile;
}

-- the inputs of a system by number, and then its controls
abbrev pub ports_of_header : SystemHeader → List Port
ports_of_header h = map Number (range_with_len 1 (length h.inputs)) ++ control_ports h.control

-- the functions of a system
abbrev pub header_functions : SystemHeader → List Function
header_functions h = h.profile.functions

-- a function that takes and gives nothing
abbrev pub idle_function : Function
idle_function = record { inputs = 0; outputs = 0 }

-- function j, from 1 on; for any other number one that takes and gives nothing
abbrev pub numbered_function : List Function → ℕ → Function
numbered_function functions zero = idle_function
numbered_function functions (suc k) = slice_index_or functions k idle_function

abbrev pub header_function : SystemHeader → ℕ → Function
header_function h j = numbered_function (header_functions h) j

-- of a list that has something for each input, what a function takes
abbrev pub taken_by_function : {A : Type 0} → Function → List Port → List A → List A
taken_by_function f ports xs =
    map (λ e. e.1) (filter (λ e. has_bit f.inputs (bit_of e.0)) (zip ports xs))

abbrev pub taken : {A : Type 0} → SystemHeader → ℕ → List A → List A
taken h j xs = taken_by_function (header_function h j) (ports_of_header h) xs

-- of the Outport rows of a system by port, those that a function gives
abbrev pub given_by_function : Function → List ℕ → List ℕ
given_by_function f outports =
    map (λ (e : ℕ × ℕ). e.1)
    (filter (λ (e : ℕ × ℕ). has_bit f.outputs e.0) (enumerate_from 0 outports))

abbrev pub given_rows : SystemHeader → ℕ → List ℕ
given_rows h j = given_by_function (header_function h j) (map (λ o. o.0) h.outputs)
