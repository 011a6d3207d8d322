-- The names and types in the code of a diagram.
use Rattle.std.specs.Prelude.{ℕ, Bool, false, ◌==◌, nat_le, if◌then◌else◌, List, [], ◌∷◌, ◌++◌, Option, Some, codes, decimal}
use Rattle.base_core.specs.declared.Control.{Control}
use Rattle.base_core.specs.declared.Control.TheVariants.{Plain, Enabled, Triggered, Both}
use Rattle.base_core.specs.declared.Port.{Port}
use Rattle.base_core.specs.declared.Port.TheVariants.{Number, Enable, Trigger}
use Rattle.base_fixed_point.specs.declared.FixType.{FixType}
use Rattle.modules_profile.specs.Systems.{system_name}
use Rattle.c_syntax.specs.declared.CType.{CType}
use Rattle.c_syntax.specs.declared.CType.TheVariants.{I8, U8, I16, U16, I32, U32}

-- the narrowest C type that has all numbers of a type
abbrev pub container : FixType → CType
container t =
    if nat_le t.bits 8 then (if t.signed then I8 else U8)
    else (if nat_le t.bits 16 then (if t.signed then I16 else U16)
    else (if t.signed then I32 else U32))

-- a system's name is that of its struct, and of the field of a child
abbrev pub child_name : ℕ → List ℕ
child_name r = system_name (Some r)

-- the fields for the value and the memory of row r, which of a delay of several samples is an
-- array; for what a trigger remembers, and of a struct without any other
abbrev pub value_name : ℕ → List ℕ
value_name r = codes "v" ++ decimal r

abbrev pub memory_name : ℕ → List ℕ
memory_name r = codes "m" ++ decimal r

-- for a delay of several samples, the place of its oldest item, and how many samples it took
abbrev pub place_name : ℕ → List ℕ
place_name r = codes "p" ++ decimal r

abbrev pub taken_name : ℕ → List ℕ
taken_name r = codes "n" ++ decimal r

abbrev pub trigger_name : List ℕ
trigger_name = codes "w"

abbrev pub filler_name : List ℕ
filler_name = codes "none"

-- a counter's name begins with `k`
abbrev pub is_counter_name : List ℕ → Bool
is_counter_name [] = false
is_counter_name (b ∷ bs) = b == 107

-- the parameters for the tick and for input k
abbrev pub now_name : List ℕ
now_name = codes "now"

abbrev pub input_name : ℕ → List ℕ
input_name k = codes "u" ++ decimal k

-- a control's parameter; of two controls the trigger's has a name of its own
abbrev pub control_name : List ℕ
control_name = codes "ctl"

abbrev pub second_control_name : List ℕ
second_control_name = codes "trg"

-- the parameter of a system's trigger, by the system's controls
abbrev pub trigger_param : Control → List ℕ
trigger_param Plain = control_name
trigger_param (Enabled reset) = control_name
trigger_param (Triggered edge) = control_name
trigger_param (Both reset edge) = second_control_name

-- the parameter of an input, by the system's controls
abbrev pub port_name : Control → Port → List ℕ
port_name control (Number k) = input_name k
port_name control Enable = control_name
port_name control Trigger = trigger_param control

-- the procedures of function j and of the update of the system of a name
abbrev pub function_name : List ℕ → ℕ → List ℕ
function_name name j = name ++ codes "_out" ++ decimal j

abbrev pub named_update : List ℕ → List ℕ
named_update name = name ++ codes "_update"

-- the public procedures of a system: function j, and those that update, start and reset
abbrev pub out_name : Option ℕ → ℕ → List ℕ
out_name s j = function_name (system_name s) j

abbrev pub update_name : Option ℕ → List ℕ
update_name s = named_update (system_name s)

abbrev pub start_name : Option ℕ → List ℕ
start_name s = system_name s ++ codes "_start"

abbrev pub reset_name : Option ℕ → List ℕ
reset_name s = system_name s ++ codes "_reset"

-- the root's struct and its procedures
abbrev pub root_name : List ℕ
root_name = codes "root"

abbrev pub root_start_name : List ℕ
root_start_name = codes "root_start"

abbrev pub root_step_name : List ℕ
root_step_name = codes "root_step"

-- the counter of group g, and the private procedure that runs its nodes
abbrev pub counter_name : ℕ → List ℕ
counter_name g = codes "k" ++ decimal g

abbrev pub group_name : Option ℕ → ℕ → List ℕ
group_name s g = system_name s ++ codes "_g" ++ decimal g
