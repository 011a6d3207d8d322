-- Worked texts of parameters.
use Rattle.std.specs.Prelude.{◌≡◌, refl, [], ◌∷◌, None, Some, Ok, Err, codes}
use Rattle.base_core.specs.declared.base.ParamName.TheVariants.{Name, InitialCondition, SampleTime, DelayLength}
use Rattle.mdl_params.specs.declared.fault.ParamFault.TheVariants.{Parameter, Float, Continuous}
use Rattle.mdl_tree.specs.Spelling.{End, Param, Section}
use Rattle.mdl_params.specs.Defaults.{parameter_text, kinds_of, default_blocks}
use Rattle.mdl_params.specs.Forms.{number_form, type_form}
use Rattle.mdl_params.specs.Times.{time_form, Inherit, Constant, Each}

time-inherit : time_form (codes "-1") ≡ Ok Inherit
time-inherit = refl

time-inherit_pair : time_form (codes " [-1, 0]") ≡ Ok Inherit
time-inherit_pair = refl

time-constant : time_form (codes "inf") ≡ Ok Constant
time-constant = refl

time-fiftieth : time_form (codes "1/50") ≡ Ok (Each (1, 50) (0, 1))
time-fiftieth = refl

time-pair : time_form (codes "[1/75 1/150]") ≡ Ok (Each (1, 75) (1, 150))
time-pair = refl

time-comma : time_form (codes "[0.2, 0.1]") ≡ Ok (Each (1, 5) (1, 10))
time-comma = refl

time-tight : time_form (codes "[2,0]") ≡ Ok (Each (2, 1) (0, 1))
time-tight = refl

time-bracket : time_form (codes "[4]") ≡ Ok (Each (4, 1) (0, 1))
time-bracket = refl

time-zero : time_form (codes "0") ≡ Err Continuous
time-zero = refl

time-zero_pair : time_form (codes "[0 1]") ≡ Err Continuous
time-zero_pair = refl

time-late : time_form (codes "[1 1]") ≡ Err Parameter
time-late = refl

time-minus : time_form (codes "-2") ≡ Err Parameter
time-minus = refl

time-nested : time_form (codes "[[1] 0]") ≡ Err Parameter
time-nested = refl

time-two_blanks : time_form (codes "[1  0]") ≡ Err Parameter
time-two_blanks = refl

time-small : time_form (codes "1.000003") ≡ Ok (Each (1000003, 1000000) (0, 1))
time-small = refl

time-beyond : time_form (codes "1e10") ≡ Err Parameter
time-beyond = refl

text-own_second_name : parameter_text
    ((codes "UnitDelay", (codes "InitialCondition", codes "3") ∷ []) ∷ [])
    (Param (codes "X0") (codes "7") 4 End) (codes "UnitDelay") InitialCondition ≡ Some (codes "7")
text-own_second_name = refl

text-of_type : parameter_text ((codes "UnitDelay", (codes "X0", codes "3") ∷ []) ∷ []) End
    (codes "UnitDelay") InitialCondition ≡ Some (codes "3")
text-of_type = refl

text-no_second_name : parameter_text [] (Param (codes "X0") (codes "7") 4 End)
    (codes "Delay") InitialCondition ≡ Some (codes "0")
text-no_second_name = refl

text-delay_length : parameter_text [] End (codes "Delay") DelayLength ≡ Some (codes "2")
text-delay_length = refl

text-default : parameter_text [] End (codes "ZeroOrderHold") SampleTime ≡ Some (codes "1")
text-default = refl

text-no_name : parameter_text [] End (codes "Gain") Name ≡ None
text-no_name = refl

kinds : kinds_of
    (default_blocks
    (Section (codes "BlockParameterDefaults") 2
    (Section (codes "Block") 3 (Param (codes "BlockType") (codes "Gain") 4 End) End) End))
    ≡ (codes "Gain", (codes "BlockType", codes "Gain") ∷ []) ∷ []
kinds = refl

-- the special texts are those listed and no others
time-inherit_brackets : time_form (codes "[-1]") ≡ Err Parameter
time-inherit_brackets = refl

time-inherit_point : time_form (codes "-1.0") ≡ Err Parameter
time-inherit_point = refl

time-constant_pair : time_form (codes "[Inf 0]") ≡ Err Parameter
time-constant_pair = refl

-- a period 0 frees the offset
time-zero_free : time_form (codes "[0 -1]") ≡ Err Continuous
time-zero_free = refl

time-tab : time_form (codes "[1\t0]") ≡ Err Parameter
time-tab = refl

time-no_offset : time_form (codes "[1,]") ≡ Err Parameter
time-no_offset = refl

number-beyond : number_form (codes "1e19") ≡ Err Parameter
number-beyond = refl

type-float : type_form (codes " double") ≡ Err Float
type-float = refl

type-wide : type_form (codes "fixdt(1,33,0)") ≡ Err Parameter
type-wide = refl
