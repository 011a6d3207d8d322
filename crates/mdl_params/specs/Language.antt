-- The parameters of each type of block, with the defaults that hold where a file gives none.
use Rattle.std.specs.Prelude.{ℕ, Bool, List, [], ◌∷◌, map, Option, None, Some, codes, option_and_then, if◌then◌else◌}
use Rattle.std.specs.Borrow.{Bor}
use Rattle.base_core.specs.declared.base.ParamName.{ParamName}
use Rattle.base_core.specs.declared.base.ParamName.TheVariants.{OutDataTypeStr, SampleTime, PortDimensions, OutputWhenDisabled, InitialOutput, SystemSampleTime, ParamDataTypeStr, RndMeth, SaturateOnIntegerOverflow, Inputs, InitialCondition, Criteria, Threshold, Operator, ConvertRealWorld, Integrity, Deterministic, OutPortSampleTimeOpt, OutPortSampleTime, StatesWhenEnabling, TriggerType, DelayLength, DelayLengthSource, InitialConditionSource, ExternalReset}
use Rattle.base_core.specs.declared.base.ParamName.TheVariants as param
use Rattle.base_core.specs.contracts.base.ParamName.{the_type}
use denote.Enum.Bare.{sameb}
use Rattle.mdl_params.specs.declared.block_type.BlockType.{BlockType}
use Rattle.mdl_params.specs.declared.block_type.BlockType.TheVariants.{Inport, Outport, SubSystem, Constant, Ground, Terminator, Gain, Sum, Product, UnitDelay, Delay, ZeroOrderHold, Switch, RelationalOperator, Logic, DataTypeConversion, RateTransition, EnablePort, TriggerPort}
use Rattle.mdl_params.specs.BlockTypes.{block_type_of}

-- the parameters of a block that computes in fixed point, after its own
abbrev pub arithmetic : List (ParamName × List ℕ)
arithmetic = (RndMeth, codes "Floor") ∷ (SaturateOnIntegerOverflow, codes "off")
    ∷ (SampleTime, codes "-1") ∷ []

-- the parameters of a type of block, in the order in which they are checked, with their defaults
abbrev pub parameters : BlockType → List (ParamName × List ℕ)
parameters Inport =
    (param.Port, codes "1") ∷ (OutDataTypeStr, codes "Inherit: auto") ∷ (SampleTime, codes "-1")
    ∷ (PortDimensions, codes "-1") ∷ []
parameters Outport =
    (param.Port, codes "1") ∷ (OutDataTypeStr, codes "Inherit: auto") ∷ (SampleTime, codes "-1")
    ∷ (PortDimensions, codes "-1")
    ∷ (OutputWhenDisabled, codes "held") ∷ (InitialOutput, codes "[]") ∷ []
parameters SubSystem = (SystemSampleTime, codes "-1") ∷ []
parameters Constant =
    (param.Value, codes "1") ∷ (OutDataTypeStr, codes "Inherit: Inherit from 'Constant value'")
    ∷ (SampleTime, codes "inf") ∷ []
parameters Ground = []
parameters Terminator = []
parameters Gain =
    (param.Gain, codes "1") ∷ (ParamDataTypeStr, codes "Inherit: Same as input")
    ∷ (OutDataTypeStr, codes "Inherit: Same as input") ∷ arithmetic
parameters Sum =
    (Inputs, codes "++") ∷ (OutDataTypeStr, codes "Inherit: Same as first input") ∷ arithmetic
parameters Product =
    (Inputs, codes "2") ∷ (OutDataTypeStr, codes "Inherit: Same as first input") ∷ arithmetic
parameters UnitDelay = (InitialCondition, codes "0") ∷ (SampleTime, codes "-1") ∷ []
parameters Delay =
    (DelayLength, codes "2") ∷ (DelayLengthSource, codes "Dialog") ∷ (InitialCondition, codes "0")
    ∷ (InitialConditionSource, codes "Dialog") ∷ (ExternalReset, codes "None")
    ∷ (SampleTime, codes "-1") ∷ []
parameters ZeroOrderHold = (SampleTime, codes "1") ∷ []
parameters Switch =
    (Criteria, codes "u2 >= Threshold") ∷ (Threshold, codes "0")
    ∷ (OutDataTypeStr, codes "Inherit: Same as first input") ∷ arithmetic
parameters RelationalOperator =
    (Operator, codes ">=") ∷ (OutDataTypeStr, codes "boolean") ∷ (SampleTime, codes "-1") ∷ []
parameters Logic =
    (Operator, codes "AND") ∷ (Inputs, codes "2") ∷ (OutDataTypeStr, codes "boolean")
    ∷ (SampleTime, codes "-1") ∷ []
parameters DataTypeConversion =
    (OutDataTypeStr, codes "Inherit: Inherit via back propagation")
    ∷ (ConvertRealWorld, codes "Real World Value (RWV)") ∷ arithmetic
parameters RateTransition =
    (Integrity, codes "on") ∷ (Deterministic, codes "on") ∷ (InitialCondition, codes "0")
    ∷ (OutPortSampleTimeOpt, codes "Specify") ∷ (OutPortSampleTime, codes "-1") ∷ []
parameters EnablePort = (StatesWhenEnabling, codes "held") ∷ []
parameters TriggerPort = (TriggerType, codes "rising") ∷ []

-- parameters in memory, as plain ones
abbrev pub plain_parameters : List (ParamName × Bor (List ℕ)) → List (ParamName × List ℕ)
plain_parameters held = map (λ parameter. (parameter.0, parameter.1.now)) held

-- whether two parameters are the same
abbrev pub is_same_param : ParamName → ParamName → Bool
is_same_param = sameb the_type

-- the default of this parameter among others
abbrev pub default_among : ParamName → List (ParamName × List ℕ) → Option (List ℕ)
default_among wanted [] = None
default_among wanted (pair ∷ rest) =
    if is_same_param pair.0 wanted then Some pair.1 else default_among wanted rest

-- the default of this parameter of a type of block, if that type has it
abbrev pub default_text : List ℕ → ParamName → Option (List ℕ)
default_text kind name =
    option_and_then (λ type. default_among name (parameters type)) (block_type_of kind)
