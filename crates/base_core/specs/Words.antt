-- The words of ports, parameters and lines.
use Rattle.std.specs.Prelude.{ℕ, List, ◌∷◌, codes}
use Rattle.std.specs.Fmt.{decimal}
use Rattle.base_core.specs.declared.base.Port.{Port}
use Rattle.base_core.specs.declared.base.Port.TheVariants as port
use Rattle.base_core.specs.declared.base.ParamName.{ParamName}
use Rattle.base_core.specs.declared.base.ParamName.TheVariants as param

-- a port as its number, `enable` or `trigger`
abbrev pub port_word : Port → List ℕ
port_word (port.Number n) = decimal n
port_word port.Enable = codes "enable"
port_word port.Trigger = codes "trigger"

-- the name of a parameter as a model writes it
abbrev pub param_word : ParamName → List ℕ
param_word param.Name = codes "Name"
param_word param.Port = codes "Port"
param_word param.OutDataTypeStr = codes "OutDataTypeStr"
param_word param.SampleTime = codes "SampleTime"
param_word param.PortDimensions = codes "PortDimensions"
param_word param.OutputWhenDisabled = codes "OutputWhenDisabled"
param_word param.InitialOutput = codes "InitialOutput"
param_word param.SystemSampleTime = codes "SystemSampleTime"
param_word param.Value = codes "Value"
param_word param.Gain = codes "Gain"
param_word param.ParamDataTypeStr = codes "ParamDataTypeStr"
param_word param.RndMeth = codes "RndMeth"
param_word param.SaturateOnIntegerOverflow = codes "SaturateOnIntegerOverflow"
param_word param.Inputs = codes "Inputs"
param_word param.InitialCondition = codes "InitialCondition"
param_word param.Criteria = codes "Criteria"
param_word param.Threshold = codes "Threshold"
param_word param.Operator = codes "Operator"
param_word param.ConvertRealWorld = codes "ConvertRealWorld"
param_word param.Integrity = codes "Integrity"
param_word param.Deterministic = codes "Deterministic"
param_word param.OutPortSampleTimeOpt = codes "OutPortSampleTimeOpt"
param_word param.OutPortSampleTime = codes "OutPortSampleTime"
param_word param.StatesWhenEnabling = codes "StatesWhenEnabling"
param_word param.TriggerType = codes "TriggerType"
param_word param.DelayLength = codes "DelayLength"
param_word param.DelayLengthSource = codes "DelayLengthSource"
param_word param.InitialConditionSource = codes "InitialConditionSource"
param_word param.ExternalReset = codes "ExternalReset"

-- the word `line`, a line's number, and further words
abbrev pub at_line : ℕ → List (List ℕ) → List (List ℕ)
at_line line words = codes "line" ∷ decimal line ∷ words
