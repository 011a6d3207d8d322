-- The types of blocks, and their names.
use Rattle.std.specs.Prelude.{ℕ, List, [], ◌∷◌, Option, None, Some, codes, bytes_eq, find, if◌then◌else◌}
use Rattle.mdl_params.specs.declared.block_type.BlockType.{BlockType}
use Rattle.mdl_params.specs.declared.block_type.BlockType.TheVariants.{Inport, Outport, SubSystem, Constant, Ground, Terminator, Gain, Sum, Product, UnitDelay, Delay, ZeroOrderHold, Switch, RelationalOperator, Logic, DataTypeConversion, RateTransition, EnablePort, TriggerPort}

-- all types
abbrev pub block_types : List BlockType
block_types =
    Inport ∷ Outport ∷ SubSystem ∷ Constant ∷ Ground ∷ Terminator
    ∷ Gain ∷ Sum ∷ Product ∷ UnitDelay ∷ Delay ∷ ZeroOrderHold ∷ Switch
    ∷ RelationalOperator ∷ Logic ∷ DataTypeConversion ∷ RateTransition ∷ EnablePort ∷ TriggerPort
    ∷ []

-- the name that a model writes as the BlockType
abbrev pub block_type_name : BlockType → List ℕ
block_type_name Inport = codes "Inport"
block_type_name Outport = codes "Outport"
block_type_name SubSystem = codes "SubSystem"
block_type_name Constant = codes "Constant"
block_type_name Ground = codes "Ground"
block_type_name Terminator = codes "Terminator"
block_type_name Gain = codes "Gain"
block_type_name Sum = codes "Sum"
block_type_name Product = codes "Product"
block_type_name UnitDelay = codes "UnitDelay"
block_type_name Delay = codes "Delay"
block_type_name ZeroOrderHold = codes "ZeroOrderHold"
block_type_name Switch = codes "Switch"
block_type_name RelationalOperator = codes "RelationalOperator"
block_type_name Logic = codes "Logic"
block_type_name DataTypeConversion = codes "DataTypeConversion"
block_type_name RateTransition = codes "RateTransition"
block_type_name EnablePort = codes "EnablePort"
block_type_name TriggerPort = codes "TriggerPort"

-- the type of this name
abbrev pub block_type_of : List ℕ → Option BlockType
block_type_of name = find (λ type. bytes_eq (block_type_name type) name) block_types

-- what is beside the first name that is this one
abbrev pub beside : {A : Type 0} → List ℕ → List (List ℕ × A) → Option A
beside wanted [] = None
beside wanted (pair ∷ rest) = if bytes_eq wanted pair.0 then Some pair.1 else beside wanted rest
