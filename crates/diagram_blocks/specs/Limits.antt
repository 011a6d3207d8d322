-- What a row's kind and its inputs' types must be like so that it can be computed.
use Rattle.std.specs.Prelude.{◌≡◌, ℕ, ◌<◌, ◌≤◌, Bool, true, false, MatchBool, IsOk, List, length, ⊤}
use Rattle.base_fixed_point.specs.declared.FixType.{FixType}
use Rattle.base_fixed_point.specs.Conversion.{gain_constant}
use Rattle.diagram_blocks.specs.declared.kind.GainText.{GainText}
use Rattle.diagram_blocks.specs.declared.kind.GainText.TheVariants.{Own, Typed}
use Rattle.diagram_blocks.specs.declared.kind.Kind.{Kind}
use Rattle.diagram_blocks.specs.declared.kind.Kind.TheVariants.{Gain, Sum, Product, Switch, Relational, Logic, Convert}
use Rattle.diagram_blocks.specs.Meaning.{ports}

-- a block with as many inputs as it is written has 1 to 16
abbrev pub IsCount : ℕ → Type 0
IsCount n = (0 < n) × (n ≤ 16)

-- a delay of several samples has 1 to 65,535 of them
abbrev pub IsDelayLength : ℕ → Type 0
IsDelayLength n = (0 < n) × (n ≤ 65535)

-- a gain of its own type has a constant
abbrev pub HasConstant : GainText → Type 0
HasConstant (Own d) = IsOk (gain_constant d)
HasConstant (Typed d type) = ⊤

-- the count of inputs or the gain that a kind has is within its limits
abbrev pub IsWithinLimits : Kind → Type 0
IsWithinLimits (Gain gain how) = HasConstant gain
IsWithinLimits (Sum count minus how) = IsCount count
IsWithinLimits (Product count how) = IsCount count
IsWithinLimits (Logic o count) = IsCount count
IsWithinLimits _ = ⊤

-- whether a row's value is computed from its inputs, and not passed on or given
abbrev pub is_computed : Kind → Bool
is_computed (Gain gain how) = true
is_computed (Sum count minus how) = true
is_computed (Product count how) = true
is_computed (Switch criterion threshold how) = true
is_computed (Relational compare) = true
is_computed (Logic o count) = true
is_computed (Convert how) = true
is_computed _ = false

-- a row that is computed has one type for each of its inputs
abbrev pub HasInputTypes : Kind → List FixType → Type 0
HasInputTypes kind ts = MatchBool (is_computed kind) (length ts ≡ ports kind) ⊤
