-- The refusals of a file for the errors of its blocks.
use Rattle.std.specs.Prelude.{ℕ}
use Rattle.base_refusals.specs.Refusals.{PlainRefusal}
use Rattle.base_refusals.specs.Refusals as refusal
use Rattle.mdl_blocks.specs.declared.fault.Fault.{Fault}
use Rattle.mdl_blocks.specs.declared.fault.Fault.TheVariants.{Unsupported, Parameter, Continuous, FloatType}

-- the refusal for an error of the block at a line
abbrev pub refusal_at : (line : ℕ) → Fault → PlainRefusal
refusal_at line Unsupported = refusal.Unsupported line
refusal_at line (Parameter parameter) = refusal.Parameter line parameter
refusal_at line Continuous = refusal.Continuous line
refusal_at line FloatType = refusal.FloatType line
