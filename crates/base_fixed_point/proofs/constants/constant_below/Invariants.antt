use Rattle.std.proofs.Common.{◌≡◌}
use Rattle.base_fixed_point.specs.Conversion.{constant_below}
use Rattle.base_fixed_point.proofs.constants.constant_below.Given as goal

-- no number at a greater f fits
abbrev pub invariant-loop-frac : goal.invariant-loop-frac
invariant-loop-frac l = constant_below l.frac l.d ≡ constant_below l.fn.limit l.d
