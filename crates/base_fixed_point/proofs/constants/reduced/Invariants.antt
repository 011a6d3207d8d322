use Rattle.std.proofs.Common.{◌≡◌, ◌≤◌, ◌^◌, unsigned_abs}
use Rattle.base_fixed_point.specs.Conversion.{reduced_constant}
use Rattle.base_fixed_point.proofs.constants.reduced.Given as goal

-- what is left to reduce comes to the same
abbrev pub invariant-loop-left : goal.invariant-loop-left
invariant-loop-left l = record {
  value : reduced_constant l.left l.odd ≡ reduced_constant l.fn.frac l.fn.number;
  bound : unsigned_abs l.odd ≤ 2 ^ 40;
}

abbrev pub decreases-loop-left : goal.decreases-loop-left
decreases-loop-left l = l.left
