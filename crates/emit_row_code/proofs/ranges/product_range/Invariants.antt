use Rattle.std.proofs.Common.{◌≡◌}
use Rattle.emit_row_code.specs.Ranges as rule
use Rattle.emit_row_code.proofs.ranges.product_range.Given as goal

abbrev pub invariant-loop-i : goal.invariant-loop-i
invariant-loop-i l = l.whole ≡ rule.product_range l.i l.types
