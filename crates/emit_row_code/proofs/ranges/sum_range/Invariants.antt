use Rattle.std.proofs.Common.{◌≡◌, drop, pos}
use Rattle.emit_row_code.specs.Ranges as rule
use Rattle.emit_row_code.proofs.ranges.sum_range.Given as goal

abbrev pub invariant-loop-i : goal.invariant-loop-i
invariant-loop-i l =
    rule.sum_range l.minus l.common l.i (drop l.i l.fracs) l.types l.total
    ≡ rule.sum_range l.minus l.common 0 l.fracs l.types (rule.just (pos 0))
