use Rattle.std.proofs.Common.{◌≡◌, true, take, length}
use Rattle.emit_fused.specs.Same.{same_exprs}
use Rattle.emit_fused.proofs.Rows.{row}
use Rattle.emit_fused.proofs.sameness.+expression.Given as goal

abbrev pub invariant-same_exprs-loop-position : goal.invariant-same_exprs-loop-position
invariant-same_exprs-loop-position l = record {
  long : length l.xs ≡ length l.ys;
  before : same_exprs (row (take l.position l.xs)) (row (take l.position l.ys)) ≡ true;
}
