use Rattle.std.proofs.Common.{◌≡◌, map, take}
use Rattle.c_syntax.specs.Plain.{cond_tree}
use Rattle.emit_row_code.specs.RowCode as code
use Rattle.emit_row_code.proofs.truth.truths.Given as goal

abbrev pub invariant-loop-leaf : goal.invariant-loop-leaf
invariant-loop-leaf l = map cond_tree l.truths.items ≡ code.truths (take l.leaf-index l.inputs)
