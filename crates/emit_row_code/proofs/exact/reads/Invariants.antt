use Rattle.std.proofs.Common.{◌≡◌, map, take}
use Rattle.c_syntax.specs.Plain.{expr_tree}
use Rattle.c_syntax.specs.Tree as tree
use Rattle.emit_row_code.proofs.exact.reads.Given as goal

abbrev pub invariant-loop-leaf : goal.invariant-loop-leaf
invariant-loop-leaf l = map expr_tree l.reads.items ≡ map tree.read (take l.leaf-index l.leaves)
