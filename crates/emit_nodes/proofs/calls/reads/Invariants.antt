use Rattle.std.proofs.Common.{◌≡◌, map, take}
use Rattle.c_syntax.specs.Tree.{read}
use Rattle.c_syntax.specs.Plain.{expr_tree}
use Rattle.emit_nodes.proofs.calls.reads.Given as goal

abbrev pub invariant-loop-leaf : goal.invariant-loop-leaf
invariant-loop-leaf l = map expr_tree l.reads.items ≡ map read (take l.leaf-index l.leaves)
