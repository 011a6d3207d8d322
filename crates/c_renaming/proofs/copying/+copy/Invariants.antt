use Rattle.std.proofs.Common.{◌≡◌, map, take}
use Rattle.c_syntax.specs.Plain.{expr_tree}
use Rattle.c_renaming.proofs.copying.+copy.Given as goal

abbrev pub invariant-copied_exprs-loop-e : goal.invariant-copied_exprs-loop-e
invariant-copied_exprs-loop-e l = map expr_tree l.list.items ≡ map expr_tree (take l.e-index l.es)
