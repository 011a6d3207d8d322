use Rattle.std.proofs.Common.{◌≡◌, map, take}
use Rattle.c_syntax.specs.Plain.{stmt_tree}
use Rattle.c_renaming.proofs.copying.+statement.Given as goal

abbrev pub invariant-copied_stmts-loop-s : goal.invariant-copied_stmts-loop-s
invariant-copied_stmts-loop-s l = map stmt_tree l.list.items ≡ map stmt_tree (take l.s-index l.ss)
