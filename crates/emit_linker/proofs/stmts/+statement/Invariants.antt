use Rattle.std.proofs.Common.{◌≡◌, map, take}
use Rattle.c_syntax.specs.Plain.{stmt_tree}
use Rattle.emit_shape.specs.Relocation.{moved_stmt}
use Rattle.emit_linker.specs.Linked.{relocation}
use Rattle.emit_linker.proofs.stmts.+statement.Given as goal

abbrev pub invariant-moved_stmts-loop-s : goal.invariant-moved_stmts-loop-s
invariant-moved_stmts-loop-s l = map stmt_tree l.list.items ≡ map (λ s. moved_stmt (relocation l.links) (stmt_tree s)) (take l.s-index l.ss)
