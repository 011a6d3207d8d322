use Rattle.std.proofs.Common.{◌≡◌, true, take}
use Rattle.emit_fused.proofs.Rows.{keeps_all}
use Rattle.emit_fused.proofs.keeping.+statement.Given as goal

abbrev pub invariant-stmts_keep-loop-s : goal.invariant-stmts_keep-loop-s
invariant-stmts_keep-loop-s l = keeps_all l.fields (take l.s-index l.ss) ≡ true
