use Rattle.std.proofs.Common.{◌≡◌, drop}
use Rattle.emit_fused.specs.Fused.{fused_stmts}
use Rattle.emit_fused.specs.Turned.{standing, turned}
use Rattle.emit_fused.proofs.fusing.+statement.Given as goal

abbrev pub invariant-fused_stmts-loop-position : goal.invariant-fused_stmts-loop-position
invariant-fused_stmts-loop-position l = turned l.list.items ≡ fused_stmts (standing (drop l.position l.ss))
