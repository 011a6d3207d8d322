-- A uniform program is uniform when its tests are fused.
use Rattle.std.specs.Prelude.{ℕ}
use Rattle.std.proofs.Common.{sym, subst}
use Rattle.c_syntax.specs.Tree.{ProgramTree}
use Rattle.c_syntax.specs.Lawful.{without_lines}
use Rattle.emit_fused.specs.Fused.{fused_stmts, fused}
use Rattle.emit_fused.specs.Laws.{FusingMindsNoLines}
use Rattle.emit_uniform.specs.Turned.{Turn}
use Rattle.emit_uniform.specs.Uniform.{AreTurned, turn_of}
use Rattle.right_uniform.specs.Laws.{FusedIsUniform}
use Rattle.right_uniform.proofs.Lines.{lines-once}
use Rattle.right_uniform.proofs.TurnedBodies.{bodies-turned, lines-turned}
use Rattle.right_uniform.proofs.FusedTurned.{stmts-turned}

fused-turned : (p : ProgramTree) (t : Turn) (e f : ℕ) → AreTurned p t e f → AreTurned (fused p) t e f
fused-turned p t e f h = bodies-turned fused_stmts (λ number ss. sym (stmts-turned number ss)) p.pures p t e f h

pub fused_is_uniform : FusingMindsNoLines → FusedIsUniform
fused_is_uniform aside p d uniform e f is_e is_f same =
    let t = turn_of d.rows e f in
    subst (λ q. AreTurned q t e f) (sym (aside p (without_lines p) (lines-once p)))
    (lines-turned (fused (without_lines p)) t e f (fused-turned (without_lines p) t e f (uniform e f is_e is_f same)))
