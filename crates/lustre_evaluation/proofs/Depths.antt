-- How deep expressions are.
use Rattle.std.proofs.Common.{ℕ}
use Rattle.lustre_syntax.specs.declared.code.LusExpr.{LusExpr}
use Rattle.lustre_syntax.specs.Lawful.{expr_depth}
use Rattle.lustre_syntax.specs.Plain.{expr_tree}

abbrev pub depth : LusExpr → ℕ
depth e = expr_depth (expr_tree e)
