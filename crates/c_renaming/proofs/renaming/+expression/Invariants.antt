use Rattle.std.proofs.Common.{◌≡◌, map}
use Rattle.c_syntax.specs.Plain.{expr_tree}
use Rattle.c_renaming.specs.Renamed.{renamed_expr}
use Rattle.c_renaming.specs.Partly.{partly_mapped}
use Rattle.c_renaming.proofs.renaming.+expression.Given as goal

abbrev pub invariant-rename_exprs-loop-e : goal.invariant-rename_exprs-loop-e
invariant-rename_exprs-loop-e g l =
    goal.unvisited-rename_exprs-loop-e g l
    × (map expr_tree l.es
    ≡ partly_mapped (renamed_expr (g.R.Renaming.leaf_of l.by) (g.R.Renaming.function_of l.by) (g.R.Renaming.procedure_of l.by))
    l.e-index (map expr_tree l.fn.es))
