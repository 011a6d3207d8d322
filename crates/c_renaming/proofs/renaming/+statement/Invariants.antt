use Rattle.std.proofs.Common.{◌≡◌, map}
use Rattle.c_syntax.specs.Plain.{stmt_tree}
use Rattle.c_renaming.specs.Renamed.{renamed_stmt}
use Rattle.c_renaming.specs.Partly.{partly_mapped}
use Rattle.c_renaming.proofs.renaming.+statement.Given as goal

abbrev pub invariant-rename_stmts-loop-s : goal.invariant-rename_stmts-loop-s
invariant-rename_stmts-loop-s g l =
    goal.unvisited-rename_stmts-loop-s g l
    × (map stmt_tree l.ss
    ≡ partly_mapped (renamed_stmt (g.R.Renaming.leaf_of l.by) (g.R.Renaming.function_of l.by) (g.R.Renaming.procedure_of l.by))
    l.s-index (map stmt_tree l.fn.ss))
