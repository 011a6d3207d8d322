use Rattle.std.proofs.Common.{◌≡◌, map}
use Rattle.c_syntax.specs.Plain.{procedure_tree}
use Rattle.c_renaming.specs.Renamed.{renamed_procedure}
use Rattle.c_renaming.specs.Partly.{partly_mapped}
use Rattle.c_renaming.proofs.definitions.rename_each_procedure.Given as goal

abbrev pub invariant-loop-q : goal.invariant-loop-q
invariant-loop-q g l =
    map procedure_tree l.procedures
    ≡ partly_mapped (renamed_procedure (g.R.Renaming.leaf_of l.by) (g.R.Renaming.function_of l.by) (g.R.Renaming.procedure_of l.by))
    l.q-index (map procedure_tree l.fn.procedures)
