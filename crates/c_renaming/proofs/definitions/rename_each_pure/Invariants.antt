use Rattle.std.proofs.Common.{◌≡◌, map}
use Rattle.c_syntax.specs.Plain.{pure_tree}
use Rattle.c_renaming.specs.Renamed.{renamed_pure}
use Rattle.c_renaming.specs.Partly.{partly_mapped}
use Rattle.c_renaming.proofs.definitions.rename_each_pure.Given as goal

abbrev pub invariant-loop-f : goal.invariant-loop-f
invariant-loop-f g l =
    map pure_tree l.pures
    ≡ partly_mapped (renamed_pure (g.R.Renaming.leaf_of l.by) (g.R.Renaming.function_of l.by) (g.R.Renaming.procedure_of l.by))
    l.f-index (map pure_tree l.fn.pures)
