-- Tests over places.
use Rattle.std.specs.Prelude.{Option, Some, None}
use Rattle.lustre_syntax.specs.declared.LusOp.TheVariants.{And}
use Rattle.lustre_syntax.specs.Tree.{ExprTree, two}

-- a test and a further one, where there is one
abbrev pub also_tree : ExprTree → Option ExprTree → ExprTree
also_tree first None = first
also_tree first (Some second) = two And first second
