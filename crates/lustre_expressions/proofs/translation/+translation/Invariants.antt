use Rattle.std.proofs.Common.{map, drop}
use Rattle.c_syntax.specs.Plain.{expr_tree}
use Rattle.c_syntax.specs.Tree.{exprs_of_list}
use Rattle.lustre_syntax.specs.Plain as lustre
use Rattle.lustre_expressions.proofs.Walks.{Walked}
use Rattle.lustre_expressions.proofs.translation.+translation.Given as goal

abbrev pub invariant-values_from-loop-e : goal.invariant-values_from-loop-e
invariant-values_from-loop-e g l =
    Walked (g.N.Naming.naming l.names) l.fn.calls.count (exprs_of_list (map expr_tree l.es))
    (map lustre.equation_tree l.fn.calls.equations.items) (map lustre.expr_tree l.list.items)
    (map lustre.equation_tree l.calls.equations.items) l.calls.count (exprs_of_list (map expr_tree (drop l.e-index l.es)))
