use Rattle.std.proofs.Common.{◌≡◌, ◌+◌, map, drop}
use Rattle.c_syntax.specs.Plain.{expr_tree}
use Rattle.c_syntax.specs.Tree.{exprs_of_list}
use Rattle.lustre_system.specs.FromC as from_c
use Rattle.lustre_system_nodes.proofs.call_count.+call_count.Given as goal

abbrev pub invariant-call_counts-loop-e : goal.invariant-call_counts-loop-e
invariant-call_counts-loop-e l =
    l.count + from_c.call_counts (exprs_of_list (map expr_tree (drop l.e-index l.es)))
    ≡ from_c.call_counts (exprs_of_list (map expr_tree l.es))
