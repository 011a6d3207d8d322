use Rattle.std.proofs.Common.{None}
use Rattle.std.specs.Option.{option_map}
use Rattle.c_syntax.specs.Plain.{cond_tree}
use Rattle.lustre_syntax.specs.Plain.{expr_tree}
use Rattle.lustre_system_nodes.proofs.StateLaws.{active-is}
use Rattle.lustre_system_nodes.proofs.controls.active_value.Goals as goal

pub returns : goal.returns
returns c d s are =
    active-is c.args.names.now d s are c.in_ok-control_leaves.field-0 (option_map cond_tree c.in_ok-test.test)
    (option_map expr_tree c.in_ok-test-2.test) c.place.result (expr_tree c.in_ok-also.field-0)
    (c.in_ok-control_leaves.ensures d.rows s None are) c.in_ok-test.ensures (c.in_ok-test-2.ensures d s are) c.place.ensures
    c.in_ok-also.ensures
