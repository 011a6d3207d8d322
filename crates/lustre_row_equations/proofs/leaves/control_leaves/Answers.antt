use Rattle.lustre_row_equations.proofs.SystemNames.{control_leaves_are}
use Rattle.lustre_row_equations.proofs.leaves.control_leaves.Goals as goal

pub returns : goal.returns
returns c rows s b is =
    control_leaves_are c.args.names.now rows s b is c.in_ok-count.count c.enable_place.result c.trigger_place.result
    c.in_ok-count.ensures c.enable_place.ensures c.trigger_place.ensures
