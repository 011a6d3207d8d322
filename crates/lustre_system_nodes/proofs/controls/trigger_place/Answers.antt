use Rattle.std.proofs.Common.{None, ap, ◌∙◌}
use Rattle.emit_row_code.specs.declared.leaves.ControlLeaves.{ControlLeaves}
use Rattle.lustre_system_nodes.proofs.StateLaws.{trigger-placed}
use Rattle.lustre_system_nodes.proofs.controls.trigger_place.Goals as goal

pub returns : goal.returns
returns c d s are =
    c.in_ok-leaf_place.ensures
    ∙ trigger-placed c.args.names.now d s are c.in_ok-leaves.leaves.trigger c.requires
    (ap (λ (l : ControlLeaves). l.trigger) (c.in_ok-leaves.ensures d.rows s None are))
