use Rattle.mdl_table.proofs.PortControls as proof
use Rattle.mdl_table.proofs.port_laws.tree_control_ports_are_one.Goals as goal

pub returns : goal.returns
returns c = proof.controls_are_one c.outlines_are_numbered.ensures c.owners_are_before.ensures
