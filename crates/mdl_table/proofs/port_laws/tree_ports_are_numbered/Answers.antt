use Rattle.mdl_table.proofs.PortProofs as proof
use Rattle.mdl_table.proofs.port_laws.tree_ports_are_numbered.Goals as goal

pub returns : goal.returns
returns c = proof.numbered c.outlines_are_numbered.ensures c.owners_are_before.ensures
