use Rattle.right_any_system.proofs.EmittedSystems as proof
use Rattle.right_any_system.proofs.each_system_is_emitted.Goals as goal

pub returns : goal.returns
returns c = proof.each_system_is_emitted c.locals_are_lawful.ensures c.nodes_have_no_loop.ensures
