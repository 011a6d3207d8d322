use Rattle.right_system_ticks.proofs.HeldNodes as proof
use Rattle.right_system_ticks.proofs.account_laws.called_groups_are_held.Goals as goal

pub returns : goal.returns
returns c = proof.called_groups_are_held c.locals_are_lawful.ensures c.header_is_of_own_rows.ensures
