use Rattle.right_system_ticks.proofs.FirstGroups as proof
use Rattle.right_system_ticks.proofs.account_laws.groups_stand_first.Goals as goal

pub returns : goal.returns
returns c = proof.groups_stand_first
