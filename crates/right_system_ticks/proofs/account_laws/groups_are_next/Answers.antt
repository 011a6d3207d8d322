use Rattle.right_system_ticks.proofs.GroupOrders as proof
use Rattle.right_system_ticks.proofs.account_laws.groups_are_next.Goals as goal

pub returns : goal.returns
returns c = proof.groups_are_next c.locals_are_lawful.ensures c.needed_group_is_earlier.ensures
