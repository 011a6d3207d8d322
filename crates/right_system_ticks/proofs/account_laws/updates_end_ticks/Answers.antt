use Rattle.right_system_ticks.proofs.GroupOrders as proof
use Rattle.right_system_ticks.proofs.account_laws.updates_end_ticks.Goals as goal

pub returns : goal.returns
returns c = proof.updates_end_ticks c.locals_are_lawful.ensures c.header_is_of_own_rows.ensures
