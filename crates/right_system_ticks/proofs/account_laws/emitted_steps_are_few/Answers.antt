use Rattle.right_system_ticks.proofs.StepBudgets as proof
use Rattle.right_system_ticks.proofs.account_laws.emitted_steps_are_few.Goals as goal

pub returns : goal.returns
returns c = proof.emitted_steps_are_few c.locals_are_lawful.ensures c.header_is_of_own_rows.ensures c.groups_stand_first.ensures
