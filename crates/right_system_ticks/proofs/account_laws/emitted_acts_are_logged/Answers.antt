use Rattle.right_system_ticks.proofs.OwnLogs as proof
use Rattle.right_system_ticks.proofs.account_laws.emitted_acts_are_logged.Goals as goal

pub returns : goal.returns
returns c = proof.emitted_acts_are_logged
