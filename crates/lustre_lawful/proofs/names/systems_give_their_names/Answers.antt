use Rattle.lustre_lawful.proofs.SystemNames.{systems_give_their_names}
use Rattle.lustre_lawful.proofs.names.systems_give_their_names.Goals as goal

pub returns : goal.returns
returns c = systems_give_their_names
