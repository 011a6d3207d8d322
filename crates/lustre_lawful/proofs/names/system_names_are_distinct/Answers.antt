use Rattle.lustre_lawful.proofs.SystemNames.{system_names_are_distinct}
use Rattle.lustre_lawful.proofs.names.system_names_are_distinct.Goals as goal

pub returns : goal.returns
returns c = system_names_are_distinct
