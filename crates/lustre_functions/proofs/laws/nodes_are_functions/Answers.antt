use Rattle.lustre_functions.proofs.Functions.{nodes_are_functions}
use Rattle.lustre_functions.proofs.laws.nodes_are_functions.Goals as goal

pub returns : goal.returns
returns c = nodes_are_functions
