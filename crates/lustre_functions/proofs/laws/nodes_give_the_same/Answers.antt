use Rattle.lustre_functions.proofs.Functions.{nodes_give_the_same}
use Rattle.lustre_functions.proofs.laws.nodes_give_the_same.Goals as goal

pub returns : goal.returns
returns c = nodes_give_the_same
