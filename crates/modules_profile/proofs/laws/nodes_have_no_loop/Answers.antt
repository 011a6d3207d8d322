use Rattle.modules_profile.proofs.NodeWalks.{nodes_have_no_loop}
use Rattle.modules_profile.proofs.laws.nodes_have_no_loop.Goals as goal

pub returns : goal.returns
returns c = nodes_have_no_loop
