use Rattle.modules_profile.proofs.NodeWalks.{nodes_reach_as_rows}
use Rattle.modules_profile.proofs.laws.nodes_reach_as_rows.Goals as goal

pub returns : goal.returns
returns c = nodes_reach_as_rows
