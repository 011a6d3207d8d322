use Rattle.modules_clusters.proofs.Members.{different-more}
use Rattle.modules_clusters.proofs.laws.different_grow.Goals as goal

pub returns : goal.returns
returns c = different-more
