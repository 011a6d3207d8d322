use Rattle.right_linking.proofs.RootTraces.{traces_follow}
use Rattle.right_linking.proofs.laws.traces_follow.Goals as goal

pub returns : goal.returns
returns c = traces_follow
