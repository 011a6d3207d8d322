use Rattle.right_linking.proofs.RootRows.{runs_follow}
use Rattle.right_linking.proofs.laws.runs_follow.Goals as goal

pub returns : goal.returns
returns c = runs_follow c.one_run.ensures
