use Rattle.right_linking.proofs.Derivations.{code_follows}
use Rattle.right_linking.proofs.laws.code_follows.Goals as goal

pub returns : goal.returns
returns c = code_follows
