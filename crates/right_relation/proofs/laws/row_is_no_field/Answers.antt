use Rattle.right_relation.proofs.lemmas.ExecutedFields as proof
use Rattle.right_relation.proofs.laws.row_is_no_field.Goals as goal

pub returns : goal.returns
returns c = proof.row_is_no_field
