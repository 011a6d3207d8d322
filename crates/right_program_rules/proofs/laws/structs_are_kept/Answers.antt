use Rattle.right_program_rules.proofs.RootStruct.{root-struct-lawful}
use Rattle.right_program_rules.proofs.Structs.{structs-lawful, struct-names-differ}
use Rattle.right_program_rules.proofs.laws.structs_are_kept.Goals as goal

pub returns : goal.returns
returns c a = let v = c.codes_have_views.ensures a in (structs-lawful a v (root-struct-lawful a v), struct-names-differ a v)
