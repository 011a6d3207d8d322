use Rattle.right_program_rules.proofs.FunctionNames.{functions-differ}
use Rattle.right_program_rules.proofs.laws.names_are_kept.Goals as goal

pub returns : goal.returns
returns c a = functions-differ a (c.codes_have_views.ensures a)
