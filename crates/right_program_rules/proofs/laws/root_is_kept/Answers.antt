use Rattle.right_program_rules.proofs.RootProcedures.{has_root}
use Rattle.right_program_rules.proofs.laws.root_is_kept.Goals as goal

pub returns : goal.returns
returns c a = has_root a (c.codes_have_views.ensures a)
