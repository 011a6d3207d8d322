use Rattle.right_program_rules.proofs.Limits.{limits-kept}
use Rattle.right_program_rules.proofs.laws.limits_are_kept.Goals as goal

pub returns : goal.returns
returns c a = limits-kept a (c.codes_have_views.ensures a)
