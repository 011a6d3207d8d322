use Rattle.right_program_rules.proofs.Chains as proof
use Rattle.right_program_rules.proofs.laws.chains_are_kept.Goals as goal

pub returns : goal.returns
returns c a = proof.chains-kept c.offered_stand_by_name.ensures c.systems_have_places.ensures a (c.codes_have_views.ensures a)
