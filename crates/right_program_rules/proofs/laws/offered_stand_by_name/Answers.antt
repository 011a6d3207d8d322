use Rattle.right_program_rules.proofs.Offered.{offered_stand_by_name}
use Rattle.right_program_rules.proofs.laws.offered_stand_by_name.Goals as goal

pub returns : goal.returns
returns c = offered_stand_by_name c.locals_are_lawful.ensures c.systems_have_places.ensures
