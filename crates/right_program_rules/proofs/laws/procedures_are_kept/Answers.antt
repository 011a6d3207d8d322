use Rattle.right_program_rules.proofs.RootProcedures.{procedures-lawful}
use Rattle.right_program_rules.proofs.laws.procedures_are_kept.Goals as goal

pub returns : goal.returns
returns c a =
    procedures-lawful c.systems_have_places.ensures c.resolved_cycles_are_short.ensures a (c.codes_have_views.ensures a)
    c.offered_stand_by_name.ensures
