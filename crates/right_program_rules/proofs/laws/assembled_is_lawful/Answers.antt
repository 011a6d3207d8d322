use Rattle.right_program_rules.proofs.Whole.{programs_are_lawful}
use Rattle.right_program_rules.proofs.laws.assembled_is_lawful.Goals as goal

pub returns : goal.returns
returns c =
    programs_are_lawful c.structs_are_kept.ensures c.names_are_kept.ensures c.procedures_are_kept.ensures c.root_is_kept.ensures
    c.chains_are_kept.ensures c.limits_are_kept.ensures
