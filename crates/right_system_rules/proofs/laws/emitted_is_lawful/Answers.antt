use Rattle.right_system_rules.proofs.Alone as proof
use Rattle.right_system_rules.proofs.laws.emitted_is_lawful.Goals as goal

pub returns : goal.returns
returns c =
    proof.emitted_is_lawful c.structs_are_lawful.ensures c.procedures_differ.ensures c.procedures_are_lawful.ensures
    c.procedures_fit.ensures c.calls_stay_within.ensures
