use Rattle.right_system_ticks.proofs.EmittedAdds as proof
use Rattle.right_system_ticks.proofs.account_laws.emitted_acts_add.Goals as goal

pub returns : goal.returns
returns c =
    proof.emitted_acts_add c.fields_have_places.ensures c.locals_are_lawful.ensures c.groups_stand_first.ensures
    c.updates_end_ticks.ensures
