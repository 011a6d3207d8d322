use Rattle.right_linking.proofs.SystemProcedures.{procedures_follow}
use Rattle.right_linking.proofs.laws.procedures_follow.Goals as goal

pub returns : goal.returns
returns c =
    procedures_follow c.moved_code_agrees.ensures c.procedures_stand_in_order.ensures c.systems_have_places.ensures
    c.fields_have_places.ensures
