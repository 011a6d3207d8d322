use Rattle.right_linking.proofs.ProcedurePlaces.{offers_are_of_headers}
use Rattle.right_linking.proofs.laws.offers_are_of_headers.Goals as goal

pub returns : goal.returns
returns c = offers_are_of_headers c.procedures_stand_in_order.ensures c.systems_have_places.ensures
