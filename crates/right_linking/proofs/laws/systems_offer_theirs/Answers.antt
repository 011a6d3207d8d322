use Rattle.right_linking.proofs.SystemOffers.{systems_offer_theirs}
use Rattle.right_linking.proofs.laws.systems_offer_theirs.Goals as goal

pub returns : goal.returns
returns c =
    systems_offer_theirs c.locals_are_lawful.ensures c.systems_have_places.ensures c.fields_have_places.ensures
    c.procedures_follow.ensures
