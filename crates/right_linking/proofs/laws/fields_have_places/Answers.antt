use Rattle.right_linking.proofs.FieldPlaces.{fields_have_places}
use Rattle.right_linking.proofs.laws.fields_have_places.Goals as goal

pub returns : goal.returns
returns c = fields_have_places c.systems_have_places.ensures
