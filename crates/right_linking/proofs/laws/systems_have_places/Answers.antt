use Rattle.right_linking.proofs.SystemPlaces.{systems_have_places}
use Rattle.right_linking.proofs.laws.systems_have_places.Goals as goal

pub returns : goal.returns
returns c = systems_have_places
