use Rattle.right_linking.proofs.RootPlaces.{root_stands_last}
use Rattle.right_linking.proofs.laws.root_has_places.Goals as goal

pub returns : goal.returns
returns c a = root_stands_last a (c.codes_have_views.ensures a)
