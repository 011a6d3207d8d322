use Rattle.right_system_shape.proofs.OutputPlaces as proof
use Rattle.right_system_shape.proofs.laws.outputs_have_places.Goals as goal

pub returns : goal.returns
returns c = proof.outputs_have_places c.locals_are_lawful.ensures
