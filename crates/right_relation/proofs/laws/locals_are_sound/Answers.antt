use Rattle.right_relation.proofs.lemmas.SoundSystems as proof
use Rattle.right_relation.proofs.laws.locals_are_sound.Goals as goal

pub returns : goal.returns
returns c = proof.locals_are_sound c.locals_are_lawful.ensures
