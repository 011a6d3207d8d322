use Rattle.right_system_shape.proofs.PublicHeads as proof
use Rattle.right_system_shape.proofs.laws.heads_are_public.Goals as goal

pub returns : goal.returns
returns c = proof.heads_are_public
