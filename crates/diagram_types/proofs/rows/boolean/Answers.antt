use Rattle.std.proofs.Common.{refl}
use Rattle.diagram_types.proofs.lemmas.SameType.{type-equal}
use Rattle.diagram_types.proofs.rows.boolean.Goals as goal

pub returns : goal.returns
returns c = type-equal _ _ refl refl refl
