use Rattle.diagram_types.proofs.lemmas.Accepted.{rules-refused}
use Rattle.diagram_types.proofs.infer.infer.Goals as goal

pub returns-in-Some-clause-refused : goal.returns-in-Some-clause-refused
returns-in-Some-clause-refused c = rules-refused c.args.rows.now c.in-Some.refused c.in-Some.ensures
