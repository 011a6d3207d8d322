use Rattle.std.proofs.Common.{◌∙◌, ap, sym, rules}
use Rattle.base_refusals.specs.FirstRefusal.{as_plain}
use Rattle.diagram_types.proofs.lemmas.Accepted.{types-accepted, widths-refused}
use Rattle.diagram_types.proofs.infer.narrow_types.Goals as goal

pub returns-in-Some-clause-refused : goal.returns-in-Some-clause-refused
returns-in-Some-clause-refused c =
    widths-refused c.args.rows.now c.in_ok-types.types.items c.in-Some.refused c.in_ok-types.ensures c.requires.accepted
    (ap as_plain (sym c.in-Some.is) ∙ search rules)

pub returns-in-None-clause-types : goal.returns-in-None-clause-types
returns-in-None-clause-types c =
    types-accepted c.args.rows.now c.in_ok-types.types.items c.in_ok-refused.field-0 c.in_ok-types.ensures
    c.requires.accepted c.in-None.is (search rules)
