use Rattle.std.proofs.Common.{map}
use Rattle.c_syntax.specs.Plain.{pure_tree, procedure_tree}
use Rattle.tool_prelude_text.proofs.LeastLaws.{parts-lawful}
use Rattle.tool_prelude_text.proofs.least.program.Goals as goal

pub returns-clause-lawful : goal.returns-clause-lawful
returns-clause-lawful c =
    parts-lawful (map pure_tree c.in_ok-prelude.field-0.items) c.in_ok-one.field-0.items c.in_ok-root.field-0
    (map procedure_tree c.in_ok-procedures.field-0.items) c.in_ok-prelude.ensures.rules c.in_ok-one.ensures
    c.in_ok-root.ensures c.in_ok-procedures.ensures
