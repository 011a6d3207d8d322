use Rattle.std.proofs.Common.{subst}
use Rattle.c_expressions.specs.Gives.{Gives}
use Rattle.c_expressions.specs.Limited.{limits_of}
use Rattle.c_grammar.specs.WrittenTrees.{procedure_of}
use Rattle.c_parser.proofs.PartsLaws.{procedure_parts-is}
use Rattle.c_parser.proofs.definitions.procedure_behind.Goals as goal

pub returns : goal.returns
returns c =
    subst (Gives procedure_of c.procedure_of_parts.result)
    (procedure_parts-is c.args.reader.last (limits_of c.args.reader.limits) c.args.line c.args.private c.args.tokens.now)
    c.procedure_of_parts.ensures
