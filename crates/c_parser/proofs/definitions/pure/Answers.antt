use Rattle.std.proofs.Common.{subst}
use Rattle.c_expressions.specs.Gives.{Gives}
use Rattle.c_expressions.specs.Limited.{limits_of}
use Rattle.c_grammar.specs.WrittenTrees.{pure_of}
use Rattle.c_parser.proofs.PartsLaws.{pure_parts-is}
use Rattle.c_parser.proofs.definitions.pure.Goals as goal

pub returns : goal.returns
returns c =
    subst (Gives pure_of c.pure_of_parts.result)
    (pure_parts-is c.args.reader.last (limits_of c.args.reader.limits) c.args.token.now c.args.tokens.now)
    c.pure_of_parts.ensures
