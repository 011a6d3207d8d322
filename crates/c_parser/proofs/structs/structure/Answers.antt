use Rattle.std.proofs.Common.{subst}
use Rattle.c_expressions.specs.Gives.{Gives}
use Rattle.c_expressions.specs.Limited.{limits_of}
use Rattle.c_grammar.specs.WrittenTrees.{struct_of}
use Rattle.c_parser.proofs.PartsLaws.{struct_parts-is}
use Rattle.c_parser.proofs.structs.structure.Goals as goal

pub returns : goal.returns
returns c =
    subst (Gives struct_of c.struct_of_parts.result)
    (struct_parts-is c.args.reader.last (limits_of c.args.reader.limits) c.args.token.now c.args.tokens.now)
    c.struct_of_parts.ensures
