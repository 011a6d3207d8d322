use Rattle.std.proofs.Common.{subst}
use Rattle.c_parser.specs.GivesProgram.{GivesProgram}
use Rattle.c_expressions.specs.Limited.{limits_of}
use Rattle.c_parser.proofs.PartsLaws.{file_parts-is}
use Rattle.c_parser.proofs.file.file.Goals as goal

pub returns : goal.returns
returns c =
    subst (GivesProgram c.file_of_parts.result)
    (file_parts-is c.args.reader.last (limits_of c.args.reader.limits) c.args.tokens) c.file_of_parts.ensures
