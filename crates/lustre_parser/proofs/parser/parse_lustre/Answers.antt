use Rattle.std.proofs.Common.{subst}
use Rattle.c_rules.specs.Gives.{Gives}
use Rattle.lustre_grammar.specs.Parsing.{parse_file}
use Rattle.lustre_grammar.specs.WrittenTrees.{file_of}
use Rattle.lustre_parser.proofs.parser.parse_lustre.Goals as goal

pub returns : goal.returns
returns c =
    subst (Gives file_of c.file.result) (λ i. parse_file (c.last_line-last.ensures i) (c.new.ensures i)) c.file.ensures
