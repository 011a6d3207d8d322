use Rattle.std.proofs.Common.{◌≡◌, ◌∙◌, ap, ◌||◌, ◌++◌, ◌∷◌, [], bytes_eq}
use Rattle.c_grammar.specs.Tokens.{header_line, has_header}
use Rattle.c_expressions.specs.Limited.{limits_of}
use Rattle.c_parser.proofs.WholeText.{text-gives}
use Rattle.c_parser.proofs.parser.parse_c.Goals as goal

pub returns : goal.returns
returns c =
    let is : c.is_header.result ≡ has_header c.args.bytes.now =
    c.is_header.ensures
    ∙ ap (λ h. bytes_eq h header_line || bytes_eq h (header_line ++ 13 ∷ [])) c.split_line.ensures.before in
    text-gives c.args.bytes.now c.split_line.result.1.now c.new-tokens.result c.last_line-last.result
    (limits_of c.the_limits-limits.result) c.is_header.result c.file.result is c.if-not-is_header.false
    c.last_line-last.ensures c.the_limits-limits.ensures c.new-tokens.ensures c.split_line.ensures.behind
    c.file.ensures
