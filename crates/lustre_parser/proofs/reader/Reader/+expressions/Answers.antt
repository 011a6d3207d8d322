use Rattle.std.proofs.Common.{◌≡◌, sym, subst, ◌<◌, Ok, arith}
use Rattle.c_grammar.specs.Parsing.{next}
use Rattle.c_expressions.specs.Gives.{Gives}
use Rattle.lustre_grammar.specs.WrittenTrees.{expr_of}
use Rattle.lustre_parser.proofs.Levels.{expr-some}
use Rattle.lustre_parser.proofs.reader.Reader.+expressions.Goals as goal

pub expression-returns : goal.expression-returns
expression-returns t c =
    let some : 0 < c.args.levels = omega arith in
    let first : next c.args.self.last c.args.tokens.now ≡ Ok (c.in_ok-token.token, c.in_ok-token.rest) = sym c.in_ok-token.ensures in
    subst (Gives expr_of c.opened.result)
    (sym (expr-some c.args.self.last c.args.levels c.args.tokens.now c.in_ok-token.token c.in_ok-token.rest some first))
    c.opened.ensures
