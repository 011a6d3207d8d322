use Rattle.std.proofs.Common.{◌≡◌, refl, sym, ◌∙◌, ap, subst, ◌<◌, Ok, arith}
use Rattle.c_grammar.specs.Parsing.{next, opener_of}
use Rattle.c_expressions.specs.Gives.{Gives}
use Rattle.c_expressions.specs.Operands.{operand_of}
use Rattle.c_expressions.proofs.Levels.{operand-some}
use Rattle.c_grammar.specs.WrittenTrees.{expr_of}
use Rattle.c_expressions.proofs.Lists.{more-is, going-pushed}
use Rattle.c_expressions.proofs.reader.Reader.+expressions.Goals as goal

pub later_values-loop-values-smaller : goal.later_values-loop-values-smaller
later_values-loop-values-smaller t c =
    (c.lists_continue.ensures.values c.args.self.last c.args.levels).fewer 0 c.loop-values.rest
    (expr_of c.in-Some.value) c.in_ok-value.later
    (more-is expr_of c.in_ok-value.value c.in-Some.value c.in_ok-value.later _ c.in_ok-value.ensures c.in-Some.is)

pub later_values-loop-values-preserved : goal.later_values-loop-values-preserved
later_values-loop-values-preserved t c =
    going-pushed expr_of c.loop-values.values.items c.push.new.self.items c.in-Some.value 0 0 0 c.in_ok-value.later
    (c.lists_continue.ensures.values c.args.self.last c.args.levels) c.loop-values.invariant c.in_ok-push.ensures.items
    refl refl
    (more-is expr_of c.in_ok-value.value c.in-Some.value c.in_ok-value.later _ c.in_ok-value.ensures c.in-Some.is)

pub operand-returns : goal.operand-returns
operand-returns t c =
    let some : 0 < c.args.levels = omega arith in
    let first : next c.args.self.last c.args.tokens.now ≡ Ok (c.in_ok-token.token, c.in_ok-token.rest) = sym c.in_ok-token.ensures in
    let text : c.token.inside.text.now ≡ c.in_ok-token.token.text = cc in
    let opens : c.opener_of-opener.result ≡ opener_of c.args.want c.in_ok-token.token.text =
    c.opener_of-opener.ensures ∙ ap (opener_of c.args.want) text in
    subst (Gives operand_of c.opened.result)
    (sym (operand-some c.args.self.last c.args.levels c.args.want c.args.tokens.now c.in_ok-token.token
    c.in_ok-token.rest c.opener_of-opener.result some first opens)) c.opened.ensures
