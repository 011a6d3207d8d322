use Rattle.std.proofs.Common.{ap}
use Rattle.c_grammar.specs.WrittenTrees.{cond_of, choice_of}
use Rattle.c_statements.proofs.Rows.{stmts-of_vec}
use Rattle.c_statements.proofs.build.choice.Goals as goal

pub returns : goal.returns
returns c = λ i. choice_of c.args.line (ap cond_of c.into_inner.ensures i) (stmts-of_vec c.args.yes i) c.args.has_else
    (stmts-of_vec c.args.no i)
