use Rattle.std.proofs.Common.{ap}
use Rattle.c_grammar.specs.Written as written
use Rattle.c_expressions.proofs.Rows.{exprs-of_vec}
use Rattle.c_expressions.proofs.build.call_of_pure.Goals as goal

pub returns : goal.returns
returns c = ap (written.pure c.args.line c.args.function.now) (exprs-of_vec c.args.values)
