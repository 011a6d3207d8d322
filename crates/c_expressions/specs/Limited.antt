-- Limits of the source.
use Rattle.c_grammar.specs.Parsing.{Limits}
use Rattle.c_expressions.specs.declared.reader.Limits.{Limits as Kept}

-- the limits on depths and numbers
abbrev pub limits_of : Kept → Limits
limits_of l = record { exprs = l.exprs; stmts = l.stmts; pures = l.pures; params = l.params }
