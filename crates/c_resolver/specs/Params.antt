-- Parameters with their lines.
use Rattle.std.specs.Prelude.{ℕ, List}
use Rattle.c_grammar.specs.declared.written.WrittenParam.{WrittenParam}
use Rattle.c_grammar.specs.declared.written.WrittenPureParam.{WrittenPureParam}

-- the line and the name of a parameter
abbrev pub line_and_name : WrittenPureParam → ℕ × List ℕ
line_and_name q = (q.line, q.name.now)

-- a parameter of a procedure, without its type
abbrev pub plain_param : WrittenParam → WrittenPureParam
plain_param q = record { line = q.line; name = q.name }
