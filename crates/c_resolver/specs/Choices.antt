-- The second block of a choice.
use Rattle.std.specs.Prelude.{Bool, true, false, Result, Ok}
use Rattle.c_syntax.specs.declared.fault.CFault.{CFault}
use Rattle.c_syntax.specs.Tree.{StmtTrees}
use Rattle.c_grammar.specs.Written.{WrittenStmts}
use Rattle.c_rules.specs.Resolve.{Names, resolve_stmts}

-- what a second block stands for; one that isn't written has no statements
abbrev pub resolve_second : Names → (has_else : Bool) → WrittenStmts → Result StmtTrees CFault
resolve_second names true ss = resolve_stmts names ss
resolve_second names false ss = Ok StmtTrees.no_stmts
