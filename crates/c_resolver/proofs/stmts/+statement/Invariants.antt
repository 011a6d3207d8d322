use Rattle.std.proofs.Common.{◌≡◌, map, take, Ok}
use Rattle.c_syntax.specs.Plain.{stmt_tree}
use Rattle.c_rules.specs.Resolve.{resolve_stmt}
use Rattle.c_grammar.specs.WrittenTrees.{stmt_of}
use Rattle.c_resolver.specs.Scopes.{names_of}
use Rattle.c_rules.proofs.lemmas.Each.{each}
use Rattle.c_resolver.proofs.stmts.+statement.Given as goal

abbrev pub invariant-resolve_stmts-loop-s : goal.invariant-resolve_stmts-loop-s
invariant-resolve_stmts-loop-s l =
    each (λ s. resolve_stmt (names_of l.scope) (stmt_of s)) (take l.s-index l.ss) ≡ Ok (map stmt_tree l.resolved.items)
