use Rattle.std.proofs.Common.{◌≡◌, map, take, Ok}
use Rattle.c_syntax.specs.Plain.{expr_tree}
use Rattle.c_rules.specs.Resolve.{resolve_expr}
use Rattle.c_grammar.specs.WrittenTrees.{expr_of}
use Rattle.c_resolver.specs.Scopes.{names_of}
use Rattle.c_rules.proofs.lemmas.Each.{each}
use Rattle.c_resolver.proofs.exprs.+expression.Given as goal

abbrev pub invariant-resolve_exprs-loop-e : goal.invariant-resolve_exprs-loop-e
invariant-resolve_exprs-loop-e l =
    each (λ e. resolve_expr (names_of l.scope) (expr_of e)) (take l.e-index l.es) ≡ Ok (map expr_tree l.resolved.items)
