use Rattle.std.proofs.Common.{◌≡◌, map, take, Ok}
use Rattle.c_syntax.specs.Plain.{expr_tree}
use Rattle.c_rules.specs.Resolve.{resolve_expr}
use Rattle.c_grammar.specs.WrittenTrees.{expr_of}
use Rattle.c_resolver.specs.Scopes.{names_of}
use Rattle.c_rules.proofs.lemmas.Each.{each}
use Rattle.c_resolver.proofs.calls.resolve_arguments.Given as goal

abbrev pub invariant-loop-value : goal.invariant-loop-value
invariant-loop-value l = each (λ a. resolve_expr (names_of l.scope) (expr_of a.value)) (take l.value-index l.values)
    ≡ Ok (map expr_tree l.resolved.items)
