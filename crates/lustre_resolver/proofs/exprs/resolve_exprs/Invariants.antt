use Rattle.std.proofs.Common.{◌≡◌, map, take, Ok}
use Rattle.c_rules.proofs.lemmas.Each.{each}
use Rattle.lustre_syntax.specs.Plain.{expr_tree}
use Rattle.lustre_syntax.specs.Tree.{texts_of}
use Rattle.lustre_grammar.specs.WrittenTrees.{expr_of}
use Rattle.lustre_rules.specs.Resolve.{resolve_expr}
use Rattle.lustre_resolver.specs.Scopes.{names_of}
use Rattle.lustre_resolver.proofs.exprs.resolve_exprs.Given as goal

abbrev pub invariant-loop-e : goal.invariant-loop-e
invariant-loop-e l =
    each (λ e. resolve_expr (texts_of (names_of l.names)) (expr_of e)) (take l.e-index l.es)
    ≡ Ok (map expr_tree l.resolved.items)
