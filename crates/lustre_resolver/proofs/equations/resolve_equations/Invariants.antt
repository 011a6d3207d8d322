use Rattle.std.proofs.Common.{◌≡◌, [], map, drop}
use Rattle.lustre_syntax.specs.Plain.{equation_tree}
use Rattle.lustre_grammar.specs.WrittenTrees.{equation_of}
use Rattle.lustre_rules.specs.Resolve.{resolve_equation, resolve_equations}
use Rattle.lustre_resolver.specs.Scopes.{scope_of}
use Rattle.lustre_resolver.proofs.EquationLaws.{equation_next}
use Rattle.lustre_resolver.proofs.Walks.{walk_after}
use Rattle.lustre_resolver.proofs.equations.resolve_equations.Given as goal

abbrev pub invariant-loop-e : goal.invariant-loop-e
invariant-loop-e l =
    resolve_equations (scope_of l.place []) (map equation_of l.equations)
    ≡ walk_after resolve_equation equation_next (map equation_tree l.resolved.items)
    (scope_of l.place l.given.places.keys) (map equation_of (drop l.e-index l.equations))
