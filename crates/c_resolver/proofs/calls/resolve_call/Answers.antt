use Rattle.std.proofs.Common.{sym, ◌∙◌, ap}
use Rattle.c_rules.specs.Resolve.{resolve_call}
use Rattle.c_grammar.specs.WrittenTrees.{target_of}
use Rattle.c_resolver.specs.Scopes.{names_of}
use Rattle.c_resolver.proofs.Rows.{casts_of_arguments}
use Rattle.c_resolver.proofs.calls.resolve_call.Goals as goal

pub returns : goal.returns
returns c =
    c.resolve_callee.ensures
    ∙ ap (λ casts. resolve_call (names_of c.args.scope.now) c.args.name.now (target_of c.args.target) casts)
    (sym (casts_of_arguments c.args.values.now))
