use Rattle.std.proofs.Common.{sym, ◌∙◌, ap}
use Rattle.c_rules.specs.Resolve.{resolve_pure_call}
use Rattle.c_resolver.specs.Scopes.{known_of}
use Rattle.c_resolver.proofs.Rows.{count_of_exprs}
use Rattle.c_resolver.proofs.exprs.resolve_callee.Goals as goal

pub returns : goal.returns
returns c = c.resolve_pure_call.ensures ∙ ap (λ n. resolve_pure_call (known_of c.args.known.now) c.args.name.now n)
    (sym (count_of_exprs c.args.values.now))
