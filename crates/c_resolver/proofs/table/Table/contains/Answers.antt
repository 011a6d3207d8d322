use Rattle.std.proofs.Common.{◌∙◌, ap}
use Rattle.c_syntax.specs.Outputs.{has_name}
use Rattle.c_resolver.proofs.table.Table.contains.Goals as goal

pub returns : goal.returns
returns g c = c.contains.ensures ∙ ap (λ names. has_name names c.args.name.now) c.args.self.now.named
