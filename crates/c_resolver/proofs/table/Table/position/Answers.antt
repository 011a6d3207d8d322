use Rattle.std.proofs.Common.{◌∙◌}
use Rattle.c_rules.proofs.lemmas.NamedPlaces.{place-itself}
use Rattle.c_resolver.proofs.table.Table.position.Goals as goal

pub returns : goal.returns
returns g c =
    let t = c.args.self.now in
    c.position.ensures ∙ place-itself g.T.Named.name 0 t.items.items t.names c.args.name.now t.named
