use Rattle.std.proofs.Common.{refl, sym, ◌∙◌, length, arith}
use Rattle.std.proofs.lemmas.Option.{slice_get_read}
use Rattle.c_rules.proofs.lemmas.NamedPlaces.{position-within}
use Rattle.c_resolver.proofs.table.Table.find.Goals as goal

pub index-requires : goal.index-requires
index-requires g c =
    let t = c.args.self.now in
    omega (
      arith,
      position-within g.T.Named.name t.items.items c.args.name.now c.in-Some.k (sym c.position.ensures
          ∙ c.in-Some.is),
      t.items.ok.0,
    )

pub returns-in-Some : goal.returns-in-Some
returns-in-Some g c =
    let items = c.args.self.now.items.items in
    let there = sym c.position.ensures ∙ c.in-Some.is in (
      there,
      slice_get_read items (length items) c.in-Some.k c.index.result.now refl
          (position-within g.T.Named.name items c.args.name.now c.in-Some.k there) c.index.ensures,
    )
