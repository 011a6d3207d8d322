use Rattle.c_syntax.specs.Plain.{pure_tree}
use Rattle.c_syntax.specs.Tree.{PureTree}
use Rattle.c_rules.proofs.lemmas.NamedPlaces.{found-view}
use Rattle.c_resolver.proofs.known.Known.pure.Goals as goal

pub returns : goal.returns
returns c = found-view pure_tree (λ (p : PureTree). p.name) c.args.self.now.pures.items.items c.args.name.now c.find.result c.find.ensures
