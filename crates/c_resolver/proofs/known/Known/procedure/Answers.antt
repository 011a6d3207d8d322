use Rattle.c_syntax.specs.Plain.{procedure_tree}
use Rattle.c_syntax.specs.Tree.{ProcedureTree}
use Rattle.c_rules.proofs.lemmas.NamedPlaces.{found-view}
use Rattle.c_resolver.proofs.known.Known.procedure.Goals as goal

pub returns : goal.returns
returns c =
    found-view procedure_tree (λ (p : ProcedureTree). p.name) c.args.self.now.procedures.items.items c.args.name.now
    c.find.result c.find.ensures
