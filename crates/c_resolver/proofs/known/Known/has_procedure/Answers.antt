use Rattle.std.proofs.Common.{sym, ◌∙◌, ap}
use Rattle.c_syntax.specs.Tree.{ProcedureTree}
use Rattle.c_syntax.specs.Plain.{procedure_tree}
use Rattle.c_syntax.specs.Outputs.{has_name}
use Rattle.c_rules.proofs.lemmas.NamedPlaces.{map-map}
use Rattle.c_resolver.proofs.known.Known.has_procedure.Goals as goal

pub returns : goal.returns
returns c =
    c.contains.ensures
    ∙ ap (λ names. has_name names c.args.name.now)
    (sym (map-map (λ (p : ProcedureTree). p.name) procedure_tree c.args.self.now.procedures.items.items))
