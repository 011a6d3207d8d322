use Rattle.std.proofs.Common.{sym, ◌∙◌, ap, map}
use Rattle.c_syntax.specs.Tree.{PureTree, ProcedureTree}
use Rattle.c_syntax.specs.Plain.{pure_tree, procedure_tree}
use Rattle.c_syntax.specs.Outputs.{has_name}
use Rattle.c_syntax.proofs.lemmas.NamePlaces.{or-right}
use Rattle.c_syntax.proofs.lemmas.NameFacts.{has_name-append}
use Rattle.c_rules.proofs.lemmas.NamedPlaces.{map-map}
use Rattle.c_resolver.proofs.known.Known.push_procedure.Goals as goal

pub push-requires-2-clause-new : goal.push-requires-2-clause-new
push-requires-2-clause-new c =
    let s = c.args.self.now in
    let n = c.args.name.now in
    let pures = map (λ (p : PureTree). p.name) (map pure_tree s.pures.items.items) in
    let procedures = map (λ (p : ProcedureTree). p.name) (map procedure_tree s.procedures.items.items) in
    ap (λ ns. has_name ns n) (sym (map-map (λ (p : ProcedureTree). p.name) procedure_tree s.procedures.items.items))
    ∙ or-right (has_name pures n) (has_name procedures n) (sym (has_name-append pures procedures n)
    ∙ c.requires.new)
