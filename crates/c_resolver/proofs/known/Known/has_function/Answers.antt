use Rattle.std.proofs.Common.{refl, sym, ◌∙◌, true, false, map, ◌++◌}
use Rattle.c_syntax.specs.Plain.{pure_tree, procedure_tree}
use Rattle.c_syntax.specs.Tree.{PureTree, ProcedureTree}
use Rattle.c_syntax.specs.Outputs.{has_name}
use Rattle.c_syntax.specs.declared.program.Procedure.{Procedure}
use Rattle.c_syntax.specs.declared.program.Pure.{Pure}
use Rattle.c_rules.proofs.lemmas.NamedPlaces.{map-map, either_named}
use Rattle.c_resolver.proofs.known.Known.has_function.Goals as goal

pub returns-then-contains : goal.returns-then-contains
returns-then-contains c =
    c.if-contains.true ∙ (let k = c.args.self.now in
    let pures = map-map (λ (p : PureTree). p.name) pure_tree k.pures.items.items in
    let procedures = map-map (λ (p : ProcedureTree). p.name) procedure_tree k.procedures.items.items in
    let pure_names = map (λ (p : Pure). p.name) k.pures.items.items in
    let procedure_names = map (λ (p : Procedure). p.name) k.procedures.items.items in
    either_named pure_names procedure_names (map (λ (p : PureTree). p.name) (map pure_tree k.pures.items.items)
    ++ map (λ (p : ProcedureTree). p.name) (map procedure_tree k.procedures.items.items)) c.args.name.now true
    (has_name procedure_names c.args.name.now) (sym c.if-contains.true ∙ c.contains.ensures) refl
    (λ i. pures i ++ procedures i))

pub returns-else-contains : goal.returns-else-contains
returns-else-contains c =
    let k = c.args.self.now in
    let pures = map-map (λ (p : PureTree). p.name) pure_tree k.pures.items.items in
    let procedures = map-map (λ (p : ProcedureTree). p.name) procedure_tree k.procedures.items.items in
    let pure_names = map (λ (p : Pure). p.name) k.pures.items.items in
    let procedure_names = map (λ (p : Procedure). p.name) k.procedures.items.items in
    either_named pure_names procedure_names (map (λ (p : PureTree). p.name) (map pure_tree k.pures.items.items)
    ++ map (λ (p : ProcedureTree). p.name) (map procedure_tree k.procedures.items.items)) c.args.name.now false
    c.contains-else-contains.result (sym c.if-contains.false ∙ c.contains.ensures) c.contains-else-contains.ensures
    (λ i. pures i ++ procedures i)
