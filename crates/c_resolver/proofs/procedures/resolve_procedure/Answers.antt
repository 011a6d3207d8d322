use Rattle.std.proofs.Common.{sym, ◌∙◌, ap, map, ℕ, List, Ok}
use Rattle.c_syntax.specs.declared.code.CType.{CType}
use Rattle.c_syntax.specs.Plain.{procedure_tree, stmt_tree, param_trees}
use Rattle.c_syntax.specs.Tree.{stmts_of_list}
use Rattle.c_grammar.specs.Written.{WrittenParam}
use Rattle.c_rules.specs.Resolve.{on_line, resolve_procedure}
use Rattle.c_grammar.specs.declared.written.WrittenParam.{WrittenParam as TypedParam}
use Rattle.c_grammar.specs.WrittenTrees.{procedure_of, param_of}
use Rattle.c_resolver.specs.Scopes.{known_of}
use Rattle.c_rules.proofs.lemmas.NamedPlaces.{map-map}
use Rattle.c_rules.proofs.lemmas.Fails.{gives-same}
use Rattle.c_resolver.proofs.ProcedureLaws.{new_name, fails_body, gives_procedure}
use Rattle.c_resolver.proofs.procedures.resolve_procedure.Goals as goal

pub returns-in_err-body-clause-resolved : goal.returns-in_err-body-clause-resolved
returns-in_err-body-clause-resolved c =
    let known = known_of c.args.known.now in
    let p = procedure_of c.args.p.now in
    let head = ap (on_line p.line) (sym c.resolve_head.ensures) ∙ sym c.on_line.ensures ∙ c.in_ok-of.was in
    let e = c.in_err-body.field-0.0 in
    gives-same procedure_tree c.from_residual-in_err-body.result e
    (resolve_procedure known p) c.from_residual-in_err-body.ensures.1
    (fails_body known p c.in_ok-of.of head e c.in_err-body.ensures)

pub returns-clause-resolved : goal.returns-clause-resolved
returns-clause-resolved c =
    let known = known_of c.args.known.now in
    let p = procedure_of c.args.p.now in
    let items = c.args.p.now.params.items in
    let head = ap (on_line p.line) (sym c.resolve_head.ensures) ∙ sym c.on_line.ensures ∙ c.in_ok-of.was in
    let typed = c.in_ok-params.ensures ∙ ap (map (λ (q : TypedParam). (q.name.now, q.ty))) c.as_slice.ensures.value in
    let params =
    ap param_trees typed ∙ map-map (λ (q : List ℕ × CType). record { name = q.0; type = q.1 })
    (λ (q : TypedParam). (q.name.now, q.ty)) items
    ∙ sym (map-map (λ (q : WrittenParam). record { name = q.name; type = q.type }) param_of items) in
    let xs = stmts_of_list (map stmt_tree c.in_ok-body.body.items) in
    gives_procedure known p c.in_ok-of.of head xs c.in_ok-body.ensures
    ∙ (λ j. Ok (record {
      name = sym c.in_ok-name.ensures j;
      private = p.private;
      of = c.in_ok-of.of;
      params = sym params j;
      body = xs;
    }))

pub returns-clause-new : goal.returns-clause-new
returns-clause-new c =
    let known = known_of c.args.known.now in
    let p = procedure_of c.args.p.now in
    let head = ap (on_line p.line) (sym c.resolve_head.ensures) ∙ sym c.on_line.ensures ∙ c.in_ok-of.was in
    new_name known p c.in_ok-of.of head
