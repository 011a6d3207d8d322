use Rattle.std.proofs.Common.{◌≡◌, sym, ◌∙◌, ap, subst, map, [], ℕ, List, Result, Ok, Err, IfOk}
use Rattle.c_syntax.specs.declared.fault.CFault.{CFault}
use Rattle.c_grammar.specs.declared.fault.ReadCFault.{ReadCFault}
use Rattle.c_grammar.specs.Written.{WrittenParam}
use Rattle.c_rules.specs.Resolve.{function_names, check_params}
use Rattle.c_grammar.specs.declared.written.WrittenPureParam.{WrittenPureParam as PlainParam}
use Rattle.c_grammar.specs.declared.written.WrittenParam.{WrittenParam as TypedParam}
use Rattle.c_grammar.specs.WrittenTrees.{param_of}
use Rattle.c_outputs.specs.declared.name_table.NameTable.{NameTable}
use Rattle.c_rules.specs.Gives.{Gives}
use Rattle.c_resolver.specs.Scopes.{known_of}
use Rattle.c_resolver.specs.Params.{line_and_name, plain_param}
use Rattle.c_rules.proofs.lemmas.NamedPlaces.{map-map}
use Rattle.c_resolver.proofs.procedures.resolve_names.Goals as goal

-- the lines and names of parameters without their types
lines-plain : (params : List TypedParam) → map line_and_name (map plain_param params)
    ≡ map (λ (q : WrittenParam). (q.line, q.name)) (map param_of params)
lines-plain params = map-map line_and_name plain_param params ∙ sym (map-map (λ (q : WrittenParam). (q.line, q.name)) param_of params)

names-plain : (params : List TypedParam) → map (λ (q : PlainParam). q.name.now) (map plain_param params)
    ≡ map (λ (q : WrittenParam). q.name) (map param_of params)
names-plain params =
    map-map (λ (q : PlainParam). q.name.now) plain_param params ∙ sym (map-map (λ (q : WrittenParam). q.name) param_of params)

if-ok : (view : NameTable → List (List ℕ)) (r : Result NameTable ReadCFault) {ns more : List (List ℕ)} → ns ≡ more →
    IfOk r (λ names. view names ≡ ns) → IfOk r (λ names. view names ≡ more)
if-ok view (Ok names) same h = h ∙ same
if-ok view (Err fault) same h = tt

pub returns-clause-checked : goal.returns-clause-checked
returns-clause-checked c =
    let functions = function_names (known_of c.args.known.now) in
    let plain = c.as_slice.ensures.value ∙ c.in_ok-plain.ensures in
    subst (λ (ruled : Result (Unit {0}) CFault). Gives (λ (names : NameTable). tt) c.resolve_params.result ruled)
    (ap (check_params functions []) (ap (map line_and_name) plain ∙ lines-plain c.args.params.now))
    c.resolve_params.ensures.checked

pub returns-clause-names : goal.returns-clause-names
returns-clause-names c =
    let plain = c.as_slice.ensures.value ∙ c.in_ok-plain.ensures in
    if-ok (λ (names : NameTable). names) c.resolve_params.result
    (ap (map (λ (q : PlainParam). q.name.now)) plain ∙ names-plain c.args.params.now) c.resolve_params.ensures.names
