use Rattle.std.proofs.Common.{◌≡◌, sym, ◌∙◌, ap, subst, map, [], List, ℕ, Bool}
use Rattle.std.proofs.lemmas.Result.{IfOk-weaker}
use Rattle.c_rules.specs.Gives.{Gives}
use Rattle.c_rules.specs.Resolve.{check_params}
use Rattle.c_rules.proofs.lemmas.NamedPlaces.{map-map}
use Rattle.lustre_syntax.specs.Tree.{Declared}
use Rattle.lustre_syntax.specs.Plain.{declared_names}
use Rattle.lustre_grammar.specs.declared.written.LusWrittenDecl.{LusWrittenDecl}
use Rattle.lustre_grammar.specs.Written.{WrittenDeclared}
use Rattle.lustre_grammar.specs.WrittenTrees.{declared_of, node_of}
use Rattle.lustre_rules.specs.Resolve as rules
use Rattle.lustre_resolver.specs.declared.known.Names.{Names}
use Rattle.lustre_resolver.specs.Scopes.{names_of, line_and_text}
use Rattle.lustre_resolver.proofs.known.Names.of.Goals as goal

pub returns-clause-checked : goal.returns-clause-checked
returns-clause-checked c =
    let pairs = ap (map line_and_text) c.as_slice.ensures.value
    ∙ sym (map-map (λ (d : WrittenDeclared). (d.line, d.text)) declared_of c.in_ok-all.all.items)
    ∙ ap (map (λ (d : WrittenDeclared). (d.line, d.text))) c.in_ok-all.ensures in
    subst (λ (ps : List (ℕ × List ℕ)). Gives (λ names. tt) c.declared_as.result (check_params [] [] ps)) pairs
    c.declared_as.ensures.checked

pub returns-clause-names : goal.returns-clause-names
returns-clause-names c =
    let typed : LusWrittenDecl → List ℕ × Bool = λ d. (d.name.now, d.is_bool) in
    let declared : List ℕ × Bool → Declared = λ x. record { text = x.0; type = x.1 } in
    let seen : WrittenDeclared → Declared = λ d. record { text = d.text; type = d.type } in
    let same = ap (map typed) c.as_slice.ensures.value in
    let trees = map-map declared typed c.in_ok-all.all.items
    ∙ sym (map-map seen declared_of c.in_ok-all.all.items)
    ∙ ap (map seen) c.in_ok-all.ensures in
    IfOk-weaker c.declared_as.result (λ (names : Names). names.declared.items ≡ map typed c.as_slice.result.now)
    (λ (names : Names). names_of names ≡ rules.declared_names (node_of c.args.n.now))
    (λ names h. ap declared_names (h ∙ same) ∙ trees) c.declared_as.ensures.names
