use Rattle.std.proofs.Common.{ℕ, Bool, List, map, ap, ◌∙◌}
use Rattle.diagram_meaning.specs.ResolvedTree.{diagram_of}
use Rattle.lustre_syntax.specs.Named.{NamedEquation, place_of, renamed_equation}
use Rattle.lustre_syntax.specs.Plain.{equation_tree}
use Rattle.lustre_system.specs.File.{root_node}
use Rattle.lustre_expressions.specs.Found.{place_in}
use Rattle.lustre_emitter.specs.RootParts.{equations_of}
use Rattle.lustre_emitter.proofs.NodeParts.{node-made}
use Rattle.lustre_emitter.proofs.Roots.{root-inputs, root-outputs, root-names, root-equations}
use Rattle.lustre_emitter.proofs.root.root_node.Goals as goal

pub returns : goal.returns
returns c =
    let d = diagram_of c.args.r.now in
    let hyper = c.args.r.now.times.hyper in
    let inputs = c.in_ok-inputs.inputs in
    let outputs = c.in_ok-outputs.outputs in
    let some = c.in_ok-inputs.ensures in
    let given = c.in_ok-outputs.ensures in
    let callee = place_in c.args.callees.now.places.now in
    node-made callee (root_node d hyper) c.in_ok-named.field-0 c.in_ok-small.field-0 c.in_ok-small-2.field-0 c.in_ok-names.names.items
    (map equation_tree c.in_ok-equations.equations.items) c.in_ok-named.ensures
    (c.in_ok-small.ensures ∙ root-inputs d hyper inputs outputs some given)
    (c.in_ok-small-2.ensures ∙ root-outputs d hyper inputs outputs some given)
    (c.in_ok-names.ensures ∙ root-names d hyper inputs outputs some given)
    (c.in_ok-equations.ensures
    ∙ ap (λ (ns : List (List ℕ × Bool)). map (renamed_equation (place_of (map (λ x. x.0) ns)) callee)
    (equations_of c.hyper_of-hyper.result inputs outputs)) c.as_slice.ensures.value
    ∙ ap (λ h. map (renamed_equation (place_of (map (λ x. x.0) c.in_ok-names.names.items)) callee) (equations_of h inputs outputs))
    c.hyper_of-hyper.ensures
    ∙ ap (λ (es : List NamedEquation). map (renamed_equation (place_of (map (λ x. x.0) c.in_ok-names.names.items)) callee) es)
    (root-equations d hyper inputs outputs some given))
