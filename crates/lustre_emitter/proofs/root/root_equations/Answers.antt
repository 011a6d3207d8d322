use Rattle.std.proofs.Common.{List, [], ◌∷◌, ◌++◌, map, ap, ◌∙◌}
use Rattle.lustre_syntax.specs.declared.code.LusEq.{LusEq}
use Rattle.lustre_syntax.specs.Named.{place_of}
use Rattle.lustre_syntax.specs.Plain.{equation_tree}
use Rattle.lustre_expressions.specs.Found.{place_in}
use Rattle.lustre_emitter.specs.RootParts.{now_equation, top_equation}
use Rattle.lustre_emitter.proofs.NodeParts.{equation-alike}
use Rattle.lustre_emitter.proofs.root.root_equations.Goals as goal

pub returns : goal.returns
returns c =
    let places = place_in c.in_ok-places.places in
    let texts = place_of (map (λ x. x.0) c.args.names.now) in
    let callee = place_in c.args.callees.now.places.now in
    let now = c.in_ok-now_equation.ensures callee
    ∙ equation-alike places texts c.in_ok-places.ensures callee (now_equation c.args.counts.hyper) in
    let top = c.in_ok-top.ensures
    ∙ equation-alike places texts c.in_ok-places.ensures callee (top_equation c.args.counts.inputs c.args.counts.outputs) in
    ap (λ (es : List LusEq). map equation_tree es)
    (c.in_ok-push-2.ensures.items ∙ ap (λ (es : List LusEq). es ++ c.in_ok-top.top ∷ [])
    (c.in_ok-push.ensures.items ∙ ap (λ (es : List LusEq). es ++ c.in_ok-now_equation.field-0 ∷ []) c.new-equations.ensures.items))
    ∙ (λ i. now i ∷ top i ∷ [])
