use Rattle.std.proofs.Common.{◌≡◌, ◌<◌, ◌∙◌, [], ◌∷◌, map, ap, arith}
use Rattle.std.proofs.lemmas.List.{map-append}
use Rattle.diagram_blocks.specs.Meaning.{delay_length}
use Rattle.diagram_meaning.specs.Diagram.{op_at}
use Rattle.diagram_meaning.specs.ResolvedTree.{diagram_of}
use Rattle.lustre_syntax.specs.Plain.{equation_tree}
use Rattle.lustre_row_equations.specs.Placed.{placed_equation}
use Rattle.lustre_row_equations.proofs.Samples.{fewer_left}
use Rattle.lustre_row_equations.proofs.memories.sample_equations.Goals as goal

pub loop-k-preserved : goal.loop-k-preserved
loop-k-preserved c =
    let d = diagram_of c.args.scope.now.diagram.now in
    let k = c.loop-k.k in
    let before = c.loop-k.equations.items in
    let equation = c.in_ok-sample_equation.field-0 in
    let same : c.delay_length-length.result ≡ delay_length (op_at d c.args.b) =
    c.delay_length-length.ensures ∙ ap delay_length c.op_at.ensures in
    let less : k < delay_length (op_at d c.args.b) = omega (arith, c.loop-k-test.true, same) in
    fewer_left d c.args.b (placed_equation c.args.scope.now.names.now) _ (map equation_tree before)
    (map equation_tree c.push.new.self.items) k (equation_tree equation) less c.loop-k.invariant
    c.in_ok-sample_equation.ensures
    (ap (map equation_tree) c.in_ok-push.ensures.items ∙ map-append equation_tree before (equation ∷ []))
