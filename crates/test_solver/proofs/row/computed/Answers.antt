use Rattle.std.proofs.Common.{◌∙◌, refl, sym, subst, List, [], None, ℤ, FitsSigned, to_z, of_z, w64, rules}
use Rattle.std.proofs.lemmas.Int.{to_z-of_z}
use Rattle.diagram_blocks.specs.declared.Op.{Op}
use Rattle.diagram_blocks.specs.Evaluation.{IsEvaluable}
use Rattle.diagram_meaning.specs.ResolvedTree.{diagram_of}
use Rattle.diagram_meaning.specs.Diagram.{op_at}
use Rattle.diagram_meaning.specs.Run.{input_values}
use Rattle.diagram_typed_runs.proofs.lemmas.Evaluable.{computable}
use Rattle.test_solver.proofs.row.computed.Goals as goal

pub rhs-requires : goal.rhs-requires
rhs-requires c =
    let d = diagram_of c.args.tick.now.diagram.now in
    let own = input_values d None c.args.tick.now.inputs.now c.args.values.now [] c.args.b in
    let memory_fits : FitsSigned w64 c.args.memory = search rules in
    let read = c.as_slice.ensures.value ∙ c.in_ok-read.ensures in
    subst (λ (op : Op). IsEvaluable op c.as_slice.result.now (to_z w64 (of_z w64 c.args.memory))) (sym c.op.ensures.op)
    (subst (λ (vs : List ℤ). IsEvaluable (op_at d c.args.b) vs (to_z w64 (of_z w64 c.args.memory))) (sym read)
    (subst (λ (memory : ℤ). IsEvaluable (op_at d c.args.b) own memory) (sym (to_z-of_z w64 c.args.memory memory_fits))
    (computable c.args.tick.now.diagram.now c.op.ensures.resolved c.args.b c.requires.row None refl c.args.tick.now.inputs.now c.args.values.now
    c.requires.inputs c.requires.values.each c.args.memory c.requires.memory)))
