use Rattle.c_syntax.specs.Plain.{expr_tree}
use Rattle.c_interpreter.proofs.BodyReads.{eval_same}
use Rattle.c_interpreter.proofs.frames.Environment.value_of_any.Goals as goal

pub returns-clause-value : goal.returns-clause-value
returns-clause-value c =
    eval_same c.view-view.result _ _ c.args.steps.now (expr_tree c.args.e.now) _ _ c.view-view.ensures.pures
    c.view-view.ensures.line c.view-view.ensures.reads c.eval_any.ensures.value
