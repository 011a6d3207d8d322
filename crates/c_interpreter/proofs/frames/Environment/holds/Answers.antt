use Rattle.c_syntax.specs.Plain.{cond_tree}
use Rattle.c_interpreter.proofs.BodyReads.{eval_cond_same}
use Rattle.c_interpreter.proofs.frames.Environment.holds.Goals as goal

pub returns-clause-value : goal.returns-clause-value
returns-clause-value c =
    eval_cond_same c.view-view.result _ _ c.args.steps.now
    (cond_tree c.args.test.now) _ _ c.view-view.ensures.pures c.view-view.ensures.line
    c.view-view.ensures.reads c.eval_cond.ensures.value
