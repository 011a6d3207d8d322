use Rattle.std.proofs.Common.{arith}
use Rattle.std.specs.Prelude.{option_map}
use Rattle.lustre_syntax.specs.Plain.{expr_tree, file_tree}
use Rattle.lustre_slot_laws.specs.Outcomes.{names_of, expression_at}
use Rattle.lustre_evaluation.specs.Views.{before_by}
use Rattle.lustre_evaluation.proofs.Waiting.{slot_waits, slot_never}
use Rattle.lustre_evaluation.proofs.frames.answer_expression.Goals as goal

pub returns-in-Err-Waits-clause-waits : goal.returns-in-Err-Waits-clause-waits
returns-in-Err-Waits-clause-waits c =
    let f = file_tree c.args.frame.now.file.now in
    let frame = c.args.frame.now in
    slot_waits f c.args.of (option_map (names_of f c.args.of) (before_by frame.begun frame.before.now))
    (before_by c.view_of.result.begun c.view_of.result.before.now) c.args.now.now c.view_of.result.values.now
    (expression_at f c.args.of.node c.args.equation c.args.expression) (expr_tree c.in-Some.e.now)
    c.in-Some.ensures c.view_of.ensures.before c.view_of.ensures.values c.in-Err-Waits.name _ (omega arith)
    (rw c.in-Err-Waits.field-0-is at c.in-Err-Waits.ensures.waits)

pub returns-in-Err-Never-clause-waits : goal.returns-in-Err-Never-clause-waits
returns-in-Err-Never-clause-waits c =
    let f = file_tree c.args.frame.now.file.now in
    let frame = c.args.frame.now in
    slot_never f c.args.of (option_map (names_of f c.args.of) (before_by frame.begun frame.before.now))
    (before_by c.view_of.result.begun c.view_of.result.before.now) c.args.now.now c.view_of.result.values.now
    (expression_at f c.args.of.node c.args.equation c.args.expression) (expr_tree c.in-Some.e.now)
    c.in-Some.ensures c.view_of.ensures.before c.view_of.ensures.values
    (rw c.in-Err-Never.field-0-is at c.in-Err-Never.ensures.waits)
