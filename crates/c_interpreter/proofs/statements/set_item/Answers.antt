use Rattle.std.proofs.Common.{SFits, w64, rules}
use Rattle.std.proofs.lemmas.Int.{to_z-of_z}
use Rattle.c_syntax.specs.Plain.{expr_tree}
use Rattle.c_interpreter.specs.Frames.{scope_in}
use Rattle.c_interpreter.proofs.Outcomes.{assign_at_gives, assign_at_sticks}
use Rattle.c_interpreter.proofs.statements.set_item.Goals as goal

pub returns-in-Ok-clause-ran : goal.returns-in-Ok-clause-ran
returns-in-Ok-clause-ran c =
    let f : SFits w64 c.in-Ok.value = search rules in
    assign_at_gives (scope_in c.args.frame.now) c.args.assignment.now.line c.args.assignment.now.field c.args.cost.now.steps c.args.cost.now.calls _
    (expr_tree c.args.assignment.now.index.now) (expr_tree c.args.assignment.now.value.now) _ c.in_ok-take_step.ensures.taken _ _ _ _ _
    c.in_ok-place.ensures.value c.in-Ok.ensures.value
    (simp to_z-of_z at
    (c.store_at.ensures (record { steps = c.value_of.new.steps; calls = c.args.cost.now.calls })))

pub returns-in-Err-clause-ran : goal.returns-in-Err-clause-ran
returns-in-Err-clause-ran c =
    assign_at_sticks (scope_in c.args.frame.now) c.args.assignment.now.line c.args.assignment.now.field c.args.cost.now.steps c.args.cost.now.calls _
    (expr_tree c.args.assignment.now.index.now) (expr_tree c.args.assignment.now.value.now) _ c.in_ok-take_step.ensures.taken _ _ _
    c.in_ok-place.ensures.value c.in-Err.ensures.value
