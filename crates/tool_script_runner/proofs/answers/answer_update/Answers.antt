use Rattle.std.proofs.Common.{List, take, ap, subst}
use Rattle.std.specs.Prelude.{ℤ}
use Rattle.tool_script_runner.specs.Walks.{HasUpdated}
use Rattle.tool_script_runner.specs.declared.run.Run.{Run}
use Rattle.tool_script_runner.proofs.CallBounds.{update-bounded}
use Rattle.tool_script_runner.proofs.OneCall.{update_counted}
use Rattle.tool_script_runner.proofs.answers.answer_update.Goals as goal

pub count-requires-clause-steps : goal.count-requires-clause-steps
count-requires-clause-steps c = (update-bounded _ _ _ _ c.in-Ok.ensures.answered.made.made).0

pub count-requires-clause-calls : goal.count-requires-clause-calls
count-requires-clause-calls c = (update-bounded _ _ _ _ c.in-Ok.ensures.answered.made.made).1

pub returns-in-Ok-clause-told : goal.returns-in-Ok-clause-told
returns-in-Ok-clause-told c =
    subst (λ (v : List ℤ). HasUpdated
    (take c.args.count v) c.args.driver.now c.update_with_first.new.driver c.args.run.now.totals c.count.new.self.totals)
    c.deref.ensures.value
    (update_counted (take c.args.count c.deref.result.now) c.in-Ok.cost c.args.driver.now c.update_with_first.new.driver
    c.args.run.now.totals c.count.new.self.totals
    c.in-Ok.ensures.answered (ap (λ (r : Run). r.totals) c.count.ensures.counted))
