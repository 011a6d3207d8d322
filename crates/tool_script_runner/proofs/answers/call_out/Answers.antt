use Rattle.std.proofs.Common.{◌∙◌, List, take, ap, sym, subst, rules}
use Rattle.tool_script_runner.proofs.Numbers.{written_over}
use Rattle.std.specs.Prelude.{ℤ}
use Rattle.tool_script_runner.specs.Walks.{HasTold}
use Rattle.tool_script_runner.specs.declared.run.Run.{Run}
use Rattle.tool_script_runner.proofs.CallBounds.{out-bounded}
use Rattle.tool_script_runner.proofs.OneCall.{told_counted}
use Rattle.tool_script_runner.proofs.answers.call_out.Goals as goal

pub count-requires-clause-steps : goal.count-requires-clause-steps
count-requires-clause-steps c = (out-bounded _ _ _ _ _ _ c.in-Ok.ensures.answered.answer.made.made).0

pub count-requires-clause-calls : goal.count-requires-clause-calls
count-requires-clause-calls c = (out-bounded _ _ _ _ _ _ c.in-Ok.ensures.answered.answer.made.made).1

pub returns-in-Ok-clause-told : goal.returns-in-Ok-clause-told
returns-in-Ok-clause-told c =
    let numbers = take c.in-Ok.end c.call_with.new.numbers in
    let same =
    ap (λ (r : Run). take c.in-Ok.end r.numbers.items) c.count.ensures.counted
    ∙ ap (take c.in-Ok.end)
    (written_over c.call_with.new.numbers c.args.run.now.numbers.items c.args.run.now.numbers.len (search rules) (search rules)) in
    subst (λ (v : List ℤ). HasTold c.args.function (take c.args.count v) (take c.in-Ok.end c.count.new.self.numbers.items) c.args.driver.now
    c.call_with.new.driver c.args.run.now.totals c.count.new.self.totals)
    c.deref.ensures.value
    (subst (λ (n : List ℤ). HasTold c.args.function
    (take c.args.count c.deref.result.now) n c.args.driver.now c.call_with.new.driver c.args.run.now.totals c.count.new.self.totals)
    (sym same)
    (told_counted c.args.function (take c.args.count c.deref.result.now) numbers c.in-Ok.cost c.args.driver.now c.call_with.new.driver
    c.args.run.now.totals c.count.new.self.totals
    c.in-Ok.ensures.answered (ap (λ (r : Run). r.totals) c.count.ensures.counted)))
