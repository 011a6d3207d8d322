use Rattle.std.proofs.Common.{◌∙◌, ap, sym, subst, length}
use Rattle.tool_scripts.specs.Calls.{read_as}
use Rattle.tool_scripts.specs.Pieces.{calls_after, IsLastCall}
use Rattle.tool_driver.specs.Shapes.{inputs_of}
use Rattle.tool_script_runner.proofs.Walks.{last_answered, last_none, last_bad}
use Rattle.tool_script_runner.proofs.OneCall.{counts_within}
use Rattle.tool_script_runner.proofs.lines.answer_last.Goals as goal

pub fill_last-requires-clause-most : goal.fill_last-requires-clause-most
fill_last-requires-clause-most g c =
    counts_within c.args.counts.now c.args.driver.now.shape c.args.run.now.values.items c.requires.counts c.requires.room.values

pub returns-in-Ok-Some-clause-ran : goal.returns-in-Ok-Some-clause-ran
returns-in-Ok-Some-clause-ran g c =
    let last = rw c.in-Ok-Some.field-0-is at c.in-Ok-Some.ensures.last in
    last_answered c.args.text.now c.args.counts.now (length (inputs_of c.args.driver.now.shape))
    (read_as c.in-Ok-Some.read c.fill_last.new.run.values.items) c.args.driver.now c.args.run.now c.fill_last.new.run
    (g.S.Sink.bytes c.args.sink.now) _ c.answer.result c.fill_last.ensures.filled
    (subst (λ n. IsLastCall c.args.text.now c.args.counts.now n c.args.run.now.done
    (read_as c.in-Ok-Some.read c.fill_last.new.run.values.items))
    c.requires.room.values last)
    c.answer.ensures.answered

pub returns-in-Ok-None-clause-ran : goal.returns-in-Ok-None-clause-ran
returns-in-Ok-None-clause-ran g c =
    let last = rw c.in-Ok-None.field-0-is at c.in-Ok-None.ensures.last in
    last_none _ c.args.driver.now c.args.run.now c.fill_last.new.run (g.S.Sink.bytes c.args.sink.now) c.fill_last.ensures.filled
    (ap (λ n. calls_after c.args.run.now.done c.args.counts.now n c.args.text.now) (sym c.requires.room.values) ∙ last)

pub returns-in-Err-clause-ran : goal.returns-in-Err-clause-ran
returns-in-Err-clause-ran g c =
    last_bad c.in-Err.bad _ c.args.driver.now c.args.run.now c.fill_last.new.run (g.S.Sink.bytes c.args.sink.now) c.fill_last.ensures.filled
    (ap (λ n. calls_after c.args.run.now.done c.args.counts.now n c.args.text.now) (sym c.requires.room.values) ∙ c.in-Err.ensures.last)
