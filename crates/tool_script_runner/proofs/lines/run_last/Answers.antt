use Rattle.std.proofs.Common.{◌≢◌, rules, length}
use Rattle.std.specs.Prelude.{Err}
use Rattle.tool_stream.proofs.lemmas.Waiting.{if_err, if_ok}
use Rattle.tool_scripts.specs.Pieces.{calls_after}
use Rattle.tool_driver.specs.Shapes.{inputs_of}
use Rattle.tool_script_runner.specs.declared.outcome.ScriptFault.TheVariants.{Out}
use Rattle.tool_script_runner.specs.Walks.{inside}
use Rattle.tool_script_runner.proofs.Walks.{last_flushed, last_cut}
use Rattle.tool_script_runner.proofs.lines.run_last.Goals as goal
use Rattle.tool_script_runner.proofs.lines.run_last.Goals.{in-Err+in-Read-1, in-Ok-1}

pub returns-then-is_err-clause-ran : goal.returns-then-is_err-clause-ran
returns-then-is_err-clause-ran g c =
    let other : c.answer_last-ran.result ≢ Err Out =
    elim c.match-ran.branch [ in-Err+in-Read-1 w ↦ search rules | in-Ok-1 w ↦ search rules ] in
    last_cut c.answer_last-ran.result c.args.run.now.done
    (calls_after c.args.run.now.done c.args.counts.now (length (inputs_of c.args.driver.now.shape)) c.args.text.now)
    (inside c.args.driver.now c.args.run.now (g.S.Sink.bytes c.args.sink.now))
    (inside c.answer_last-ran.new.driver c.answer_last-ran.new.run (g.S.Sink.bytes c.answer_last-ran.new.sink))
    (g.S.Sink.bytes c.flush.new.sink) c.flush.new.self
    (if_err c.flush.result c.if-is_err.ensures.value c.flush.ensures.front) other c.answer_last-ran.ensures.ran

pub returns-clause-ran : goal.returns-clause-ran
returns-clause-ran g c =
    let other : c.answer_last-ran.result ≢ Err Out =
    elim c.match-ran.branch [ in-Err+in-Read-1 w ↦ search rules | in-Ok-1 w ↦ search rules ] in
    last_flushed c.answer_last-ran.result c.args.run.now.done
    (calls_after c.args.run.now.done c.args.counts.now (length (inputs_of c.args.driver.now.shape)) c.args.text.now)
    (inside c.args.driver.now c.args.run.now (g.S.Sink.bytes c.args.sink.now))
    (inside c.answer_last-ran.new.driver c.answer_last-ran.new.run (g.S.Sink.bytes c.answer_last-ran.new.sink))
    (g.S.Sink.bytes c.flush.new.sink) c.flush.new.self
    (if_ok c.flush.result c.if-is_err.ensures.value c.flush.ensures.whole) c.flush.ensures.empty other c.answer_last-ran.ensures.ran
