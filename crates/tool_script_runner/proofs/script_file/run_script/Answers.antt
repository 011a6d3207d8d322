use Rattle.base_host.specs.Reading.{source}
use Rattle.tool_script_runner.specs.Standings.{standing}
use Rattle.tool_script_runner.proofs.Files.{nothing_read}
use Rattle.tool_script_runner.proofs.RightAnswers.{right_run}
use Rattle.tool_script_runner.proofs.script_file.run_script.Goals as goal

pub returns-in_default-clause-ran : goal.returns-in_default-clause-ran
returns-in_default-clause-ran g c =
    nothing_read (source (g.H.Host.rest c.args.host.now) (g.H.Host.given c.args.host.now)) (standing c.args.driver.now c.args.totals.now (g.S.Sink.bytes c.args.sink.now))

pub returns-in_default-clause-right : goal.returns-in_default-clause-right
returns-in_default-clause-right g c = λ w stands.
    let s = standing c.args.driver.now c.args.totals.now (g.S.Sink.bytes c.args.sink.now) in
    let rest = source (g.H.Host.rest c.args.host.now) (g.H.Host.given c.args.host.now) in
    right_run c.answers_are_right.ensures w _ rest rest s s (nothing_read rest s) stands

pub returns-clause-right : goal.returns-clause-right
returns-clause-right g c = λ w stands.
    let s = standing c.args.driver.now c.in-Ok-Ok-Ok.run'.totals (g.S.Sink.bytes c.args.sink.now) in
    let s' = standing c.run_pieces-ran.new.driver c.run_pieces-ran.new.run.totals (g.S.Sink.bytes c.run_pieces-ran.new.sink) in
    right_run c.answers_are_right.ensures w c.run_pieces-ran.result _ _ s s' c.run_pieces-ran.ensures.ran stands
