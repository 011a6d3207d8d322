use Rattle.std.specs.Prelude.{codes}
use Rattle.tool_runner.specs.Texts.{outputs_line}
use Rattle.tool_stream.proofs.lemmas.Waiting.{text_then, front_then, front_of_error}
use Rattle.tool_script_runner.proofs.line.put_call.Goals as goal

pub returns-in_err-put-clause-front : goal.returns-in_err-put-clause-front
returns-in_err-put-clause-front g c =
    front_of_error c.from_residual.result c.args.lines.now (codes "out ") (outputs_line c.args.numbers.now) _ _ c.in_err-put.ensures.front

pub returns-clause-taken : goal.returns-clause-taken
returns-clause-taken g c =
    text_then c.put_line.result c.args.lines.now c.put.new.self _ (codes "out ") (outputs_line c.args.numbers.now) _ _ _
    c.in_ok-put.ensures.taken c.put_line.ensures.taken

pub returns-clause-front : goal.returns-clause-front
returns-clause-front g c =
    front_then c.put_line.result c.args.lines.now c.put.new.self (codes "out ") (outputs_line c.args.numbers.now) _ _ _
    c.in_ok-put.ensures.taken c.put_line.ensures.front
